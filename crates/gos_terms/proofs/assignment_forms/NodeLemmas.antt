-- The plan of a wired assignment, of the plans of its two sides as they lie in it; its supplies are of their types and regular.
use Rattle.std.specs.Prelude.{◌≡◌, ℕ, suc, ◌+◌, ◌⊎◌, true, List, [], ◌∷◌, Option, Some, Contains, length, slice_get}
use Rattle.std.proofs.Common.{inl, inr, refl, sym, ◌∙◌, ap, subst, arith}
use Rattle.gos_types.specs.Types.{Type', Com, Exp, Var}
use Rattle.gos_model.specs.Typing.{Imported}
use Rattle.gos_check.specs.declared.linear.Split.{Split}
use Rattle.gos_check.specs.Nodes.{Numbered, Two, OfAssign, type_of_node}
use Rattle.gos_check.specs.Linearity.{used}
use Rattle.gos_plan.specs.Kinds.{Part, Share, Assign, contacts_of}
use Rattle.gos_plan.specs.Plans.{End, PartEnd, ImportEnd, ResultEnd, Joint, Plan, contacts_of_part, stands_in, turned_if}
use Rattle.gos_plan.proofs.JointLemmas.{fits, one_joint, contained}
use Rattle.gos_plan.proofs.ContactLemmas.{import_is_there}
use Rattle.gos_realises.specs.realises.Realises.{NamesDiffer}
use Rattle.gos_realises.proofs.realises.PlaceLemmas.{contains_at, place_of}
use Rattle.gos_joining.specs.webs.Webs.{Dot, Of, Within, Tie, Web, Way, IsOfWeb, joint}
use Rattle.gos_joining.specs.webs.Cutting.{lies_at, StandsIn}
use Rattle.gos_joining.proofs.webs.WebLemmas.{asks_there}
use Rattle.gos_nodes.specs.windows.Regions.{Serving, IsLoyal, IsRegion}
use Rattle.gos_nodes.specs.windows.Nodes.{Stage, IsOfStage}
use Rattle.gos_nodes.specs.windows.OpenNodes.{IsHeard}
use Rattle.gos_nodes.specs.folds.Folds.{IsFold, joined_cut}
use Rattle.gos_nodes.proofs.folds.RegionLemmas.{folded_joint}
use Rattle.gos_compile.specs.Wiring.{Types, parts_of}
use Rattle.gos_terms.specs.wired.Wired.{Supplies, Source, Own, Supplied, Placing, IsWired, source_dot, dot_at, wired_web}
use Rattle.gos_terms.specs.wired.NodeFitting.{AreOfTypes}
use Rattle.gos_sharing.specs.loyal.Seats.{IsSeated}
use Rattle.gos_terms.specs.stages.Inside.{inside_supplies, AreOrdered}
use Rattle.gos_terms.specs.stages.Folding.{Child, is_used, lodge, child_web, child_back, child_cut, child_source, child_fold, child_servings, IsChild, IsLaid}
use Rattle.gos_terms.specs.stages.Regions.{HasParts, IsStaged}
use Rattle.gos_terms.specs.stages.Seated.{supply_seat, LiesIn}
use Rattle.gos_terms.specs.stages.Stages.{stage_of}
use Rattle.gos_terms.proofs.stages.InsideLemmas.{inside_is_of_types}
use Rattle.gos_terms.proofs.stages.LodgingLemmas.{lodged_are_inside}
use Rattle.gos_terms.proofs.stages.SeatedLemmas.{supplies_are_seated}
use Rattle.gos_terms.proofs.stages.LoyalLemmas.{served_is_loyal}
use Rattle.gos_terms.proofs.stages.ChildBackLemmas.{used_in}
use Rattle.gos_terms.proofs.stages.ChildFoldLemmas.{import_of, child_is_folded}
use Rattle.gos_terms.proofs.stages.ChildStageLemmas.{child_is_staged}
use Rattle.gos_terms.proofs.stages.StageLemmas.{has_child_of, laid_of, web_of}
use Rattle.gos_terms.proofs.stages.ChildNameLemmas.{names_below, ends_stand}
use Rattle.gos_terms.specs.numbers.Kept.{IsKept}
use Rattle.gos_terms.specs.numbers.Inherited.{first_numbers, own_numbers, IsPart}
use Rattle.gos_nodes.specs.assignments.Written.{unread}
use Rattle.gos_nodes.specs.assignments.Assignments as assignments
use Rattle.gos_nodes.proofs.windows.PortLemmas.{stands_contact}
use Rattle.gos_terms.specs.assignment_forms.inner.Targets.{target_cut, target_stage}
use Rattle.gos_terms.proofs.assignment_forms.UnreadLemmas.{unread_web}
use Rattle.gos_terms.proofs.assignment_forms.FoldLemmas.{HasTarget, reading, fold, outside, has_child, laid_reading, target_is_fold, target_web, target_is_region}
use Rattle.gos_terms.proofs.assignment_forms.WebLemmas.{variable_child, number_child, open_ties, in_open, open_web}
use Rattle.gos_terms.proofs.assignment_forms.OtherLemmas.{variable_part, number_part}
use Rattle.gos_terms.proofs.assignment_forms.SideLemmas.{variable_is_child, number_is_child, has_target, has_parts, assign_at}
use Rattle.gos_terms.proofs.assignment_forms.CoverLemmas.{covered_so}
use Rattle.gos_terms.proofs.assignment_forms.PlanLemmas.{wired_plan}
use Rattle.gos_terms.proofs.stages.WayLemmas.{way_by_tie}

module _ (types : Types) (ns : List ℕ) (ss : List Split) (w : ℕ) (m n : Numbered) (kept : IsKept types ns (Two Com ss OfAssign m n))
    (var : type_of_node m ≡ Var w) (num : type_of_node n ≡ Exp w)
    (i j : ℕ) (env : Supplies) (pl : Placing) (r : Plan) (wired : IsWired types i j (Two Com ss OfAssign m n) ns env pl r) (of_types : AreOfTypes types env ns)
    (ordered : AreOrdered env ns) where
  abbrev pub g : Child
  g = variable_child types i j ss m n ns env

  abbrev pub f : Child
  f = number_child types i j ss m n ns env

  abbrev pub own : List Part
  own = parts_of types (Two Com ss OfAssign m n)

  abbrev pub ts : List Tie
  ts = open_ties types i j ss m n ns env

  abbrev pub d : ℕ
  d = pl.own (length ss)

  abbrev pub whole : Web
  whole = record { ties = open_ties types i j ss m n ns env; at = dot_at i pl }

  abbrev pub ms : List ℕ
  ms = first_numbers ss ns (used n)

  abbrev pub inner : Supplies
  inner = inside_supplies types ss env

  pub of_variable : IsPart types ss ns (first_numbers ss ns (used n)) m
  of_variable = variable_part types ns ss m n kept

  pub of_number : IsPart types ss ns (own_numbers ss ns n) n
  of_number = number_part types ns ss m n kept

  pub laid : IsLaid own ns env pl r
  laid = record { parts = wired.parts; no_more = wired.no_more; imports = wired.imports; no_import = wired.no_import }

  pub web : IsOfWeb whole r
  web = open_web types i j ss m n ns env pl r wired.outcome wired.web

  pub g_is : IsChild g ts
  g_is = variable_is_child types i j ss w m n ns env kept var num of_types

  pub f_is : IsChild f ts
  f_is = number_is_child types i j ss w m n ns env kept var num of_types

  pub target : HasTarget g own w
  target = has_target types i j ss w m n ns env kept var num

  pub parts : HasParts f own r.outcome
  parts = has_parts types i j ss w m n ns env kept var num r.outcome

  -- the number's plan
  pub number_staged : (plc : Placing) × (c : Plan) × IsStaged f pl plc r c
  number_staged =
      child_is_staged f own ts pl r f_is parts (λ k. let one = of_number.kept.once k in omega (arith, one)) laid web

  -- the variable's
  inner_types : AreOfTypes types inner ms
  inner_types k has = inside_is_of_types types ss env ns of_variable.agree of_variable.split of_types k (of_variable.scope k has).0

  pub variable_wired : (plc : Placing) × (c : Plan) × IsWired types (i + (length ss + 1)) (suc j) m ms inner plc c
  variable_wired = wired_plan types (i + (length ss + 1)) (suc j) m ms inner of_variable.kept inner_types

  module _ (plc : Placing) (c : Plan) (of : IsWired types (i + (length ss + 1)) (suc j) m ms inner plc c) where
    pub laidc : IsLaid (parts_of types m) ms (lodge g).env plc c
    laidc =
        subst (λ (e : Supplies). IsLaid (parts_of types m) ms e plc c) (sym (lodged_are_inside types i (is_used g) ss env))
        (record { parts = of.parts; no_more = of.no_more; imports = of.imports; no_import = of.no_import })

    pub webc : IsOfWeb (child_web g plc) c
    webc =
        subst (λ (e : Supplies). IsOfWeb (wired_web types (i + (length ss + 1)) (suc j) m ms e plc) c) (sym (lodged_are_inside types i (is_used g) ss env)) of.web

    pub region : IsRegion (joined_cut (target_cut g pl plc (length r.parts)) (unread c).joints) (child_servings g pl) r (unread c)
    region = target_is_region g own ts w pl plc r c g_is refl var target of.outcome wired.outcome laid laidc web webc

    loyal : (x : Serving) (k : ℕ) → Contains (child_servings g pl) x → (child_cut g pl plc (length r.parts)).number x.part ≡ Some k → IsLoyal k x.ty x.side c
    loyal x k listed at =
        let (q, named, there, it) =
        served_is_loyal types i (is_used g) ss env ns pl comes c x g_is.tidy g_is.agree g_is.split of_types ordered final
        listed in
        let back = (region.parts q (Share x.ty) there).1 in
        let both : Some k ≡ Some q = sym at ∙ (ap (λ (y : ℕ). (child_cut g pl plc (length r.parts)).number y) (sym named) ∙ back) in
        let same : k ≡ q = cc both in
        subst (λ (y : ℕ). IsLoyal y x.ty x.side c) (sym same) it
      where
        comes : ℕ → Source
        comes q = child_source g (plc.source q)

        final : (q : ℕ) → is_used g q ≡ true → LiesIn c comes (lodge g) q
        final q uses =
            let there : Contains ms q = used_in g ts pl g_is q uses in
            let same = lodged_are_inside types i (is_used g) ss env in
            record {
              seat = supply_seat plc q c;
              seated =
                  subst (λ (e : Supplies). IsSeated (supply_seat plc q c) c (e q).plan) (sym same)
                  (supplies_are_seated types (i + (length ss + 1)) (suc j) m ms inner plc c q of there (inner_types q there).0);
              from =
                  λ k x at_k.
                  ap (child_source g) (of.parts x (Supplied q k) (there, ap (λ (e : Supplies). slice_get (e q).plan.parts k) (sym same) ∙ at_k)).1;
            }

    pub variable_laid : assignments.IsLaid r d (target_stage g pl plc r c) c
    variable_laid =
        record {
          region = region;
          outside = outside g own ts w pl plc r c g_is refl var target of.outcome wired.outcome laid laidc;
          loyal = loyal;
          run_by = λ stands. refl;
          imports =
              λ x listed.
              let (q, at) = place_of c.imports x listed in
              let it = found q x at in
              contains_at r.imports (pl.import ((lodge g).root (plc.origin q).number) (plc.origin q).import) x it;
          ports = ports;
        }
      where
        found : (q : ℕ) (x : Imported) → slice_get c.imports q ≡ Some x
            → slice_get r.imports (pl.import ((lodge g).root (plc.origin q).number) (plc.origin q).import) ≡ Some x
        found q x at =
            (import_of g own ts pl plc (reading w r) c g_is (has_child g own ts w pl plc r c g_is refl var target of.outcome wired.outcome laid laidc)
            (laid_reading g own ts w pl plc r c g_is refl var target of.outcome wired.outcome laid laidc) laidc q x at).there

        ports : (k h : ℕ) → StandsIn (unread c) (ImportEnd k h)
            → (q : ℕ) × (ImportEnd (pl.import ((lodge g).root (plc.origin k).number) (plc.origin k).import) h ≡ ImportEnd q h)
            × (slice_get r.imports q ≡ slice_get c.imports k)
        ports k h stands =
            let (y, at) = stands_contact (unread c) region.right (ImportEnd k h) stands in
            let (x, listed) = import_is_there (slice_get c.imports k) h y at in
            (pl.import ((lodge g).root (plc.origin k).number) (plc.origin k).import, refl, found k x listed ∙ sym listed)

    -- with the number's plan too
    module _ (pln : Placing) (e : Plan) (staged : IsStaged f pl pln r e) where
      abbrev pub Stages : List Stage
      Stages = stage_of f pl pln r e ∷ target_stage g pl plc r c ∷ []

      pub number_fold : IsFold (child_fold f pl pln (length r.parts)) (child_servings f pl) whole (child_web f pln) r e
      number_fold = child_is_folded f own ts pl pln r e f_is (has_child_of f own pl pln r e parts staged) laid (laid_of f pl pln r e staged) web

      pub variable_fold : IsFold (fold g own ts w pl plc r c g_is refl var target of.outcome wired.outcome laid laidc) (child_servings g pl) whole
          (unread_web (child_web g plc)) r (unread c)
      variable_fold = target_is_fold g own ts w pl plc r c g_is refl var target of.outcome wired.outcome laid laidc web

      -- it is asked where an import of it asks, where the names of the whole's imports differ
      pub variable_is_heard : NamesDiffer r.imports → IsHeard (target_stage g pl plc r c).cut r (unread c)
      variable_is_heard differ a h s k x stands at contact asks = (ap (λ (y : ℕ). ImportEnd y s) import_is, back)
        where
          import_is : pl.import ((lodge g).root (plc.origin a).number) (plc.origin a).import ≡ k
          import_is = cc at

          folds : (t : Joint) (y : Dot) → Contains r.joints t
              → (child_back g (dot_at i pl t.asking) ≡ Some y) ⊎ (child_back g (dot_at i pl t.serving) ≡ Some y)
              → (b l : End) × Contains (unread c).joints (joint b l)
              × (lies_at (target_cut g pl plc (length r.parts)) b ≡ t.asking) × (lies_at (target_cut g pl plc (length r.parts)) l ≡ t.serving)
          folds t y listed which =
              folded_joint
              (fold g own ts w pl plc r c g_is refl var target of.outcome wired.outcome laid laidc)
              (child_servings g pl) whole (unread_web (child_web g plc)) r (unread c) t.asking t.serving y
              variable_fold
              (target_web g own ts w pl plc r c g_is refl var target of.outcome wired.outcome laid laidc
              webc) listed which

          back : StandsIn r (ImportEnd k s) → StandsIn (unread c) (ImportEnd a s)
          back =
              ends_stand g own ts pl plc r c g_is laid of (unread c) region.right refl
              (target_cut g pl plc (length r.parts)) (names_below g own ts pl plc r c g_is laid of differ) (λ b q. refl) (λ b q z o lies. cc lies) (λ q z o lies. cc lies) folds a h k s stands import_is

      pub number_joint : (a b : End) (y : Dot) → Contains r.joints (joint a b) → child_back f (dot_at i pl a) ≡ Some y → IsOfStage Stages a b
      number_joint a b y has at =
          let (one, other, there, lies, ends) =
          folded_joint (child_fold f pl pln (length r.parts)) (child_servings f pl) whole (child_web f pln) r e a b y number_fold (web_of f pl pln r e staged) has (inl at)
          in
          (stage_of f pl pln r e, one, other, (0, omega arith, refl), there, lying one ∙ lies, lying other ∙ ends)
        where
          lying : (x : End) → lies_at (stage_of f pl pln r e).cut x ≡ lies_at (child_cut f pl pln (length r.parts)) x
          lying (PartEnd k h) = refl
          lying (ImportEnd k h) = refl
          lying (ResultEnd h) = refl

      pub variable_joint : (a b : End) (y : Dot) → Contains r.joints (joint a b) → child_back g (dot_at i pl a) ≡ Some y → IsOfStage Stages a b
      variable_joint a b y has at =
          let (one, other, there, lies, ends) =
          folded_joint (fold g own ts w pl plc r c g_is refl var target of.outcome wired.outcome laid laidc) (child_servings g pl) whole
          (unread_web (child_web g plc)) r (unread c) a b y variable_fold
          (target_web g own ts w pl plc r c g_is refl var target of.outcome wired.outcome laid laidc webc) has (inl at)
          in
          (target_stage g pl plc r c, one, other, (1, omega arith, refl), there, lying one ∙ lies, lying other ∙ ends)
        where
          lying : (x : End) → lies_at (target_stage g pl plc r c).cut x ≡ lies_at (target_cut g pl plc (length r.parts)) x
          lying (PartEnd k h) = refl
          lying (ImportEnd k h) = refl
          lying (ResultEnd h) = refl

      -- the own part
      pub own_at : (slice_get r.parts d ≡ Some (Assign w)) × (pl.source d ≡ Own (length ss))
      own_at = laid.parts (Assign w) (Own (length ss)) (assign_at types i j ss w m n ns env kept var num)

      pub result : Contains r.joints (joint (ResultEnd 0) (PartEnd d 2))
      result =
          (web.joints (ResultEnd 0) (PartEnd d 2)).1 (
            0,
            0,
            ap (λ (t : Type'). turned_if (slice_get (contacts_of t) 0)) wired.outcome,
            ap (λ (a : Option Part). slice_get (contacts_of_part a) 2) own_at.0,
            subst (λ (s : Source). Way ts (Within 0 (Of (ResultEnd 0))) (source_dot i s 2)) (sym own_at.1)
                (way_by_tie ts (Within 0 (Of (ResultEnd 0))) (Within 0 (Of (PartEnd (i + length ss) 2))) (in_open types i j ss m n ns env _ (inr (inl refl)))),
          )

      is_run : (a b : End) → Contains r.joints (joint a b) → a ≡ ResultEnd 0 → (a ≡ ResultEnd 0) × (b ≡ PartEnd d 2)
      is_run a b has asked =
          let same =
          one_joint r [] r.joints (joint a b) (joint (ResultEnd 0) (PartEnd d 2)) (ResultEnd 0) web.right (contained r.joints (joint a b) has)
          (contained r.joints (joint (ResultEnd 0) (PartEnd d 2)) result)
          (subst (λ (x : End). stands_in x (joint a b) ≡ true) asked (asks_there a b))
          (asks_there (ResultEnd 0) (PartEnd d 2))
          in
          (asked, ap (λ (x : Joint). x.serving) same)

      pub joints : (a b : End) → Contains r.joints (joint a b) → ((a ≡ ResultEnd 0) × (b ≡ PartEnd d 2)) ⊎ IsOfStage Stages a b
      joints a b has =
          let fits_so = fits r [] r.joints (joint a b) web.right (contained r.joints (joint a b) has) in
          elim (covered_so types i j ss w m n ns env kept var num of_types pl r laid wired.outcome a fits_so.0 fits_so.1 fits_so.2) [
            | inl asked ↦ inl (is_run a b has asked)
            | inr more ↦
                elim more [
                  | inl number ↦ (let (y, at) = number in inr (number_joint a b y has at))
                  | inr variable ↦ (let (y, at) = variable in inr (variable_joint a b y has at))
                ]
          ]
