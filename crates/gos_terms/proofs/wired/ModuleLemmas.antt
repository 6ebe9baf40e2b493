-- The plan of a module, joined to its supplies, is its term's node, wired to them: the union of the webs connects the same ends.
--
-- Read first: WayLemmas, PlacingLemmas, TieLemmas. In the union an import's end stands between its number and its supply's
-- result; in the node's web it doesn't.
use Rattle.std.specs.Prelude.{◌≡◌, ◌↔◌, ℕ, zero, suc, ◌+◌, ◌<◌, List, [], ◌∷◌, ◌⊎◌, length, Option, Some, None, Contains, slice_get}
use Rattle.std.proofs.Common.{refl, sym, ◌∙◌, ap, subst, arith, inl, inr}
use Rattle.std.proofs.lemmas.List.Elements.{Contains-append_left, Contains-append_right, Contains-append_cases}
use Rattle.gos_types.specs.Types.{Type'}
use Rattle.gos_model.specs.Typing.{Imports, Imported}
use Rattle.gos_check.specs.Nodes.{Numbered, type_of_node}
use Rattle.gos_plan.specs.Kinds.{Part, Contact}
use Rattle.gos_plan.specs.Plans.{End, PartEnd, ImportEnd, ResultEnd, Joint, Plan, contact_at, contacts_of_part, contacts_of_import}
use Rattle.gos_plan.specs.Joining.{Place, place, Link, LeftImport, all_left, left_place, IsJoining}
use Rattle.gos_ties.specs.declared.points.Place.TheVariants as places
use Rattle.gos_ties.specs.declared.points.Tie as point_ties
use Rattle.gos_ties.specs.Ties as paths
use Rattle.gos_realises.specs.realises.Regular.{count}
use Rattle.gos_realises.specs.realises.Links.{IsJoined}
use Rattle.gos_realises.specs.realises.Modules.{Supply, plans_of, AreSupplied, imports_linked, supplying}
use Rattle.gos_joining.specs.webs.Webs.{Dot, Of, Number, Node, Within, Tie, tie, Web, Way, here, along, joint, IsOfWeb, own_web, SameWays}
use Rattle.gos_joining.proofs.webs.WebLemmas.{same_ways, right_is_of_its_web}
use Rattle.gos_joining.proofs.webs.WayLemmas.{mapped_way, one_way}
use Rattle.gos_joining.specs.unions.Unions.{within, all_within, link_ties, union, AreOfWebs}
use Rattle.gos_joining.specs.unions.Unions as unions
use Rattle.gos_joining.proofs.unions.UnionLemmas.{Image, of_image, in_image, joining_is_union}
use Rattle.gos_joining.proofs.unions.FlatFitLemmas.{links_stand}
use Rattle.gos_joining.proofs.renumbered.SupplyLemmas.{supply_link, of_imports, in_imports}
use Rattle.gos_compile.specs.Wiring.{Types, row, ties_of, import_ties, all_types, all_ties, all_parts, IsPlanOf}
use Rattle.gos_terms.specs.wired.Wired.{dot_of, dot_ties, Supplies, result_ties, all_supply_ties, Source, source_dot, wired_web}
use Rattle.gos_terms.specs.wired.Modules.{supply_at, numbers_from, PathsFit, MakesNoImport, SuppliedIsWired}
use Rattle.gos_realises.proofs.joined.OriginLemmas.{part_of}
use Rattle.gos_terms.proofs.wired.NumberLemmas.{import_in}
use Rattle.gos_terms.proofs.wired.WayLemmas.{way_path, path_way}
use Rattle.gos_terms.proofs.wired.AwayLemmas.{for_import, stays_away, row_away, ties_away, tie_away}
use Rattle.gos_terms.proofs.wired.PlacingLemmas.{left_is, from_plan, source_of, one_less, origin_of, placing, import_numbered, numbered_import, supply_there, number_there, parts_there, no_more_parts, imports_there, left_at_number, no_more_imports}
use Rattle.gos_terms.proofs.wired.TieLemmas.{import_tie, of_import_ties, in_import_ties, result_tie, of_results, in_results, in_supplies, OfSupplies, of_supplies, webs_of, inside, OfWebs, in_webs, of_webs, web_at}
use Rattle.gos_terms.proofs.wired.TypeLemmas.{type_is}

-- joints, in the two ways to say that they are there
has_joint : (js : List Joint) (j : Joint) → Contains js j → paths.Has js j
has_joint [] j (n, small, e) = absurd (omega (arith, small))
has_joint (x ∷ js) j (zero, small, e) = inl e
has_joint (x ∷ js) j (suc n, small, e) = inr (has_joint js j (n, omega (arith, small), e))

joint_there : (js : List Joint) (j : Joint) → paths.Has js j → Contains js j
joint_there [] j has = absurd has
joint_there (x ∷ js) j (inl e) = (0, omega arith, e)
joint_there (x ∷ js) j (inr has) = let (n, small, e) = joint_there js j has in (suc n, omega (arith, small), e)

-- the web of a term
abbrev pub term_web : Imports → Numbered → Web
term_web is m = record { ties = dot_ties (all_ties is m); at = Of }

pub of_term : (is : Imports) (t : Type') (w : ℕ) (m : Numbered) (p : Plan) → IsPlanOf is t w m p → PathsFit (all_ties is m) p → IsOfWeb (term_web is m) p
of_term is t w m p plan fit =
    record {
      right = plan.right;
      fits = λ a b c d at_a at_b differ way. fit a b c d at_a at_b differ (way_path (all_ties is m) a b way);
      joints = λ a b. (
        λ has. (let (q, v, asked, served, path) = (plan.joints a b).0 (has_joint p.joints (joint a b) has) in
            (q, v, asked, served, path_way (all_ties is m) a b path)),
        λ led. joint_there p.joints (joint a b) ((plan.joints a b).1 (led.0, led.1, led.2, led.3, way_path (all_ties is m) a b led.4)),
      );
    }

-- An import's end is left out: it goes to its number.
abbrev moved : Dot → Dot
moved (Of e) = Of e
moved (Number n h) = Number n h
moved (Node n h) = Node n h
moved (Within zero d) = Within zero (for_import d)
moved (Within (suc n) d) = Within (suc n) d

abbrev dot_tie : point_ties.Tie → Tie
dot_tie t = tie (dot_of t.one) (dot_of t.other)

module _ (is : Imports) (m : Numbered) (p : Plan) (ss : List Supply) (imports : p.imports ≡ is) (are : AreSupplied is ss) (makes : MakesNoImport is m)
  where
    abbrev types : Types
    types = all_types is m

    abbrev own_ties : List point_ties.Tie
    own_ties = ties_of types 0 0 m (row places.Result 0 (count (type_of_node m)))

    abbrev env : Supplies
    env = supply_at ss

    abbrev ns : List ℕ
    ns = numbers_from 0 (length is)

    abbrev webs : List Web
    webs = term_web is m ∷ webs_of ss

    abbrev whole : Web
    whole = union (supplying p ss) webs

    abbrev wired : Web
    wired = wired_web types 0 0 m ns env (placing p ss)

    abbrev links : List Link
    links = imports_linked 0 p.imports

    -- a tie of the union leads, in the node's web, between the same dots but for imports' ends
    abbrev Leads : Tie → Type 0
    Leads t = Way wired.ties (moved t.one) (moved t.other)

    by_tie : (t : Tie) → Contains wired.ties t → Way wired.ties t.one t.other
    by_tie t has = one_way wired.ties t.one t.other (inl has)

    import_leads : (i h : ℕ) → Leads (inside 0 (dot_tie (import_tie i h)))
    import_leads i h = here (Within 0 (Number i h))

    own_leads : (v : point_ties.Tie) → Contains own_ties v → Leads (inside 0 (dot_tie v))
    own_leads v has =
        let (one, other) = tie_away own_ties v (ties_away types 0 0 m (row places.Result 0 (count (type_of_node m))) (row_away places.Result tt 0 (count (type_of_node m)))) has in
        let among : Contains wired.ties (inside 0 (dot_tie v)) =
        Contains-append_left (within 0 (dot_ties own_ties)) (all_supply_ties types env ns) (inside 0 (dot_tie v))
        (in_image (inside 0) (dot_ties own_ties) (dot_tie v) (in_image dot_tie own_ties v has))
        in
        let same_one = stays_away v.one one in
        let same_other = stays_away v.other other in
        subst (λ (d : Dot). Way wired.ties (Within 0 d) (Within 0 (for_import (dot_of v.other)))) (sym same_one)
        (subst (λ (d : Dot). Way wired.ties (Within 0 (dot_of v.one)) (Within 0 d)) (sym same_other) (by_tie (inside 0 (dot_tie v)) among))

    supply_leads : (n : ℕ) (s : Supply) (u : Tie) → slice_get ss n ≡ Some s → Contains (own_web s.plan).ties u → Leads (inside (suc n) u)
    supply_leads n s u at has =
        let (number, same) = number_there is ss are n s at in
        let has_env : Contains (own_web (env n).plan).ties u = subst (λ (y : Supply). Contains (own_web y.plan).ties u) (sym same) has in
        let among : Contains wired.ties (inside (suc n) u) =
        Contains-append_right (within 0 (dot_ties own_ties)) (all_supply_ties types env ns) (inside (suc n) u)
        (in_supplies types env ns n (inside (suc n) u) number
        (Contains-append_left (within (suc n) (own_web (env n).plan).ties) (result_ties n 0 (count (types n))) (inside (suc n) u)
        (in_image (inside (suc n)) (own_web (env n).plan).ties u has_env)))
        in
        by_tie (inside (suc n) u) among

    link_leads : (n h : ℕ) (x : Imported) → slice_get is n ≡ Some x → h < count x.ty → Leads (tie (Within 0 (Of (ImportEnd n h))) (Within (suc n) (Of (ResultEnd h))))
    link_leads n h x at small =
        let type = type_is is m makes n x at in
        let low : h < 0 + count (types n) = (let less = subst (λ (t : Type'). h < count t) (sym type) small in omega (arith, less)) in
        let among : Contains wired.ties (result_tie n h) =
        Contains-append_right (within 0 (dot_ties own_ties)) (all_supply_ties types env ns) (result_tie n h)
        (in_supplies types env ns n (result_tie n h) (numbered_import is n x at)
        (Contains-append_right (within (suc n) (own_web (env n).plan).ties) (result_ties n 0 (count (types n))) (result_tie n h)
        (in_results n 0 (count (types n)) h (omega arith) low)))
        in
        by_tie (result_tie n h) among

    abbrev of_link : Link → Tie
    of_link l = tie (unions.dot_at webs l.one) (unions.dot_at webs l.other)

    dots_lead : (v : point_ties.Tie) → Contains (import_ties 0 is) v ⊎ Contains own_ties v → Leads (inside 0 (dot_tie v))
    dots_lead v (inl of_import) =
        let (i, h, e) = of_import_ties 0 is v of_import in
        subst (λ (x : point_ties.Tie). Leads (inside 0 (dot_tie x))) (sym e) (import_leads (0 + i) h)
    dots_lead v (inr own) = own_leads v own

    term_leads : (u : Tie) → Image dot_tie (all_ties is m) u → Leads (inside 0 u)
    term_leads u (v, among, same) =
        subst (λ (x : Tie). Leads (inside 0 x)) same (dots_lead v (Contains-append_cases (import_ties 0 is) own_ties v among))

    supply_at_link : (n h : ℕ) → of_link (supply_link (0 + n) h) ≡ tie (Within 0 (Of (ImportEnd n h))) (Within (suc n) (Of (ResultEnd h)))
    supply_at_link n h =
        let zeros : 0 + n ≡ n = omega arith in
        let there = web_at ss n (ResultEnd h) in
        ap (λ (k : ℕ). of_link (supply_link k h)) zeros ∙ (λ i. tie (Within 0 (Of (ImportEnd n h))) (Within (suc n) (there i)))

    tie_leads : (t : Tie) → Contains whole.ties t → Leads t
    tie_leads t has = by_part (Contains-append_cases (all_within 0 webs) (link_ties webs links) t has)
      where
        of_a_term : Image (inside 0) (dot_ties (all_ties is m)) t → Leads t
        of_a_term (u, among, same) = subst Leads same (term_leads u (of_image dot_tie (all_ties is m) u among))

        of_a_supply : OfWebs 1 ss t → Leads t
        of_a_supply (n, s, u, at, among, same) =
            let next : suc n ≡ 1 + n = omega arith in
            subst Leads (ap (λ (k : ℕ). inside k u) next ∙ same) (supply_leads n s u at among)

        of_a_link : Image of_link links t → Leads t
        of_a_link (l, among, same) =
            let there = of_imports 0 p.imports l among in
            let at : slice_get is there.number ≡ Some there.import = ap (λ (xs : List Imported). slice_get xs there.number) (sym imports) ∙ there.at in
            subst Leads (sym (ap of_link there.same ∙ supply_at_link there.number there.shake) ∙ same)
            (link_leads there.number there.shake there.import at there.small)

        by_web : Contains (within 0 (term_web is m).ties) t ⊎ Contains (all_within 1 (webs_of ss)) t → Leads t
        by_web (inl h) = of_a_term (of_image (inside 0) (dot_ties (all_ties is m)) t h)
        by_web (inr h) = of_a_supply (of_webs 1 ss t h)

        by_part : Contains (all_within 0 webs) t ⊎ Contains (link_ties webs links) t → Leads t
        by_part (inl h) = by_web (Contains-append_cases (within 0 (term_web is m).ties) (all_within 1 (webs_of ss)) t h)
        by_part (inr h) = of_a_link (of_image of_link links t h)

    -- a tie of the node's web leads, in the union, between the same dots
    abbrev Goes : Tie → Type 0
    Goes t = Way whole.ties t.one t.other

    of_whole : (t : Tie) → Contains whole.ties t → Goes t
    of_whole t has = one_way whole.ties t.one t.other (inl has)

    term_in_whole : (v : point_ties.Tie) → Contains (all_ties is m) v → Contains whole.ties (inside 0 (dot_tie v))
    term_in_whole v among =
        Contains-append_left (all_within 0 webs) (link_ties webs links) (inside 0 (dot_tie v))
        (Contains-append_left (within 0 (term_web is m).ties) (all_within 1 (webs_of ss)) (inside 0 (dot_tie v))
        (in_image (inside 0) (dot_ties (all_ties is m)) (dot_tie v) (in_image dot_tie (all_ties is m) v among)))

    own_goes : (u : Tie) → Image dot_tie own_ties u → Goes (inside 0 u)
    own_goes u (v, among, same) =
        subst (λ (x : Tie). Goes (inside 0 x)) same
        (of_whole (inside 0 (dot_tie v)) (term_in_whole v (Contains-append_right (import_ties 0 is) own_ties v among)))

    web_goes : (n : ℕ) (u : Tie) → Contains ns n → Contains (own_web (env n).plan).ties u → Goes (inside (suc n) u)
    web_goes n u number among =
        let next : 1 + n ≡ suc n = omega arith in
        of_whole (inside (suc n) u)
        (Contains-append_left (all_within 0 webs) (link_ties webs links) (inside (suc n) u)
        (Contains-append_right (within 0 (term_web is m).ties) (all_within 1 (webs_of ss)) (inside (suc n) u)
        (subst (λ (k : ℕ). Contains (all_within 1 (webs_of ss)) (inside k u)) next
        (in_webs 1 ss n (env n) u (supply_there is ss are n number) among))))

    result_goes : (n g : ℕ) → Contains ns n → g < count (types n) → Goes (result_tie n g)
    result_goes n g number small =
        let (x, at) = import_numbered is n number in
        let type = type_is is m makes n x at in
        let low : g < count x.ty = subst (λ (t : Type'). g < count t) type small in
        let at_p : slice_get p.imports n ≡ Some x = ap (λ (xs : List Imported). slice_get xs n) imports ∙ at in
        let zeros : 0 + n ≡ n = omega arith in
        let of_import : Contains (all_ties is m) (import_tie n g) =
        Contains-append_left (import_ties 0 is) own_ties (import_tie n g)
        (subst (λ (k : ℕ). Contains (import_ties 0 is) (import_tie k g)) zeros (in_import_ties 0 is n g x at low))
        in
        let linked : Contains whole.ties (tie (Within 0 (Of (ImportEnd n g))) (Within (suc n) (Of (ResultEnd g)))) =
        Contains-append_right (all_within 0 webs) (link_ties webs links) (tie (Within 0 (Of (ImportEnd n g))) (Within (suc n) (Of (ResultEnd g))))
        (subst (λ (u : Tie). Contains (link_ties webs links) u) (supply_at_link n g)
        (in_image of_link links (supply_link (0 + n) g) (in_imports 0 p.imports n g x at_p low)))
        in
        along (Within 0 (Number n g)) (Within 0 (Of (ImportEnd n g))) (Within (suc n) (Of (ResultEnd g))) (inr (term_in_whole (import_tie n g) of_import))
        (one_way whole.ties (Within 0 (Of (ImportEnd n g))) (Within (suc n) (Of (ResultEnd g))) (inl linked))

    tie_goes : (t : Tie) → Contains wired.ties t → Goes t
    tie_goes t has = by_part (Contains-append_cases (within 0 (dot_ties own_ties)) (all_supply_ties types env ns) t has)
      where
        of_own : Image (inside 0) (dot_ties own_ties) t → Goes t
        of_own (u, among, same) = subst Goes same (own_goes u (of_image dot_tie own_ties u among))

        of_web : (n : ℕ) → Contains ns n → Image (inside (suc n)) (own_web (env n).plan).ties t → Goes t
        of_web n number (u, among, same) = subst Goes same (web_goes n u number among)

        of_result : (n : ℕ) → Contains ns n → Contains (result_ties n 0 (count (types n))) t → Goes t
        of_result n number among =
            let (g, low, high, same) = of_results n 0 (count (types n)) t among in subst Goes (sym same) (result_goes n g number (omega (arith, high)))

        by_supply : (n : ℕ) → Contains ns n → Contains (within (suc n) (own_web (env n).plan).ties) t ⊎ Contains (result_ties n 0 (count (types n))) t → Goes t
        by_supply n number (inl h) = of_web n number (of_image (inside (suc n)) (own_web (env n).plan).ties t h)
        by_supply n number (inr h) = of_result n number h

        of_some : OfSupplies types env ns t → Goes t
        of_some (n, number, among) =
            by_supply n number (Contains-append_cases (within (suc n) (own_web (env n).plan).ties) (result_ties n 0 (count (types n))) t among)

        by_part : Contains (within 0 (dot_ties own_ties)) t ⊎ Contains (all_supply_ties types env ns) t → Goes t
        by_part (inl h) = of_own (of_image (inside 0) (dot_ties own_ties) t h)
        by_part (inr h) = of_some (of_supplies types env ns t h)

    -- where the ends of the joining stand in both webs
    dot_there : (a : Place) → unions.dot_at webs a ≡ Within a.plan (Of a.end)
    dot_there a = by_plan a.plan a.end
      where
        by_plan : (n : ℕ) (e : End) → unions.dot_at webs (place n e) ≡ Within n (Of e)
        by_plan zero e = refl
        by_plan (suc n) e = ap (λ (d : Dot). Within (suc n) d) (web_at ss n e)

    source_there : (n j h : ℕ) → source_dot 0 (from_plan n j) h ≡ Within n (Of (PartEnd j h))
    source_there zero j h = let zeros : 0 + j ≡ j = omega arith in ap (λ (k : ℕ). Within 0 (Of (PartEnd k h))) zeros
    source_there (suc n) j h = refl

    part_stays : (n j h : ℕ) → moved (Within n (Of (PartEnd j h))) ≡ Within n (Of (PartEnd j h))
    part_stays zero j h = refl
    part_stays (suc n) j h = refl

    more_less : (k n : ℕ) → k ≡ 1 + n → suc (one_less k) ≡ k
    more_less zero n e = absurd (omega (arith, e))
    more_less (suc k) n e = refl

    module _ (r : Plan) (joining : IsJoining (supplying p ss) r) where
      abbrev Stands : End → Type 0
      Stands e = (whole.at e ≡ wired.at e) × (moved (wired.at e) ≡ wired.at e)

      part_stands : (k h : ℕ) (x : Part) → slice_get r.parts k ≡ Some x → Stands (PartEnd k h)
      part_stands k h x at =
          let there = part_of 0 (p ∷ plans_of ss) k x (sym (ap (λ (ks : List Part). slice_get ks k) joining.parts) ∙ at) in
          let n : ℕ = 0 + there.plan in
          let in_whole : whole.at (PartEnd k h) ≡ Within n (Of (PartEnd there.part h)) =
          ap (unions.dot_at webs) (there.stands h) ∙ dot_there (place n (PartEnd there.part h))
          in
          let in_wired : wired.at (PartEnd k h) ≡ Within n (Of (PartEnd there.part h)) =
          ap (λ (s : Source). source_dot 0 s h) (ap source_of (there.stands 0)) ∙ source_there n there.part h
          in
          (in_whole ∙ sym in_wired, subst (λ (d : Dot). moved d ≡ d) (sym in_wired) (part_stays n there.part h))

      import_stands : (k h : ℕ) (x : Imported) → slice_get r.imports k ≡ Some x → Stands (ImportEnd k h)
      import_stands k h x at =
          let (l, at_l, same) = left_at_number is ss are p.parts p r refl joining k x at in
          let there = import_in 1 (plans_of ss) k l at_l in
          let number = more_less l.plan there.plan there.plan_is in
          let in_left : slice_get (all_left (supplying p ss)) k ≡ Some l = ap (λ (ls : List LeftImport). slice_get ls k) (left_is p ss) ∙ at_l in
          let in_whole : whole.at (ImportEnd k h) ≡ Within l.plan (Of (ImportEnd l.number h)) =
          ap (λ (o : Option LeftImport). unions.dot_at webs (left_place o h)) in_left ∙ dot_there (place l.plan (ImportEnd l.number h))
          in
          let in_wired : wired.at (ImportEnd k h) ≡ Within l.plan (Of (ImportEnd l.number h)) =
          ap (λ (o : Option LeftImport). Within (suc (origin_of o).number) (Of (ImportEnd (origin_of o).import h))) at_l
          ∙ (λ i. Within (number i) (Of (ImportEnd l.number h)))
          in
          (in_whole ∙ sym in_wired, refl)

      stands : (e : End) (c : Contact) → contact_at r e ≡ Some c → Stands e
      stands (PartEnd k h) c there = by_part (slice_get r.parts k) refl there
        where
          by_part : (o : Option Part) → slice_get r.parts k ≡ o → slice_get (contacts_of_part o) h ≡ Some c → Stands (PartEnd k h)
          by_part None none e = absurd (cc e)
          by_part (Some x) at e = part_stands k h x at
      stands (ImportEnd k h) c there = by_import (slice_get r.imports k) refl there
        where
          by_import : (o : Option Imported) → slice_get r.imports k ≡ o → slice_get (contacts_of_import o) h ≡ Some c → Stands (ImportEnd k h)
          by_import None none e = absurd (cc e)
          by_import (Some x) at e = import_stands k h x at
      stands (ResultEnd h) c there =
          let zeros : 0 + h ≡ h = omega arith in (ap (λ (k : ℕ). Within 0 (Of (ResultEnd k))) zeros, refl)

      same_ends : SameWays whole wired r
      same_ends a b c d at_a at_b = by_ends (stands a c at_a) (stands b d at_b)
        where
          by_ends : Stands a → Stands b → Way whole.ties (whole.at a) (whole.at b) ↔ Way wired.ties (wired.at a) (wired.at b)
          by_ends (same_a, stay_a) (same_b, stay_b) = (
            λ way.
                subst (λ (x : Dot). Way wired.ties x (wired.at b)) (ap moved same_a ∙ stay_a)
                (subst (λ (x : Dot). Way wired.ties (moved (whole.at a)) x) (ap moved same_b ∙ stay_b)
                (mapped_way whole.ties wired.ties moved tie_leads (whole.at a) (whole.at b) way)),
            λ way.
                subst (λ (x : Dot). Way whole.ties x (whole.at b)) (sym same_a)
                (subst (λ (x : Dot). Way whole.ties (wired.at a) x) (sym same_b)
                (mapped_way wired.ties whole.ties (λ x. x) tie_goes (wired.at a) (wired.at b) way)),
          )

      all_of_webs : (xs : List Supply) (js : List Imported) → AreSupplied js xs → AreOfWebs (webs_of xs) (plans_of xs)
      all_of_webs [] js of_js = tt
      all_of_webs (s ∷ xs) [] of_js = absurd of_js
      all_of_webs (s ∷ xs) (j ∷ js) of_js = (right_is_of_its_web s.plan of_js.0.suits.right, all_of_webs xs js of_js.1)

      pub is_of_wired : IsOfWeb (term_web is m) p → IsJoined (supplying p ss) r → IsOfWeb wired r
      is_of_wired of_p joined =
          same_ways whole wired r same_ends
          (joining_is_union (supplying p ss) webs r (of_p, all_of_webs ss is are) (links_stand (supplying p ss) joined.fits) joining)

pub supplied_is_wired : SuppliedIsWired
supplied_is_wired is t w m p r ss plan type makes fit are joined = (
  placing p ss,
  record {
    outcome = joined.joining.outcome ∙ (plan.outcome ∙ type);
    parts = parts_there is ss are (all_parts is m) p r plan.parts joined.joining;
    no_more = no_more_parts is ss are (all_parts is m) p r plan.parts joined.joining;
    imports = imports_there is ss are (all_parts is m) p r plan.parts joined.joining;
    no_import = no_more_imports is ss are (all_parts is m) p r plan.parts joined.joining;
    web = is_of_wired is m p ss plan.imports are makes r joined.joining (of_term is t w m p plan fit) joined;
  },
)
