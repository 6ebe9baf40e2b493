-- A child that sits in its node is folded in it, so it has a plan, and is wired to its supplies.
use Rattle.std.specs.Prelude.{◌≡◌, ◌≢◌, ℕ, suc, ◌+◌, ◌-◌, ◌⊎◌, Bool, true, false, List, [], ◌++◌, Option, Some, None, slice_get, nat_eq, Contains}
use Rattle.std.proofs.Common.{refl, sym, ◌∙◌, ap, subst, arith, inl, inr}
use Rattle.std.proofs.lemmas.Option.{none-some}
use Rattle.std.proofs.lemmas.List.Elements.{Contains-append_left, Contains-append_right, Contains-append_cases}
use Rattle.gos_model.specs.Typing.{Imported}
use Rattle.gos_model.proofs.NumberLemmas.{number_cases}
use Rattle.gos_plan.specs.Kinds.{Part, Contact}
use Rattle.gos_plan.specs.Plans.{End, PartEnd, ImportEnd, ResultEnd, Joint, Plan, contacts_of_import, contact_at}
use Rattle.gos_plan.specs.Tokens.{IsPortEnd}
use Rattle.gos_plan.proofs.ContactLemmas.{part_is_there}
use Rattle.gos_realises.specs.realises.Regular.{count}
use Rattle.gos_realises.specs.realises.Modules.{Supply}
use Rattle.gos_realises.proofs.realises.ToldLemmas.{there_is}
use Rattle.gos_ties.specs.declared.points.Place.TheVariants as places
use Rattle.gos_joining.specs.webs.Webs as webs
use Rattle.gos_joining.specs.webs.Webs.{Dot, Of, Number, Within, Tie, tie, Web, Way}
use Rattle.gos_joining.specs.webs.Cutting.{IsOutside}
use Rattle.gos_joining.specs.unions.Unions.{within}
use Rattle.gos_joining.proofs.unions.UnionLemmas.{of_image, in_image}
use Rattle.gos_nodes.specs.windows.Regions.{IsOther, IsRegion}
use Rattle.gos_nodes.specs.folds.Folds.{Follows, IsFold, joined_cut, with_joints}
use Rattle.gos_nodes.proofs.folds.PlanLemmas.{fold_has_plan}
use Rattle.gos_compile.specs.Wiring.{row, parts_of, type_of_node, ties_of}
use Rattle.gos_terms.specs.wired.Wired.{Source, Own, Supplied, IsFrom, placed, source_dot, dot_ties, supply_ties, all_supply_ties, IsWired}
use Rattle.gos_terms.specs.wired.Wired as origins
use Rattle.gos_terms.proofs.wired.TieLemmas.{in_supplies, of_supplies}
use Rattle.gos_terms.proofs.regions.NumberingLemmas.{part_there, part_is, import_there, import_is}
use Rattle.gos_terms.proofs.regions.FrameLemmas.{Frame, kept, known, size, in_range, in_range_true, in_range_is, itself_is, itself_true, itself_false, kept_is, known_of, other_part, own_part, back, laid, Held, its_ties, its_ties_there, led, leads, lead_tie, supply_each}
use Rattle.gos_terms.proofs.regions.ChildLemmas.{Sitting, child_parts, child_placing, child_plan, its_outer, its_cut, its_fold, its_web, whole_web, whole_ties, number_of, number_if, port_of, IsSitting, HasPorts}
use Rattle.gos_terms.proofs.regions.ChildLemmas as children
use Rattle.gos_terms.proofs.stages.WayLemmas.{way_by_tie}

follows_one : (ts : List Tie) (o p : Option Dot) (x y : Dot) → o ≡ Some x → p ≡ Some y → Contains ts (tie x y) → Follows ts o p
follows_one ts o p x y e d has =
    subst (λ (a : Option Dot). Follows ts a p) (sym e) (subst (λ (b : Option Dot). Follows ts (Some x) b) (sym d) (way_by_tie ts x y has))

pub follows_none : (ts : List Tie) (o p : Option Dot) → o ≡ None → p ≡ None → Follows ts o p
follows_none ts o p e d =
    subst (λ (a : Option Dot). Follows ts a p) (sym e) (subst (λ (b : Option Dot). Follows ts None b) (sym d) tt)

module _
    (s : Sitting) (r : Plan) (sits : IsSitting s) (ports : HasPorts s r)
    (is : IsWired s.frame.types s.frame.first s.node s.whole s.numbers s.outside s.placing r) where
  abbrev f : Frame
  f = s.frame

  abbrev v : Web
  v = its_web s

  abbrev w : Web
  w = whole_web s

  abbrev c : Plan
  c = child_plan s

  abbrev mine : List Tie
  mine = dot_ties (its_ties f sits.shifted sits.knows)

  same_ties : dot_ties (ties_of f.types (f.first + f.shift) f.node f.child (row places.Result 0 (count (type_of_node f.child)))) ≡ mine
  same_ties = ap (λ (n : ℕ). dot_ties (ties_of f.types (f.first + f.shift) f.node f.child (row places.Result 0 n))) sits.one

  -- the child's web has its ties and those of its supplies
  own_in : (t : Tie) → Contains mine t → Contains v.ties (tie (Within 0 t.one) (Within 0 t.other))
  own_in t has =
      Contains-append_left
      (within 0 (dot_ties (ties_of f.types (f.first + f.shift) f.node f.child (row places.Result 0 (count (type_of_node f.child))))))
      (all_supply_ties f.types s.supplies f.numbers) (tie (Within 0 t.one) (Within 0 t.other))
      (subst (λ (ts : List Tie). Contains (within 0 ts) (tie (Within 0 t.one) (Within 0 t.other))) (sym same_ties)
      (in_image (λ (x : Tie). tie (Within 0 x.one) (Within 0 x.other)) mine t has))

  supply_in : (n : ℕ) (t : Tie) → Contains f.numbers n → Contains (supply_ties f.types s.supplies n) t → Contains v.ties t
  supply_in n t own has =
      Contains-append_right
      (within 0 (dot_ties (ties_of f.types (f.first + f.shift) f.node f.child (row places.Result 0 (count (type_of_node f.child))))))
      (all_supply_ties f.types s.supplies f.numbers) t (in_supplies f.types s.supplies f.numbers n t own has)

  whole_in : (t : Tie) → Contains (whole_ties s) t → Contains w.ties (tie (Within 0 t.one) (Within 0 t.other))
  whole_in t has =
      Contains-append_left (within 0 (whole_ties s)) (all_supply_ties f.types s.outside s.numbers) (tie (Within 0 t.one) (Within 0 t.other))
      (in_image (λ (x : Tie). tie (Within 0 x.one) (Within 0 x.other)) (whole_ties s) t has)

  outer_in : (n : ℕ) (t : Tie) → Contains s.numbers n → Contains (supply_ties f.types s.outside n) t → Contains w.ties t
  outer_in n t own has =
      Contains-append_right (within 0 (whole_ties s)) (all_supply_ties f.types s.outside s.numbers) t
      (in_supplies f.types s.outside s.numbers n t own has)

  -- supplies that both have
  same_supply : (n : ℕ) (t : Tie) → s.supplies n ≡ s.outside n → Contains (supply_ties f.types s.supplies n) t → Contains (supply_ties f.types s.outside n) t
  same_supply n t same has =
      subst (λ (x : Supply). Contains (within (suc n) (webs.own_web x.plan).ties ++ origins.result_ties n 0 (count (f.types n))) t) same has

  back_supply : (n : ℕ) (t : Tie) → s.supplies n ≡ s.outside n → Contains (supply_ties f.types s.outside n) t → Contains (supply_ties f.types s.supplies n) t
  back_supply n t same has =
      subst (λ (x : Supply). Contains (within (suc n) (webs.own_web x.plan).ties ++ origins.result_ties n 0 (count (f.types n))) t) (sym same) has

  its_ways : (t : Tie) → Contains v.ties t → Way w.ties (laid f t.one) (laid f t.other)
  its_ways t has =
      elim (Contains-append_cases
      (within 0 (dot_ties (ties_of f.types (f.first + f.shift) f.node f.child (row places.Result 0 (count (type_of_node f.child))))))
      (all_supply_ties f.types s.supplies f.numbers) t has) [
        | inl own ↦
            let (u, has_u, same) =
            of_image (λ (x : Tie). tie (Within 0 x.one) (Within 0 x.other)) mine t
            (subst (λ (ts : List Tie). Contains (within 0 ts) t) same_ties own) in
            subst (λ (x : Tie). Way w.ties (laid f x.one) (laid f x.other)) same
            (way_by_tie w.ties (laid f (Within 0 u.one)) (laid f (Within 0 u.other))
            (whole_in (lead_tie f sits.shifted sits.knows u)
            (sits.ties (lead_tie f sits.shifted sits.knows u) (leads f sits.shifted sits.knows u has_u))))
        | inr later ↦
            let (n, own, has_n) = of_supplies f.types s.supplies f.numbers t later in
            children.by_name s r sits ports is n (λ named. ports.ways n t own named has_n) (λ unnamed. supplied n own unnamed has_n)
      ]
    where
      supplied : (n : ℕ) → Contains f.numbers n → f.named n ≡ false → Contains (supply_ties f.types s.supplies n) t → Way w.ties (laid f t.one) (laid f t.other)
      supplied n own unnamed has_n =
          let (out, same) = sits.shared n own unnamed in
          let each =
          supply_each f.types s.supplies n (λ (d : Dot). laid f d ≡ d) (λ e. children.laid_supplied s r sits ports is n e unnamed) (λ h. refl) t has_n in
          subst (λ (a : Dot). Way w.ties a (laid f t.other)) (sym each.one)
          (subst (λ (b : Dot). Way w.ties t.one b) (sym each.other)
          (way_by_tie w.ties t.one t.other (outer_in n t out (same_supply n t same has_n))))

  its_stays : (t : Tie) → Contains w.ties t → Follows v.ties (back f t.one) (back f t.other)
  its_stays t has =
      elim (Contains-append_cases (within 0 (whole_ties s)) (all_supply_ties f.types s.outside s.numbers) t has) [
        | inl own ↦
            let (u, has_u, same) = of_image (λ (x : Tie). tie (Within 0 x.one) (Within 0 x.other)) (whole_ties s) t own in
            subst (λ (x : Tie). Follows v.ties (back f x.one) (back f x.other)) same (of_node u (sits.others u has_u))
        | inr later ↦ let (n, own, has_n) = of_supplies f.types s.outside s.numbers t later in supplied n own has_n (kept f n) refl
      ]
    where
      of_node :
          (u : Tie)
          → Contains (dot_ties (its_ties_there f sits.shifted sits.knows)) u ⊎ Follows v.ties (back f (Within 0 u.one)) (back f (Within 0 u.other))
          → Follows v.ties (back f (Within 0 u.one)) (back f (Within 0 u.other))
      of_node u (inr follows) = follows
      of_node u (inl has_u) =
          let one = led f sits.shifted sits.knows sits.result u has_u in
          follows_one v.ties (back f (Within 0 u.one)) (back f (Within 0 u.other)) (Within 0 one.of.one) (Within 0 one.of.other) one.one one.other
          (own_in one.of one.has)

      supplied : (n : ℕ) → Contains s.numbers n → Contains (supply_ties f.types s.outside n) t → (b : Bool) → kept f n ≡ b
          → Follows v.ties (back f t.one) (back f t.other)
      supplied n own has_n true e =
          let (own_n, unnamed) = kept_is f n e in
          let same = (sits.shared n own_n unnamed).1 in
          let each =
          supply_each f.types s.outside n (λ (d : Dot). Held f d) (λ d. itself_true (kept f n) (Within (suc n) (Of d)) e)
          (λ h. itself_true (known f n) (Within 0 (Number n h)) (known_of f n own_n)) t has_n in
          follows_one v.ties (back f t.one) (back f t.other) t.one t.other each.one each.other (supply_in n t own_n (back_supply n t same has_n))
      supplied n own has_n false e =
          let each =
          supply_each f.types s.outside n (λ (d : Dot). back f d ≡ None) (λ d. itself_false (kept f n) (Within (suc n) (Of d)) e)
          (λ h. itself_false (known f n) (Within 0 (Number n h)) (sits.apart n own e)) t has_n in
          follows_none v.ties (back f t.one) (back f t.other) each.one each.other

  -- an end outside whose dot stands for one
  abbrev PortAt : End → Contact → Type 0
  PortAt e k = (d : End) × IsPortEnd d × ((its_cut s r).outer d ≡ e) × (contact_at c d ≡ Some k)

  numbered : (x : Part) (o : Source) (i h : ℕ) (k : Contact) (y : Dot)
      → IsFrom (parts_of f.types s.whole) s.numbers s.outside x o → placed s.placing o ≡ i → number_of f (child_placing s) (Some x) o ≡ None
      → contact_at r (PartEnd i h) ≡ Some k → back f (source_dot f.first o h) ≡ Some y → PortAt (PartEnd i h) k
  numbered x (Own a) i h k y has at none con stands = number_cases (f.first + a) f.first own other
    where
      own : f.first + a ≡ f.first → nat_eq (f.first + a) f.first ≡ true → PortAt (PartEnd i h) k
      own same test =
          let zero_a : a ≡ 0 = omega (arith, same) in
          let placed_own : s.placing.own 0 ≡ i = ap s.placing.own (sym zero_a) ∙ at in
          let stood : f.port h ≡ Some y = sym (own_part f h) ∙ (ap (λ (n : ℕ). back f (Within 0 (Of (PartEnd n h)))) (sym same) ∙ stands) in
          let (d, port, outer, con_d) = ports.own h k y stood (ap (λ (n : ℕ). contact_at r (PartEnd n h)) placed_own ∙ con) in
          (d, port, outer ∙ ap (λ (n : ℕ). PartEnd n h) placed_own, con_d)

      other : f.first + a ≢ f.first → nat_eq (f.first + a) f.first ≡ false → PortAt (PartEnd i h) k
      other differ test =
          let inside : in_range (f.first + f.shift) (size f) (f.first + a) ≡ true =
          itself_is (in_range (f.first + f.shift) (size f) (f.first + a)) (Within 0 (Of (PartEnd (f.first + a) h))) y
          (sym (other_part f (f.first + a) h differ) ∙ stands) in
          let (low, high) = in_range_is (f.first + f.shift) (size f) (f.first + a) inside in
          let there : in_range f.shift (size f) a ≡ true = in_range_true f.shift (size f) a (omega (arith, low)) (omega (arith, high)) in
          absurd (none-some (a - f.shift) (sym none ∙ ap (λ (b : Bool). number_if b (a - f.shift)) there))
  numbered x (Supplied n a) i h k y has at none con stands =
      let keep = itself_is (kept f n) (Within (suc n) (Of (PartEnd a h))) y stands in
      absurd (none-some ((child_placing s).supplied n a) (sym none ∙ ap (λ (b : Bool). number_if b ((child_placing s).supplied n a)) keep))

  its_comes : (e : End) (k : Contact) (y : Dot) → IsOutside (its_cut s r) e → contact_at r e ≡ Some k → back f (w.at e) ≡ Some y → PortAt e k
  its_comes (PartEnd i h) k y out con stands =
      let (x, at) = part_is_there (slice_get r.parts i) h k con in
      let (from, placed_at) = is.no_more i x at in
      numbered x (s.placing.source i) i h k y from placed_at (ap (λ (o : Option Part). number_of f (child_placing s) o (s.placing.source i)) (sym at) ∙ out) con stands
  its_comes (ImportEnd i h) k y out con stands =
      let (x, at) = there_is r.imports i h k con in
      let (own, has, home) = is.no_import i x at in
      let n : ℕ = (s.placing.origin i).number in
      let b : ℕ = (s.placing.origin i).import in
      let keep : kept f n ≡ true = itself_is (kept f n) (Within (suc n) (Of (ImportEnd b h))) y stands in
      let (own_n, unnamed) = kept_is f n keep in
      let same = (sits.shared n own_n unnamed).1 in
      let there =
      import_there (child_parts s) s.supplies f.numbers n b x own_n (ap (λ (z : Supply). slice_get z.plan.imports b) same ∙ has) in
      let j : ℕ = (child_placing s).import n b in
      let outer : its_outer s (ImportEnd j h) ≡ ImportEnd i h =
      ap (λ (o : origins.Origin). port_of (f.named o.number) (s.placing.own 0) h (ImportEnd (s.placing.import o.number o.import) h)) there.1
      ∙ (ap (λ (t : Bool). port_of t (s.placing.own 0) h (ImportEnd (s.placing.import n b) h)) unnamed ∙ ap (λ (m : ℕ). ImportEnd m h) home) in
      (ImportEnd j h, tt, outer, ap (λ (o : Option Imported). slice_get (contacts_of_import o) h) (there.0 ∙ sym at) ∙ con)
  its_comes (ResultEnd h) k y out con stands = absurd (none-some y stands)

  none_other : (e : End) → IsOther [] e → ⊥
  none_other e (n, j, (i, lt, same), small, at) = omega (arith, lt)

  pub is_fold : IsFold (its_fold s r) [] w v r c
  is_fold =
      record {
        whole = is.web;
        parts = λ i k at. let there = children.its_part s r sits ports is i k at in (there.at, there.number);
        numbers = λ i j e. children.its_number s r sits ports is i j e;
        ports =
            λ e k port at.
            let there = children.its_port s r sits ports is e k port at in (there.outside, there.inner, there.contact);
        serving = λ n (i, lt, same). absurd (omega (arith, lt));
        others = λ e other. absurd (none_other e other);
        ends = λ e k at. inl (children.its_end s r sits ports is e k at);
        ways = its_ways;
        stays = its_stays;
        comes = its_comes;
      }

  -- joints are nothing to the fold
  same_contact : (js : List Joint) (e : End) → contact_at (with_joints c js) e ≡ contact_at c e
  same_contact js (PartEnd i h) = refl
  same_contact js (ImportEnd i h) = refl
  same_contact js (ResultEnd h) = refl

  of_joints : (js : List Joint) → IsFold (its_fold s r) [] w v r (with_joints c js)
  of_joints js =
      record {
        whole = is_fold.whole;
        parts = is_fold.parts;
        numbers = is_fold.numbers;
        ports = λ e k port at. is_fold.ports e k port (sym (same_contact js e) ∙ at);
        serving = is_fold.serving;
        others = is_fold.others;
        ends = λ e k at. inl (children.its_end s r sits ports is e k (sym (same_contact js e) ∙ at));
        ways = is_fold.ways;
        stays = is_fold.stays;
        comes =
            λ e k y out at stands.
            let (d, port, outer, con) = is_fold.comes e k y out at stands in (d, port, outer, same_contact js d ∙ con);
      }

  -- the child's plan, and that it is wired
  pub record HasPlan : Type 0 where
    pub joints : List Joint
    pub wired : IsWired f.types (f.first + f.shift) f.node f.child f.numbers s.supplies (child_placing s) (with_joints c joints)
    pub fold : IsFold (its_fold s r) [] w v r (with_joints c joints)
    pub region : IsRegion (joined_cut (its_cut s r) joints) [] r (with_joints c joints)

  pub has_plan : HasPlan
  has_plan =
      let (js, web, region) = fold_has_plan (its_fold s r) [] w v r c is_fold in
      record {
        joints = js;
        wired =
            record {
              outcome = refl;
              parts = λ x o from. part_there (child_parts s) s.supplies f.numbers x o from;
              no_more = λ k x e. part_is (child_parts s) s.supplies f.numbers sits.once k x e;
              imports = λ n k x has e. import_there (child_parts s) s.supplies f.numbers n k x has e;
              no_import = λ k x e. import_is (child_parts s) s.supplies f.numbers sits.once k x e;
              web = web;
            };
        fold = of_joints js;
        region = region;
      }
