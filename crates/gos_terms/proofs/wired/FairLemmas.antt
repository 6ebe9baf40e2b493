-- The flows of a typed term are fair: each of its points is met in each role once at most, and sees one handshake.
--
-- Read first: FlowLemmas, InnerCountLemmas.
use Rattle.std.specs.Prelude.{◌≡◌, ◌≢◌, ℕ, zero, suc, ◌+◌, ◌≤◌, Bool, true, false, List, [], ◌∷◌, ◌⊎◌, map, Option, Some, None, slice_get, if◌then◌else◌, option_map}
use Rattle.std.proofs.Common.{refl, sym, ◌∙◌, ap, subst, arith, inl, inr}
use Rattle.std.proofs.lemmas.Option.{slice_get-map}
use Rattle.gos_types.specs.declared.shakes.Role.{Role}
use Rattle.gos_types.specs.declared.shakes.Role.TheVariants.{Serve, Ask}
use Rattle.gos_types.specs.Types.{Type', type_of}
use Rattle.gos_model.specs.Typing.{Imports, Imported}
use Rattle.gos_model.specs.Moves.{Program}
use Rattle.gos_check.specs.Nodes.{Numbered, type_of_node, node_seen}
use Rattle.gos_check.specs.Checked.{program_in}
use Rattle.gos_check.specs.Linearity.{StandsFor}
use Rattle.gos_plan.specs.Kinds.{Part, Contact, contacts_of, turned_contact}
use Rattle.gos_plan.specs.Plans.{End, PartEnd, ImportEnd, ResultEnd, Plan, contact_at, turned_if}
use Rattle.gos_plan.proofs.ContactLemmas.{turned_contact_twice}
use Rattle.gos_ties.specs.declared.points.Place.{Place}
use Rattle.gos_ties.specs.declared.points.Place.TheVariants as places
use Rattle.gos_ties.specs.declared.points.Point.{Point}
use Rattle.gos_ties.specs.declared.points.Tie.{Tie}
use Rattle.gos_ties.specs.Ties.{at, end_at, Path, here, along}
use Rattle.gos_ties.specs.Counted.{once, meetings}
use Rattle.gos_ties.proofs.ThinLemmas.{once_itself}
use Rattle.gos_ties.proofs.JointLemmas.{same_at}
use Rattle.gos_realises.specs.realises.Regular.{count}
use Rattle.gos_compile.specs.Wiring.{Types, row, parts_of, all_types, all_ties, import_ties, ties_of, IsPlanOf}
use Rattle.gos_compile.specs.Typed.{NodesTyped, CheckedIsTyped}
use Rattle.gos_compile.proofs.ThinLemmas.{thin}
use Rattle.gos_terms.specs.wired.Fitting.{TypedTiesFit, CheckedFits, CheckedIsWired}
use Rattle.gos_terms.proofs.wired.TypeLemmas.{type_is}
use Rattle.gos_terms.proofs.wired.FlowLemmas.{Flow, tie_in, Leaves, leaves_back, flow_of}
use Rattle.gos_terms.proofs.wired.ChainLemmas.{IsFair, Reached, step, reached_fits}
use Rattle.gos_terms.proofs.wired.FlowedLemmas.{seen, flows_of, import_flows, all_flows}
use Rattle.gos_terms.proofs.wired.OutLemmas.{seen_length}
use Rattle.gos_terms.proofs.wired.SightLemmas as sight
use Rattle.gos_terms.proofs.wired.TableLemmas.{table_of, table_fits}
use Rattle.gos_terms.proofs.wired.TermFlowLemmas.{flows_good, imports_good}
use Rattle.gos_terms.proofs.wired.CountLemmas.{alike, held, meets}
use Rattle.gos_terms.proofs.wired.InnerCountLemmas.{number_once, node_once}
use Rattle.gos_terms.proofs.wired.ModuleLemmas.{supplied_is_wired}

-- a point that sees a handshake in this role is held once
alike_self : (r : Role) → alike r r ≡ true
alike_self Serve = refl
alike_self Ask = refl

held_self : (q p : Point) (c d : Contact) → p ≡ q → d ≡ c → held c.role q p d ≡ 1
held_self q p c d e f =
    (λ i. held c.role q (e i) (f i)) ∙ (ap (λ (b : Bool). if b then once q q else 0) (alike_self c.role) ∙ once_itself q)

-- each flow from a point counts
pub leaves_counted : (fs : List Flow) (q x : Point) (c : Contact) → Leaves fs q x c → 1 ≤ meets c.role q fs
leaves_counted [] q x c (f, (n, small, e), ways) = absurd (omega (arith, small))
leaves_counted (g ∷ fs) q x c (f, (zero, small, e), inl (a, b, d)) =
    let here = held_self q g.one c g.contact (ap (λ (h : Flow). h.one) e ∙ a) (ap (λ (h : Flow). h.contact) e ∙ d) in omega (arith, here)
leaves_counted (g ∷ fs) q x c (f, (zero, small, e), inr (a, b, d)) =
    let here = held_self q g.other c (turned_contact g.contact) (ap (λ (h : Flow). h.other) e ∙ a) (ap (λ (h : Flow). turned_contact h.contact) e ∙ d) in
    omega (arith, here)
leaves_counted (g ∷ fs) q x c (f, (suc n, small, e), ways) =
    let rest = leaves_counted fs q x c (f, (n, omega (arith, small), e), ways) in omega (arith, rest)

-- so where a point is met once, one flow leads from it
abbrev Way : Flow → Point → Point → Contact → Type 0
Way f q x c = ((f.one ≡ q) × (f.other ≡ x) × (f.contact ≡ c)) ⊎ ((f.other ≡ q) × (f.one ≡ x) × (turned_contact f.contact ≡ c))

at_one : (g : Flow) (q x : Point) (c : Contact) → Way g q x c → 1 ≤ held c.role q g.one g.contact + held c.role q g.other (turned_contact g.contact)
at_one g q x c (inl (a, b, d)) = let here = held_self q g.one c g.contact a d in omega (arith, here)
at_one g q x c (inr (a, b, d)) = let here = held_self q g.other c (turned_contact g.contact) a d in omega (arith, here)

one_flow : (g : Flow) (q x y : Point) (c d : Contact) → c.role ≡ d.role
    → held c.role q g.one g.contact + held c.role q g.other (turned_contact g.contact) ≤ 1 → Way g q x c → Way g q y d → x ≡ y
one_flow g q x y c d e few (inl (a, b, f)) (inl (a', b', f')) = sym b ∙ b'
one_flow g q x y c d e few (inr (a, b, f)) (inr (a', b', f')) = sym b ∙ b'
one_flow g q x y c d e few (inl (a, b, f)) (inr (a', b', f')) =
    let first = held_self q g.one c g.contact a f in
    let second = held_self q g.other d (turned_contact g.contact) a' f' in
    let same : held c.role q g.other (turned_contact g.contact) ≡ 1 = ap (λ (r : Role). held r q g.other (turned_contact g.contact)) e ∙ second in
    absurd (omega (arith, few, first, same))
one_flow g q x y c d e few (inr (a, b, f)) (inl (a', b', f')) =
    let first = held_self q g.other c (turned_contact g.contact) a f in
    let second = held_self q g.one d g.contact a' f' in
    let same : held c.role q g.one g.contact ≡ 1 = ap (λ (r : Role). held r q g.one g.contact) e ∙ second in
    absurd (omega (arith, few, first, same))

way_is : (g f : Flow) (q x : Point) (c : Contact) → g ≡ f → Way f q x c → Way g q x c
way_is g f q x c e ways = subst (λ (h : Flow). Way h q x c) (sym e) ways

pub one_leaves : (fs : List Flow) (q x y : Point) (c d : Contact) → c.role ≡ d.role → meets c.role q fs ≤ 1 → Leaves fs q x c → Leaves fs q y d → x ≡ y
one_leaves [] q x y c d e few (f, (n, small, is), ways) other = absurd (omega (arith, small))
one_leaves (g ∷ fs) q x y c d e few (f, (zero, small, is), ways) (f', (zero, small', is'), ways') =
    one_flow g q x y c d e (omega (arith, few)) (way_is g f q x c is ways) (way_is g f' q y d is' ways')
one_leaves (g ∷ fs) q x y c d e few (f, (zero, small, is), ways) (f', (suc n, small', is'), ways') =
    let first = at_one g q x c (way_is g f q x c is ways) in
    let later = leaves_counted fs q y d (f', (n, omega (arith, small'), is'), ways') in
    let same : meets c.role q fs ≡ meets d.role q fs = ap (λ (r : Role). meets r q fs) e in
    absurd (omega (arith, few, first, later, same))
one_leaves (g ∷ fs) q x y c d e few (f, (suc n, small, is), ways) (f', (zero, small', is'), ways') =
    let first = at_one g q y d (way_is g f' q y d is' ways') in
    let later = leaves_counted fs q x c (f, (n, omega (arith, small), is), ways) in
    let same : held c.role q g.one g.contact + held c.role q g.other (turned_contact g.contact)
    ≡ held d.role q g.one g.contact + held d.role q g.other (turned_contact g.contact) =
    ap (λ (r : Role). held r q g.one g.contact + held r q g.other (turned_contact g.contact)) e
    in
    absurd (omega (arith, few, first, later, same))
one_leaves (g ∷ fs) q x y c d e few (f, (suc n, small, is), ways) (f', (suc n', small', is'), ways') =
    one_leaves fs q x y c d e (omega (arith, few)) (f, (n, omega (arith, small), is), ways) (f', (n', omega (arith, small'), is'), ways')

-- at an end it is enough that ties meet it once
held_few : (b : Bool) (x : ℕ) → (if b then x else 0) ≤ x
held_few true x = omega arith
held_few false x = omega arith

pub meets_few : (r : Role) (q : Point) (fs : List Flow) → meets r q fs ≤ meetings q (map tie_in fs)
meets_few r q [] = omega arith
meets_few r q (f ∷ fs) =
    let first = held_few (alike r f.contact.role) (once q f.one) in
    let second = held_few (alike r (turned_contact f.contact).role) (once q f.other) in
    let rest = meets_few r q fs in
    omega (arith, first, second, rest)

-- what a flow's point sees it has
module _ (parts : List Part) (is : Imports) (outcome : Type') (types : Types) (table : ℕ → List Contact) where
  abbrev Has : Place → ℕ → Contact → Type 0
  Has = sight.Has parts is outcome types table

  pub leaves_have : (fs : List Flow) → sight.AllHave parts is outcome types table fs → (q x : Point) (c : Contact) → Leaves fs q x c → Has q.place q.shake c
  leaves_have [] all q x c (f, (n, small, e), ways) = absurd (omega (arith, small))
  leaves_have (g ∷ fs) all q x c (f, (zero, small, e), inl (a, b, d)) =
      let point : g.one ≡ q = ap (λ (h : Flow). h.one) e ∙ a in
      let contact : g.contact ≡ c = ap (λ (h : Flow). h.contact) e ∙ d in
      subst (λ (k : Contact). Has q.place q.shake k) contact (subst (λ (y : Point). Has y.place y.shake g.contact) point all.0)
  leaves_have (g ∷ fs) all q x c (f, (zero, small, e), inr (a, b, d)) =
      let point : g.other ≡ q = ap (λ (h : Flow). h.other) e ∙ a in
      let contact : turned_contact g.contact ≡ c = ap (λ (h : Flow). turned_contact h.contact) e ∙ d in
      subst (λ (k : Contact). Has q.place q.shake k) contact (subst (λ (y : Point). Has y.place y.shake (turned_contact g.contact)) point all.1)
  leaves_have (g ∷ fs) all q x c (f, (suc n, small, e), ways) = leaves_have fs all.2 q x c (f, (n, omega (arith, small), e), ways)

  one_contact : (o : Option Contact) (c d : Contact) → o ≡ Some c → o ≡ Some d → c ≡ d
  one_contact o c d e f = let both : Some c ≡ Some d = sym e ∙ f in cc both

  plain : (o : Option Contact) (c d : Contact) → (c.role ≡ d.role → ⊥) → o ≡ Some c → o ≡ Some d → d ≡ turned_contact c
  plain o c d differ e f = absurd (differ (ap (λ (k : Contact). k.role) (one_contact o c d e f)))

  pub either : (o : Option Contact) (c d : Contact) → (c.role ≡ d.role → ⊥) → (o ≡ Some c) ⊎ (o ≡ Some (turned_contact c))
      → (o ≡ Some d) ⊎ (o ≡ Some (turned_contact d)) → d ≡ turned_contact c
  either o c d differ (inl e) (inl f) = plain o c d differ e f
  either o c d differ (inl e) (inr f) = sym (turned_contact_twice d) ∙ ap turned_contact (sym (one_contact o c (turned_contact d) e f))
  either o c d differ (inr e) (inl f) = sym (one_contact o (turned_contact c) d e f)
  either o c d differ (inr e) (inr f) =
      let same : c ≡ d = sym (turned_contact_twice c) ∙ (ap turned_contact (one_contact o (turned_contact c) (turned_contact d) e f) ∙ turned_contact_twice d) in
      absurd (differ (ap (λ (k : Contact). k.role) same))

  pub through_at : (q : Place) (h : ℕ) (c d : Contact) → (c.role ≡ d.role → ⊥) → Has q h c → Has q h d → d ≡ turned_contact c
  through_at (places.Part i) h c d differ e f = plain _ c d differ e f
  through_at (places.Import i) h c d differ e f = plain _ c d differ e f
  through_at places.Result h c d differ e f = plain _ c d differ e f
  through_at (places.Number n) h c d differ e f = either _ c d differ e f
  through_at (places.Node j) h c d differ e f = either _ c d differ e f

pub turned_option : (o : Option Contact) → turned_if o ≡ option_map turned_contact o
turned_option None = refl
turned_option (Some c) = refl

module _ (program : Program) (t : Type') (w : ℕ) (m : Numbered) (p : Plan) (stands : StandsFor program m)
    (typed : NodesTyped (all_types program.imports m) m) (plan : IsPlanOf program.imports t w m p) (type : t ≡ type_of_node m)
  where
    abbrev is : Imports
    is = program.imports

    abbrev types : Types
    types = all_types program.imports m

    abbrev table : ℕ → List Contact
    table = table_of 0 m

    abbrev fs : List Flow
    fs = all_flows program.imports m

    abbrev result : List Point
    result = row places.Result 0 (count (type_of_node m))

    abbrev PartsAt : ℕ → List Part → Type 0
    PartsAt = sight.PartsAt p.parts p.imports p.outcome types table

    parts_at : PartsAt 0 (parts_of types m)
    parts_at k x there =
        let start : 0 + k ≡ k = omega arith in
        ap (slice_get p.parts) start ∙ (ap (λ (ks : List Part). slice_get ks k) plan.parts ∙ there)

    sees : sight.See p.parts p.imports p.outcome types table (seen (type_of_node m)) result
    sees =
        sight.see_row p.parts p.imports p.outcome types table places.Result 0 (seen (type_of_node m)) (count (type_of_node m)) (sym (seen_length (type_of_node m)))
        (λ k c there. let start : 0 + k ≡ k = omega arith in
        ap (slice_get (seen p.outcome)) start ∙ (ap (λ (u : Type'). slice_get (seen u) k) (plan.outcome ∙ type) ∙ there))

    imports_typed : (i : ℕ) (x : Imported) → slice_get is i ≡ Some x → types (0 + i) ≡ x.ty
    imports_typed i x there =
        let start : 0 + i ≡ i = omega arith in ap types start ∙ type_is is m stands.no_import i x there

    good : sight.Good p.parts p.imports p.outcome types table fs (all_ties is m)
    good =
        sight.good_two p.parts p.imports p.outcome types table (import_flows 0 is) (flows_of types 0 0 m result) (import_ties 0 is)
        (ties_of types 0 0 m result)
        (imports_good p.parts p.imports p.outcome types table 0 is
        (λ i x there. let start : 0 + i ≡ i = omega arith in
        (ap (slice_get p.imports) start ∙ (ap (λ (xs : Imports). slice_get xs i) plan.imports ∙ there), imports_typed i x there)))
        (flows_good p.parts p.imports p.outcome types table 0 0 m result typed (table_fits 0 m) parts_at sees)

    end_few : (r : Role) (q : Point) (e : End) → end_at q ≡ Some e → meets r q fs ≤ 1
    end_few r q e there =
        let few = meets_few r q fs in
        let same : meetings q (map tie_in fs) ≡ meetings q (all_ties is m) = ap (meetings q) good.1 in
        let ends = (thin program m stands).ends q e there in
        omega (arith, few, same, ends)

    met_once : (r : Role) (q : Point) → meets r q fs ≤ 1
    met_once r q = by_place q.place q.shake refl
      where
        by_place : (x : Place) (h : ℕ) → q ≡ record { place = x; shake = h } → meets r q fs ≤ 1
        by_place (places.Part i) h e = end_few r q (PartEnd i h) (ap end_at e)
        by_place (places.Import i) h e = end_few r q (ImportEnd i h) (ap end_at e)
        by_place places.Result h e = end_few r q (ResultEnd h) (ap end_at e)
        by_place (places.Number k) h e =
            subst (λ (x : Point). meets r x fs ≤ 1) (sym e)
            (number_once p.parts p.imports p.outcome table types is 0 0 m typed (table_fits 0 m) parts_at sees imports_typed r k h (stands.used_once k) (stands.made_once k) (stands.no_import k))
        by_place (places.Node k) h e =
            subst (λ (x : Point). meets r x fs ≤ 1) (sym e)
            (node_once p.parts p.imports p.outcome table types is 0 0 m typed (table_fits 0 m) parts_at sees imports_typed r k h)

    end_is : (e : End) (k c : Contact) → contact_at p e ≡ Some k → sight.Has p.parts p.imports p.outcome types table (at e).place (at e).shake c → k ≡ c
    end_is (PartEnd i h) k c there has = let both : Some k ≡ Some c = sym there ∙ has in cc both
    end_is (ImportEnd i h) k c there has = let both : Some k ≡ Some c = sym there ∙ has in cc both
    end_is (ResultEnd h) k c there has =
        let turned : turned_if (slice_get (contacts_of p.outcome) h) ≡ slice_get (seen p.outcome) h =
        turned_option (slice_get (contacts_of p.outcome) h) ∙ sym (slice_get-map turned_contact (contacts_of p.outcome) h)
        in
        let both : Some k ≡ Some c = sym there ∙ (turned ∙ has) in cc both

    fair : IsFair Point (Leaves fs)
    fair =
        record {
          back = leaves_back fs;
          once = λ q x y c d first second e. one_leaves fs q x y c d e (met_once c.role q) first second;
          through = λ q x y c d first second differ.
              through_at p.parts p.imports p.outcome types table q.place q.shake c d differ (leaves_have p.parts p.imports p.outcome types table fs good.0 q x c first)
              (leaves_have p.parts p.imports p.outcome types table fs good.0 q y d second);
        }

    end_sees : (e : End) (k : Contact) → contact_at p e ≡ Some k → (x : Point) (c : Contact) → Leaves fs (at e) x c → k ≡ c
    end_sees e k there x c leaves = end_is e k c there (leaves_have p.parts p.imports p.outcome types table fs good.0 (at e) x c leaves)

    module _ (a : End) (k : Contact) (at_a : contact_at p a ≡ Some k) where
      abbrev Found : Point → Type 0
      Found = Reached Point (Leaves fs) fair (at a) k (end_sees a k at_a)

      walk : (x y : Point) → Found x → Path (map tie_in fs) x y → Found y
      walk x y found (here z) = found
      walk x y found (along u v z meets path) =
          let (c, leaves) = flow_of fs u v meets in
          walk v z (step Point (Leaves fs) fair (at a) k (end_sees a k at_a) u v c found leaves) path

      pub paths_fit : (b : End) (d : Contact) → contact_at p b ≡ Some d → a ≢ b → Path (all_ties is m) (at a) (at b) → d ≡ turned_contact k
      paths_fit b d at_b differ path =
          by_end
          (reached_fits Point (Leaves fs) fair (at a) k (end_sees a k at_a) (at b) d (end_sees b d at_b)
          (walk (at a) (at b) (inl refl) (subst (λ (ts : List Tie). Path ts (at a) (at b)) (sym good.1) path)))
        where
          by_end : (at b ≡ at a) ⊎ (d ≡ turned_contact k) → d ≡ turned_contact k
          by_end (inl same) = absurd (differ (same_at a b (sym same)))
          by_end (inr fit) = fit

pub typed_ties_fit : TypedTiesFit
typed_ties_fit program t w m p stands typed plan type a b c d at_a at_b differ path =
    paths_fit program t w m p stands typed plan type a c at_a b d at_b differ path

pub checked_fits : CheckedIsTyped → CheckedFits
checked_fits law l w p c plan =
    let (typed, same) = law l c in
    (sym same, c.term.no_import, typed_ties_fit (program_in l) (type_of l.result) w (node_seen l.term) p c.term typed plan (sym same))

pub checked_is_wired : CheckedIsTyped → CheckedIsWired
checked_is_wired law l w p r ss c plan are joined =
    let (type, makes, fit) = checked_fits law l w p c plan in
    supplied_is_wired (program_in l).imports (type_of l.result) w (node_seen l.term) p r ss plan type makes fit are joined
