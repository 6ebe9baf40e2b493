-- The plan that writes a number to a variable, with supplies, is one but for numbers with the supplied plan of the variable, written.
-- As ReadingLemmas of applications, with two parts.
use Rattle.std.specs.Prelude.{◌≡◌, ℕ, zero, suc, ◌+◌, ◌<◌, ◌||◌, false, List, [], ◌∷◌, ◌++◌, ◌⊎◌, length, map, Option, Some, Contains, slice_get, nat_eq}
use Rattle.std.proofs.Common.{refl, sym, ◌∙◌, ap, subst, arith, inl, inr}
use Rattle.std.proofs.lemmas.Option.{slice_get_within}
use Rattle.std.proofs.lemmas.List.{append-nil}
use Rattle.gos_types.specs.Types.{Type', Com, Exp, Var}
use Rattle.gos_types.proofs.BoolLemmas.{and_false}
use Rattle.gos_types.proofs.ListLemmas.{found_in_front, found_behind}
use Rattle.gos_model.specs.Terms.{Assign, Lit}
use Rattle.gos_model.specs.Typing.{Imported}
use Rattle.gos_model.specs.Linking.{supplied}
use Rattle.gos_plan.specs.Kinds as kinds
use Rattle.gos_plan.specs.Plans.{PartEnd, ImportEnd, ResultEnd, Plan, IsRight}
use Rattle.gos_plan.specs.Joining.{Place, place, Link, Wiring, Linked, LeftImport, is_joined, all_left, left_in, left_place, IsJoining}
use Rattle.gos_plan.proofs.WiringLemmas.{place_is}
use Rattle.gos_realises.specs.realises.Regular.{count}
use Rattle.gos_realises.specs.realises.Wirings.{lone, link, side, writing}
use Rattle.gos_realises.specs.realises.Realises.{NamesDiffer, Realises}
use Rattle.gos_realises.specs.realises.Modules.{Supply, plans_of, AreSupplied, term_for, supplying}
use Rattle.gos_realises.proofs.joined.OriginLemmas.{import_of}
use Rattle.gos_realises.proofs.joined.WholeLemmas.{variables_are_joined, supplied_is_joined}
use Rattle.gos_realises.proofs.realises.FittingLemmas.{supply_is_right}
use Rattle.gos_joining.specs.webs.Renumbering.{IsRenumbered, moved_end}
use Rattle.gos_joining.specs.unions.Flat.{first_of, later, later_link, origin_if, deeper, deeper_link, flat}
use Rattle.gos_joining.proofs.unions.LinkLemmas.{flat_inner, flat_outer, OfWiring, OfOuter, of_flat}
use Rattle.gos_joining.proofs.unions.FlatLemmas.{joinings_join}
use Rattle.gos_joining.proofs.unions.FlatFitLemmas.{InTwo, in_two, links_stand}
use Rattle.gos_joining.specs.renumbered.Rewired.{rewired, IsRewired}
use Rattle.gos_joining.specs.renumbered.SmallRewirings.{unchanged}
use Rattle.gos_joining.proofs.renumbered.ImportLemmas.{names_same}
use Rattle.gos_joining.proofs.renumbered.OrderLemmas.{reordered}
use Rattle.gos_joining.proofs.renumbered.RewireLemmas.{rewired_is_renumbered}
use Rattle.gos_joining.proofs.renumbered.HigherLemmas.{unchanged_end, unchanged_one, is_itself, renumbered_is_realised}
use Rattle.gos_joining.proofs.renumbered.SupplyLemmas.{supply_link, of_imports, in_imports}
use Rattle.gos_supplies.specs.arrays.Written.{WritingIsSupplied, WritingIsRealised}
use Rattle.gos_supplies.proofs.applications.SeamLemmas.{singles, single_plans, single_first, single_at, single_links, listed, left_none, listed_imports, listed_at}
use Rattle.gos_supplies.proofs.applications.SingleLemmas.{alone_joins, singles_join, singles_stand}
use Rattle.gos_supplies.proofs.applications.SideLemmas.{plain, later_plain}
use Rattle.gos_supplies.proofs.applications.TogetherLemmas.{forth, undo, forth_low, forth_undo, undo_forth, undo_low, undo_at, supplied_length, plans_length}

-- the parts that write, alone
abbrev assigner : ℕ → Plan
assigner w = lone (kinds.Assign w) 2 Com

abbrev number : ℕ → ℕ → Plan
number w k = lone (kinds.Lit w k) 0 (Exp w)

assigner_right : (w : ℕ) → IsRight (assigner w)
assigner_right w = (((0, 0, refl, refl), refl, refl), tt)

number_right : (w k : ℕ) → IsRight (number w k)
number_right w k = (((0, w, refl, refl), refl, refl), tt)

abbrev write_link : Link
write_link = link 0 (ResultEnd 1) 1 (PartEnd 0 1)

abbrev number_link : Link
number_link = link 1 (PartEnd 0 0) 2 (ResultEnd 0)

abbrev write_links : List Link
write_links = write_link ∷ number_link ∷ []

none_joined : (k i : ℕ) → is_joined write_links k i ≡ false
none_joined k i =
    let none = and_false (nat_eq 0 k) in
    let one = and_false (nat_eq 1 k) in
    let two = and_false (nat_eq 2 k) in
    λ j. (none j || one j) || ((one j || two j) || false)

writing_left : (w k : ℕ) (p : Plan) → all_left (writing w k p) ≡ listed 0 0 p.imports
writing_left w k p =
    append-nil (left_in write_links 0 0 p.imports) ∙ left_none write_links 0 (none_joined 0) 0 p.imports

pub writing_imports : (w k : ℕ) (p s : Plan) → IsJoining (writing w k p) s → s.imports ≡ p.imports
writing_imports w k p s joining = joining.imports ∙ (ap (map import_of) (writing_left w k p) ∙ listed_imports 0 0 p.imports)

-- where each plan stands where the two parts come behind the supplies
abbrev both_forth : ℕ → ℕ → ℕ
both_forth n k = forth (suc n) (forth (suc n) k)

abbrev both_undo : ℕ → ℕ → ℕ
both_undo n k = undo (suc n) (undo (suc n) k)

both_forth_undo : (n k : ℕ) → both_undo n (both_forth n k) ≡ k
both_forth_undo n k = ap (undo (suc n)) (forth_undo (suc n) (forth (suc n) k)) ∙ forth_undo (suc n) k

both_undo_forth : (n k : ℕ) → both_forth n (both_undo n k) ≡ k
both_undo_forth n k = ap (forth (suc n)) (undo_forth (suc n) (undo (suc n) k)) ∙ undo_forth (suc n) k

forth_first : (n : ℕ) → both_forth n 1 ≡ suc n
forth_first n = forth_low (suc n) n (omega arith)

forth_next : (n : ℕ) → both_forth n 2 ≡ suc (suc n)
forth_next n = ap (forth (suc n)) (forth_low (suc n) 0 (omega arith))

forth_supply : (n i : ℕ) → i < n → both_forth n (suc (suc (suc i))) ≡ suc i
forth_supply n i low = ap (forth (suc n)) (forth_low (suc n) (suc i) (omega (arith, low))) ∙ forth_low (suc n) i (omega (arith, low))

undo_first : (n : ℕ) → both_undo n (suc n) ≡ 1
undo_first n = ap (undo (suc n)) (undo_low (suc n) n (omega arith)) ∙ undo_at (suc n) (suc n) refl

undo_next : (n : ℕ) → both_undo n (suc (suc n)) ≡ 2
undo_next n = ap (undo (suc n)) (undo_at (suc n) (suc n) refl) ∙ undo_low (suc n) 0 (omega arith)

undo_supply : (n k : ℕ) → k < n → both_undo n (suc k) ≡ suc (suc (suc k))
undo_supply n k low = ap (undo (suc n)) (undo_low (suc n) k (omega (arith, low))) ∙ undo_low (suc n) (suc k) (omega (arith, low))

-- the links of both flat wirings: to the parts, and to the supplies
data Seam : Type 0 where
  Writes : Seam
  Asks : Seam
  OfImport : (import shake : ℕ) → Seam

abbrev IsSeam : Plan → Seam → Type 0
IsSeam p Writes = Unit {0}
IsSeam p Asks = Unit {0}
IsSeam p (OfImport i h) = (x : Imported) × (slice_get p.imports i ≡ Some x) × (h < count x.ty)

abbrev joined_link : Seam → Link
joined_link Writes = write_link
joined_link Asks = number_link
joined_link (OfImport i h) = link 0 (ImportEnd i h) (suc (suc (suc i))) (ResultEnd h)

abbrev parted_link : ℕ → Seam → Link
parted_link n Writes = link 0 (ResultEnd 1) (suc n) (PartEnd 0 1)
parted_link n Asks = link (suc n) (PartEnd 0 0) (suc (suc n)) (ResultEnd 0)
parted_link n (OfImport i h) = supply_link i h

abbrev IsOfSeam : Plan → (Seam → Link) → Link → Type 0
IsOfSeam p f m = (k : Seam) × IsSeam p k × (m ≡ f k)

module _ (w v : ℕ) (p s x : Plan) (ss : List Supply) (imports : s.imports ≡ p.imports) (enough : length p.imports ≡ length ss)
    (own_size : length (plans_of ss) ≡ length p.imports)
  where
    abbrev n : ℕ
    n = length (plans_of ss)

    abbrev pub own : List Wiring
    own = supplying p ss ∷ side 0 Com (assigner w) ∷ side 0 (Exp w) (number w v) ∷ []

    abbrev pub parted : Wiring
    parted = flat (writing w v x) own

    abbrev pub wirings : List Wiring
    wirings = writing w v p ∷ singles ss

    abbrev pub joined : Wiring
    joined = flat (supplying s ss) wirings

    writes_parted : deeper_link own write_link ≡ parted_link n Writes
    writes_parted = let sum : suc n + 0 + 0 ≡ suc n = omega arith in ap (λ (k : ℕ). link 0 (ResultEnd 1) k (PartEnd 0 1)) sum

    asks_parted : deeper_link own number_link ≡ parted_link n Asks
    asks_parted =
        let sum : suc n + 0 + 0 ≡ suc n = omega arith in
        let next : suc n + (1 + 0) + 0 ≡ suc (suc n) = omega arith in λ j. link (sum j) (PartEnd 0 0) (next j) (ResultEnd 0)

    only : (l : Link) → Contains write_links l → (l ≡ write_link) ⊎ (l ≡ number_link)
    only l (zero, small, e) = inl (sym e)
    only l (suc zero, small, e) = inr (sym e)
    only l (suc (suc k), small, e) = absurd (omega (arith, small))

    parted_seam : (m : Link) → Contains parted.links m → IsOfSeam p (parted_link n) m
    parted_seam m has = by_flat (of_flat (writing w v x) own m has)
      where
        by_flat : OfWiring own m ⊎ OfOuter (writing w v x) own m → IsOfSeam p (parted_link n) m
        by_flat (inl (zero, y, l, at, among, same)) =
            let is_v : supplying p ss ≡ y = cc at in
            let there = of_imports 0 p.imports l (subst (λ (u : Wiring). Contains u.links l) (sym is_v) among) in (
              OfImport there.number there.shake,
              (there.import, there.at, there.small),
              sym same ∙ (ap (later_link 0) there.same ∙ later_plain there.number there.shake),
            )
        by_flat (inl (suc zero, y, l, at, among, same)) =
            let is_v : side 0 Com (assigner w) ≡ y = cc at in
            let (j, small, e) = subst (λ (u : Wiring). Contains u.links l) (sym is_v) among in absurd (omega (arith, small))
        by_flat (inl (suc (suc zero), y, l, at, among, same)) =
            let is_v : side 0 (Exp w) (number w v) ≡ y = cc at in
            let (j, small, e) = subst (λ (u : Wiring). Contains u.links l) (sym is_v) among in absurd (omega (arith, small))
        by_flat (inl (suc (suc (suc k)), y, l, at, among, same)) = absurd (cc at)
        by_flat (inr (l, among, same)) =
            elim (only l among) [
              | inl e ↦ (Writes, tt, sym same ∙ (ap (deeper_link own) e ∙ writes_parted))
              | inr e ↦ (Asks, tt, sym same ∙ (ap (deeper_link own) e ∙ asks_parted))
            ]

    seam_parted : (k : Seam) → IsSeam p k → Contains parted.links (parted_link n k)
    seam_parted Writes seam = subst (Contains parted.links) writes_parted (flat_outer (writing w v x) own write_link (0, omega arith, refl))
    seam_parted Asks seam = subst (Contains parted.links) asks_parted (flat_outer (writing w v x) own number_link (1, omega arith, refl))
    seam_parted (OfImport i h) (z, at, small) =
        subst (Contains parted.links) (later_plain i h)
        (flat_inner (writing w v x) own 0 (supplying p ss) (supply_link (0 + i) h) refl (in_imports 0 p.imports i h z at small))

    supply_deep : (i h : ℕ) (z : Imported) → slice_get p.imports i ≡ Some z → deeper_link wirings (supply_link i h) ≡ joined_link (OfImport i h)
    supply_deep i h z at =
        let zero_i : 0 + i ≡ i = omega arith in
        let at_left : slice_get (all_left (writing w v p)) i ≡ Some (record { plan = 0; number = i; import = z }) =
        ap (λ (l : List LeftImport). slice_get l i) (writing_left w v p)
        ∙ (listed_at 0 0 p.imports i z at ∙ (λ j. Some (record { plan = 0; number = zero_i j; import = z })))
        in
        let one : deeper wirings (place 0 (ImportEnd i h)) ≡ place 0 (ImportEnd i h) = ap (λ (o : Option LeftImport). later 0 (left_place o h)) at_left in
        let low = slice_get_within p.imports i z at in
        let small : i < length ss = omega (arith, low, enough) in
        let (u, at_u) = single_at ss i small in
        let first = single_first ss i small in
        let sum : 3 + first_of (singles ss) i + 0 ≡ suc (suc (suc i)) = omega (arith, first) in
        let zeros : 0 + h ≡ h = omega arith in
        let other : deeper wirings (place (suc i) (ResultEnd h)) ≡ place (suc (suc (suc i))) (ResultEnd h) =
        ap (λ (o : Option Wiring). later (3 + first_of (singles ss) i) (origin_if o (ResultEnd h))) at_u ∙ (λ j. place (sum j) (ResultEnd (zeros j)))
        in
        λ j. record { one = one j; other = other j }

    joined_seam : (m : Link) → Contains joined.links m → IsOfSeam p joined_link m
    joined_seam m has = by_flat (of_flat (supplying s ss) wirings m has)
      where
        by_flat : OfWiring wirings m ⊎ OfOuter (supplying s ss) wirings m → IsOfSeam p joined_link m
        by_flat (inl (zero, y, l, at, among, same)) =
            let is_v : writing w v p ≡ y = cc at in
            elim (only l (subst (λ (u : Wiring). Contains u.links l) (sym is_v) among)) [
              | inl e ↦ (Writes, tt, sym same ∙ ap (later_link 0) e)
              | inr e ↦ (Asks, tt, sym same ∙ ap (later_link 0) e)
            ]
        by_flat (inl (suc k, y, l, at, among, same)) =
            let (j, small, e) = subst (λ (ls : List Link). Contains ls l) (single_links ss k y at) among in absurd (omega (arith, small))
        by_flat (inr (l, among, same)) =
            let there = of_imports 0 s.imports l among in
            let at_p : slice_get p.imports there.number ≡ Some there.import = ap (λ (xs : List Imported). slice_get xs there.number) (sym imports) ∙ there.at in (
              OfImport there.number there.shake,
              (there.import, at_p, there.small),
              sym same ∙ (ap (deeper_link wirings) (there.same ∙ plain there.number there.shake) ∙ supply_deep there.number there.shake there.import at_p),
            )

    seam_joined : (k : Seam) → IsSeam p k → Contains joined.links (joined_link k)
    seam_joined Writes seam = flat_inner (supplying s ss) wirings 0 (writing w v p) write_link refl (0, omega arith, refl)
    seam_joined Asks seam = flat_inner (supplying s ss) wirings 0 (writing w v p) number_link refl (1, omega arith, refl)
    seam_joined (OfImport i h) (z, at, small) =
        subst (Contains joined.links) (ap (deeper_link wirings) (plain i h) ∙ supply_deep i h z at)
        (flat_outer (supplying s ss) wirings (supply_link (0 + i) h)
        (in_imports 0 s.imports i h z (ap (λ (xs : List Imported). slice_get xs i) imports ∙ at) small))

    -- the parts go behind the supplies
    abbrev moves : Place → Place
    moves = rewired (both_forth n) (λ k. unchanged)

    abbrev moves_back : Place → Place
    moves_back = rewired (both_undo n) (λ k. unchanged)

    home : (c : Place) → moves_back (moves c) ≡ c
    home c = place_is (moves_back (moves c)) c (both_forth_undo n c.plan) (unchanged_end (moved_end unchanged c.end) ∙ unchanged_end c.end)

    moves_one : (c d : Place) → moves c ≡ moves d → c ≡ d
    moves_one c d e = sym (home c) ∙ (ap moves_back e ∙ home d)

    seam_one : (k : Seam) → moves (joined_link k).one ≡ (parted_link n k).one
    seam_one Writes = refl
    seam_one Asks = ap (λ (k : ℕ). place k (PartEnd 0 0)) (forth_first n)
    seam_one (OfImport i h) = refl

    seam_other : (k : Seam) → IsSeam p k → moves (joined_link k).other ≡ (parted_link n k).other
    seam_other Writes seam = ap (λ (k : ℕ). place k (PartEnd 0 1)) (forth_first n)
    seam_other Asks seam = ap (λ (k : ℕ). place k (ResultEnd 0)) (forth_next n)
    seam_other (OfImport i h) (z, at, small) =
        let low = slice_get_within p.imports i z at in ap (λ (k : ℕ). place k (ResultEnd h)) (forth_supply n i (omega (arith, low, own_size)))

    link_to : (c d : Place) → Linked joined c d → Linked parted (moves c) (moves d)
    link_to c d (l, has, ways) =
        let (k, seam, same) = joined_seam l has in
        let one : moves l.one ≡ (parted_link n k).one = ap (λ (m : Link). moves m.one) same ∙ seam_one k in
        let other : moves l.other ≡ (parted_link n k).other = ap (λ (m : Link). moves m.other) same ∙ seam_other k seam in
        elim ways [
          | inl (e, f) ↦ (parted_link n k, seam_parted k seam, inl (ap moves e ∙ one, ap moves f ∙ other))
          | inr (e, f) ↦ (parted_link n k, seam_parted k seam, inr (ap moves e ∙ other, ap moves f ∙ one))
        ]

    link_from : (c d : Place) → Linked parted (moves c) (moves d) → Linked joined c d
    link_from c d (l, has, ways) =
        let (k, seam, same) = parted_seam l has in
        let one : l.one ≡ moves (joined_link k).one = ap (λ (m : Link). m.one) same ∙ sym (seam_one k) in
        let other : l.other ≡ moves (joined_link k).other = ap (λ (m : Link). m.other) same ∙ sym (seam_other k seam) in
        elim ways [
          | inl (e, f) ↦ (joined_link k, seam_joined k seam, inl (moves_one c (joined_link k).one (e ∙ one), moves_one d (joined_link k).other (f ∙ other)))
          | inr (e, f) ↦ (joined_link k, seam_joined k seam, inr (moves_one c (joined_link k).other (e ∙ other), moves_one d (joined_link k).one (f ∙ one)))
        ]

    abbrev rest : List Plan
    rest = (assigner w ∷ []) ++ ((number w v ∷ []) ++ [])

    abbrev PlanThere : ℕ → Plan → Type 0
    PlanThere k u = (y : Plan) × (slice_get parted.plans (both_forth n k) ≡ Some y) × IsRenumbered unchanged u y

    plans : IsRight p → ((k : ℕ) (u : Plan) → slice_get (plans_of ss) k ≡ Some u → IsRight u) → (k : ℕ) (u : Plan) → slice_get joined.plans k ≡ Some u → PlanThere k u
    plans right rights zero u at = let same : p ≡ u = cc at in (p, refl, subst (λ (y : Plan). IsRenumbered unchanged y p) same (is_itself p right))
    plans right rights (suc zero) u at =
        let same : assigner w ≡ u = cc at in
        let sum : n ≡ n + 0 = omega arith in (
          assigner w,
          ap (slice_get parted.plans) (forth_first n) ∙ (ap (slice_get (plans_of ss ++ rest)) sum ∙ found_behind (plans_of ss) rest 0),
          subst (λ (y : Plan). IsRenumbered unchanged y (assigner w)) same (is_itself (assigner w) (assigner_right w)),
        )
    plans right rights (suc (suc zero)) u at =
        let same : number w v ≡ u = cc at in
        let sum : suc n ≡ n + 1 = omega arith in (
          number w v,
          ap (slice_get parted.plans) (forth_next n) ∙ (ap (slice_get (plans_of ss ++ rest)) sum ∙ found_behind (plans_of ss) rest 1),
          subst (λ (y : Plan). IsRenumbered unchanged y (number w v)) same (is_itself (number w v) (number_right w v)),
        )
    plans right rights (suc (suc (suc i))) u at =
        let of_ss : slice_get (plans_of ss) i ≡ Some u = ap (λ (ps : List Plan). slice_get ps i) (sym (single_plans ss)) ∙ at in (
          u,
          ap (slice_get parted.plans) (forth_supply n i (slice_get_within (plans_of ss) i u of_ss)) ∙ found_in_front (plans_of ss) rest i u of_ss,
          is_itself u (rights i u of_ss),
        )

    abbrev PlanHere : ℕ → Type 0
    PlanHere k = (u : Plan) × (slice_get joined.plans (both_undo n k) ≡ Some u)

    supply_here : (k : ℕ) (u : Plan) → InTwo (plans_of ss) rest k u → PlanHere (suc k)
    supply_here k u (inl at) =
        (u, ap (slice_get joined.plans) (undo_supply n k (slice_get_within (plans_of ss) k u at)) ∙ (ap (λ (ps : List Plan). slice_get ps k) (single_plans ss) ∙ at))
    supply_here k u (inr (zero, sum, at)) =
        let same : k ≡ n = omega (arith, sum) in (assigner w, ap (λ (j : ℕ). slice_get joined.plans (both_undo n (suc j))) same ∙ ap (slice_get joined.plans) (undo_first n))
    supply_here k u (inr (suc zero, sum, at)) =
        let same : k ≡ suc n = omega (arith, sum) in (number w v, ap (λ (j : ℕ). slice_get joined.plans (both_undo n (suc j))) same ∙ ap (slice_get joined.plans) (undo_next n))
    supply_here k u (inr (suc (suc j), sum, at)) = absurd (cc at)

    no_more : (k : ℕ) (u : Plan) → slice_get parted.plans k ≡ Some u → PlanHere k
    no_more zero u at = (p, refl)
    no_more (suc k) u at = supply_here k u (in_two (plans_of ss) rest k u at)

    pub writing_rewired : s.outcome ≡ Com → IsRight p → ((k : ℕ) (u : Plan) → slice_get (plans_of ss) k ≡ Some u → IsRight u)
        → IsRewired (both_forth n) (both_undo n) (λ k. unchanged) joined parted
    writing_rewired outcome right rights =
        record {
          returns = both_forth_undo n;
          comes = both_undo_forth n;
          one_to_one = λ k. unchanged_one;
          plans = plans right rights;
          no_more = no_more;
          links = λ c d. (link_to c d, link_from c d);
          giver = let sum : suc n + 0 + 0 ≡ suc n = omega arith in sum ∙ sym (forth_first n);
          skipped = refl;
          outcome = sym outcome;
        }

pub writing_is_supplied : WritingIsSupplied
writing_is_supplied w v p s x r z ss of_s of_ss of_x of_r of_z =
    let imports = writing_imports w v p s of_s.joining in
    let own_size = supplied_length p.imports ss of_ss in
    let enough : length p.imports ≡ length ss = sym own_size ∙ plans_length ss in
    let rights : (k : ℕ) (u : Plan) → slice_get (plans_of ss) k ≡ Some u → IsRight u = λ k u at. supply_is_right p.imports ss k u of_ss at in
    rewired_is_renumbered (both_forth (length (plans_of ss))) (both_undo (length (plans_of ss))) (λ k. unchanged) (joined w v p s x ss imports enough own_size)
    (parted w v p s x ss imports enough own_size) z r
    (writing_rewired w v p s x ss imports enough own_size of_s.joining.outcome (of_s.fits.right 0 p refl) rights)
    (joinings_join (supplying s ss) (wirings w v p s x ss imports enough own_size) z (of_s.joining, singles_join ss rights)
    (links_stand (writing w v p) of_s.fits, singles_stand ss) (links_stand (supplying s ss) of_z.fits) of_z.joining)
    (joinings_join (writing w v x) (own w v p s x ss imports enough own_size) r (of_x.joining, (alone_joins (assigner w) (assigner_right w), (alone_joins (number w v) (number_right w v), tt)))
    (links_stand (supplying p ss) of_x.fits, ((λ l has. absurd (no_link l has)), ((λ l has. absurd (no_link l has)), tt))) (links_stand (writing w v x) of_r.fits) of_r.joining)
  where
    no_link : (l : Link) → Contains [] l → ⊥
    no_link l (k, small, e) = omega (arith, small)

pub writing_is_realised : WritingIsRealised
writing_is_realised w v p s m right type_p small of_s open_p us z are of_z names =
    let imports = writing_imports w v p s of_s.joining in
    let of_us : AreSupplied p.imports us = subst (λ (l : List Imported). AreSupplied l us) imports are in
    let (x, of_x) = supplied_is_joined p us right of_us in
    let type_x : x.outcome ≡ Var w = of_x.joining.outcome ∙ type_p in
    let (r, of_r) = (variables_are_joined w v x of_x.joining.right type_x).1 in
    let (g, same) = writing_is_supplied w v p s x r z us of_s of_us of_x of_r of_z in
    let names_x : NamesDiffer x.imports =
    subst NamesDiffer (writing_imports w v x r of_r.joining) (names_same g.import g.import_back z.imports r.imports (reordered g z r same) names)
    in
    let whole : Realises (Var w) x (supplied (term_for p.imports us) m) =
    subst (λ (t : Type'). Realises t x (supplied (term_for p.imports us) m)) type_p (open_p us x of_us of_x names_x)
    in
    let (suits, means) = whole.means.1 r v small of_r in
    let there = renumbered_is_realised g z r Com (Assign (supplied (term_for p.imports us) m) (Lit v w)) same (record { suits = suits; means = means }) in
    subst (λ (t : Type'). Realises t z (supplied (term_for s.imports us) (Assign m (Lit v w)))) (sym of_s.joining.outcome)
    (subst (λ (l : List Imported). Realises Com z (supplied (term_for l us) (Assign m (Lit v w)))) (sym imports) there)
