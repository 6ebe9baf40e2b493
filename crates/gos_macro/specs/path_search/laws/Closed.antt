-- Where the search missed nothing at the fixed place, no path leads past what it found, at any place.
--
-- Read first: Search; Elements, Renamed.
use Rattle.std.proofs.Common.{◌≡◌, ◌⊎◌, inl, inr, ℕ, zero, suc, ◌+◌, ◌<◌, Bool, true, false, not, ◌&&◌, ◌||◌, List, [], ◌∷◌, length, map, Contains, Some, slice_get, nat_eq, refl, sym, ◌∙◌, ap, subst, arith, eq-eqb}
use Rattle.std.specs.List.{list_any, list_all}
use Rattle.std.proofs.lemmas.Option.{slice_get_within}
use Rattle.gos_netlist.specs.Nets.{Cell, pins}
use Rattle.gos_netlist.specs.Cycles.{IsRegister}
use Rattle.gos_plan.specs.Kinds.{Contact}
use Rattle.gos_macro.specs.Gates.{Incoming}
use Rattle.gos_macro.specs.Paths.{Drives, Path, IsIn, AreApart, with_renamed}
use Rattle.gos_macro.specs.path_search.Fixed.{placed, placed_cells}
use Rattle.gos_macro.specs.path_search.Search.{flows, comes_in, is_closed, is_known}
use Rattle.gos_macro.specs.path_search.laws.Elements.{both_true, passes_each, passes_here, one_passes, in_mapped, mapped_from}
use Rattle.gos_macro.specs.path_search.laws.Renamed.{Stands, Own, Pulse, Value, stands, placed_own, placed_pulse, placed_value, pins_renamed, register_kept}

-- a cell with a pin that starts or was found, and no register, was found
pub closed_at : (starts found : ℕ → Bool) (n : ℕ) (cs : List Cell) → is_closed starts found n cs ≡ true → (k : ℕ) (c : Cell) → slice_get cs k ≡ Some c
    → flows (λ m. starts m || found m) (Some c) ≡ true → found (n + k) ≡ true
closed_at starts found n [] closed k c at flow = absurd (cc at)
closed_at starts found n (x ∷ xs) closed zero c at flow =
    let same : x ≡ c = cc at in
    let place : n ≡ n + 0 = omega arith in
    let here = (both_true (not (flows (λ m. starts m || found m) (Some x)) || found n) (is_closed starts found (suc n) xs) closed).0 in
    subst (λ (m : ℕ). found m ≡ true) place
    (by_test (flows (λ m. starts m || found m) (Some x)) (ap (λ (y : Cell). flows (λ m. starts m || found m) (Some y)) same ∙ flow) here)
  where
    by_test : (t : Bool) → t ≡ true → (not t || found n) ≡ true → found n ≡ true
    by_test true holds h = h
    by_test false fails h = absurd (cc fails)
closed_at starts found n (x ∷ xs) closed (suc k) c at flow =
    let place : suc n + k ≡ n + suc k = omega arith in
    let rest = (both_true (not (flows (λ m. starts m || found m) (Some x)) || found n) (is_closed starts found (suc n) xs) closed).1 in
    subst (λ (m : ℕ). found m ≡ true) place (closed_at starts found (suc n) xs rest k c at flow)

-- What was found from a handshake of gates at some place.
pub record Followed (contacts : List Contact) (cs : List Cell) (from : ℕ) (found : ℕ → Bool) : Type 0 where
  pub there : from < length contacts
  pub known : list_all (λ c. list_all (is_known contacts (length cs)) (pins c.gate)) cs ≡ true
  pub closed : is_closed (comes_in from) found 0 cs ≡ true

-- a net that was found
abbrev pub IsFound : ℕ → List Cell → (ℕ → Bool) → ℕ → Type 0
IsFound b cs found n = (k : ℕ) × (n ≡ b + k) × (k < length cs) × (found k ≡ true)

-- a number that stands for such a net, or for one that comes in, passes
passes : (contacts : List Contact) (cs : List Cell) (from : ℕ) (found : ℕ → Bool) (b : ℕ) (i : Incoming)
    → AreApart contacts b (length cs) i → from < length contacts → (p : ℕ) → Stands contacts (length cs) p → (m : ℕ) → placed b i p ≡ m
    → IsIn contacts i from m ⊎ IsFound b cs found m → (comes_in from p || found p) ≡ true
passes contacts cs from found b i apart there p (Own low small) m is (inl into) =
    let net = sym (placed_own b i p low) ∙ is in
    absurd
    (elim (apart.outside from m there into) [ inl before ↦ omega (arith, before, net) | inr behind ↦ omega (arith, behind, net, small) ])
passes contacts cs from found b i apart there p (Own low small) m is (inr (k, at, inside, holds)) =
    let net = sym (placed_own b i p low) ∙ is in
    let same : k ≡ p = omega (arith, net, at) in
    or_second (comes_in from p) (subst (λ (n : ℕ). found n ≡ true) same holds)
  where
    or_second : (a : Bool) → found p ≡ true → (a || found p) ≡ true
    or_second true h = refl
    or_second false h = h
passes contacts cs from found b i apart there p (Pulse h low small is_pulse) m is reached =
    let net : m ≡ i.pulse h = sym is ∙ (ap (placed b i) is_pulse ∙ placed_pulse b i h low) in
    by_reach reached net
  where
    by_reach : IsIn contacts i from m ⊎ IsFound b cs found m → m ≡ i.pulse h → (comes_in from p || found p) ≡ true
    by_reach (inl into) net =
        let same = apart.shakes h from m small there (inl net) into in
        let here : p ≡ 1000 + from = is_pulse ∙ ap (λ (n : ℕ). 1000 + n) same in
        ap (λ (t : Bool). (t || nat_eq p (2000 + from)) || found p) (eq-eqb p (1000 + from) here)
    by_reach (inr (k, at, inside, holds)) net =
        absurd (elim (apart.outside h m small (inl net)) [ inl before ↦ omega (arith, before, at) | inr behind ↦ omega (arith, behind, at, inside) ])
passes contacts cs from found b i apart there p (Value h small some is_value) m is reached =
    let net : m ≡ i.value h = sym is ∙ (ap (placed b i) is_value ∙ placed_value b i h) in
    by_reach reached net
  where
    or_second : (a : Bool) (t : Bool) → t ≡ true → ((a || t) || found p) ≡ true
    or_second true t h = refl
    or_second false t h = ap (λ (u : Bool). u || found p) h

    by_reach : IsIn contacts i from m ⊎ IsFound b cs found m → m ≡ i.value h → (comes_in from p || found p) ≡ true
    by_reach (inl into) net =
        let same = apart.shakes h from m small there (inr (some, net)) into in
        let here : p ≡ 2000 + from = is_value ∙ ap (λ (n : ℕ). 2000 + n) same in
        or_second (nat_eq p (1000 + from)) (nat_eq p (2000 + from)) (eq-eqb p (2000 + from) here)
    by_reach (inr (k, at, inside, holds)) net =
        absurd
        (elim (apart.outside h m small (inr (some, net))) [ inl before ↦ omega (arith, before, at) | inr behind ↦ omega (arith, behind, at, inside) ])

-- one cell further
next_found : (contacts : List Contact) (cs : List Cell) (from : ℕ) (found : ℕ → Bool) → Followed contacts cs from found
    → (b : ℕ) (i : Incoming) → AreApart contacts b (length cs) i → (m n : ℕ) → IsIn contacts i from m ⊎ IsFound b cs found m
    → Drives b (placed_cells b i cs) m n → IsFound b cs found n
next_found contacts cs from found followed b i apart m n reached (k, c, is, at, none, pin) =
    let (x, here, same) = mapped_from (with_renamed (placed b i)) cs k c at in
    let named : Contains (map (placed b i) (pins x.gate)) m =
    subst (λ (ns : List ℕ). Contains ns m) (pins_renamed (placed b i) x.gate) (subst (λ (y : Cell). Contains (pins y.gate) m) (sym same) pin) in
    let (p, into, stands_for) = in_mapped (placed b i) (pins x.gate) m named in
    let known = passes_each (is_known contacts (length cs)) (pins x.gate) p
    (passes_here (λ c. list_all (is_known contacts (length cs)) (pins c.gate)) cs k x followed.known here) into in
    let start = passes contacts cs from found b i apart followed.there p (stands contacts (length cs) p known) m stands_for reached in
    let gate = register_kept (placed b i) x.gate (subst (λ (y : Cell). IsRegister y.gate → ⊥) (sym same) none) in
    let flow : flows (λ m. comes_in from m || found m) (Some x) ≡ true =
    ap (λ (t : Bool). not t && list_any (λ m. comes_in from m || found m) (pins x.gate)) gate
    ∙ one_passes (λ m. comes_in from m || found m) (pins x.gate) p into start in
    let place : 0 + k ≡ k = omega arith in
    (k, is, slice_get_within cs k x here, subst (λ (m : ℕ). found m ≡ true) place (closed_at (comes_in from) found 0 cs followed.closed k x here flow))

-- all that a path reaches was found
pub all_found : (contacts : List Contact) (cs : List Cell) (from : ℕ) (found : ℕ → Bool) → Followed contacts cs from found
    → (b : ℕ) (i : Incoming) → AreApart contacts b (length cs) i → (m : ℕ) (ns : List ℕ) (z : ℕ) → IsIn contacts i from m ⊎ IsFound b cs found m
    → Path b (placed_cells b i cs) m ns z → IsFound b cs found z
all_found contacts cs from found followed b i apart m [] z reached path = next_found contacts cs from found followed b i apart m z reached path
all_found contacts cs from found followed b i apart m (n ∷ ns) z reached (step, path) =
    all_found contacts cs from found followed b i apart n ns z (inr (next_found contacts cs from found followed b i apart m n reached step)) path
