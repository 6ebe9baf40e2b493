-- From which handshakes what a net shows can come in the same cycle, told from the pins of its cell.
--
-- Read first: Paths.
use Rattle.std.proofs.Common.{◌≡◌, inl, inr, ◌⊎◌, ℕ, zero, suc, ◌+◌, List, [], ◌∷◌, Some, refl, sym, subst, arith}
use Rattle.std.specs.Prelude.{◌<◌, length, slice_get, slice_index_or, Contains}
use Rattle.std.specs.List.{AllByRecursion}
use Rattle.std.proofs.lemmas.Option.{slice_get_within}
use Rattle.gos_netlist.specs.Nets.{Cell, pins}
use Rattle.gos_netlist.specs.Cycles.{IsRegister}
use Rattle.gos_plan.specs.Kinds.{Contact}
use Rattle.gos_macro.specs.Gates.{Incoming}
use Rattle.gos_macro.specs.Paths.{Drives, Path, IsIn, AreApart}

-- the net itself, or one that a path leads to
abbrev pub LeadsTo : ℕ → List Cell → ℕ → ℕ → Type 0
LeadsTo b cells m z = (m ≡ z) ⊎ ((ns : List ℕ) × Path b cells m ns z)

-- where a path ends
pub path_end : (b : ℕ) (cells : List Cell) (m : ℕ) (ns : List ℕ) (z : ℕ) → Path b cells m ns z → (n : ℕ) × LeadsTo b cells m n × Drives b cells n z
path_end b cells m [] z path = (m, inl refl, path)
path_end b cells m (n ∷ ns) z path =
    let known = path_end b cells n ns z path.1 in
    (known.0, inr (longer known.0 known.1), known.2)
  where
    longer : (l : ℕ) → LeadsTo b cells n l → (ms : List ℕ) × Path b cells m ms l
    longer l (inl same) = ([], subst (λ (e : ℕ). Drives b cells m e) same path.0)
    longer l (inr (ms, rest)) = (n ∷ ms, (path.0, rest))

-- what drives the net of a known cell
pub driven : (b : ℕ) (cells : List Cell) (k : ℕ) (c : Cell) (m : ℕ) → slice_get cells k ≡ Some c → Drives b cells m (b + k)
    → (IsRegister c.gate → ⊥) × Contains (pins c.gate) m
driven b cells k c m there (l, e, is, at, none, pin) = subst (λ (x : Cell). (IsRegister x.gate → ⊥) × Contains (pins x.gate) m) same (none, pin)
  where
    here : l ≡ k
    here = omega (arith, is)

    same : e ≡ c
    same = let found = subst (λ (n : ℕ). slice_get cells n ≡ Some e) here at in cc (found, there)

-- only what comes in at these handshakes leads to a net
abbrev pub OnlyFrom : List Contact → ℕ → Incoming → List Cell → (ℕ → Type 0) → ℕ → Type 0
OnlyFrom contacts b i cells these z = (h m : ℕ) → h < length contacts → IsIn contacts i h m → LeadsTo b cells m z → these h

-- nothing else leads to a net that comes in
pub comes_alone : (contacts : List Contact) (b : ℕ) (i : Incoming) (cells : List Cell) (these : ℕ → Type 0) (j z : ℕ)
    → AreApart contacts b (length cells) i → j < length contacts → IsIn contacts i j z → these j → OnlyFrom contacts b i cells these z
comes_alone contacts b i cells these j z apart low is_in of_these h m small comes (inl same) =
    subst these (sym (apart.shakes h j z small low (subst (λ (n : ℕ). IsIn contacts i h n) same comes) is_in)) of_these
comes_alone contacts b i cells these j z apart low is_in of_these h m small comes (inr (ns, path)) =
    let last = path_end b cells m ns z path in
    let driver = last.2 in
    let is = driver.2 in
    let within = slice_get_within cells driver.0 driver.1 driver.3 in
    elim (apart.outside j z low is_in) [ inl below ↦ absurd (omega (arith, below, is)) | inr above ↦ absurd (omega (arith, above, is, within)) ]

all_contain : (P : ℕ → Type 0) (xs : List ℕ) (x : ℕ) → AllByRecursion P xs → Contains xs x → P x
all_contain P xs x all (k, low, is) = subst P is (at_place xs k all low)
  where
    at_place : (ys : List ℕ) (j : ℕ) → AllByRecursion P ys → j < length ys → P (slice_index_or ys j x)
    at_place [] j every small = absurd (omega (arith, small))
    at_place (y ∷ ys) zero every small = every.0
    at_place (y ∷ ys) (suc j) every small = at_place ys j every.1 (omega (arith, small))

-- What leads to the pins of a cell leads to its net; nothing leads to a register.
pub comes_by_pins : (contacts : List Contact) (b : ℕ) (i : Incoming) (cells : List Cell) (these : ℕ → Type 0) (k : ℕ) (c : Cell)
    → AreApart contacts b (length cells) i → slice_get cells k ≡ Some c
    → ((IsRegister c.gate → ⊥) → AllByRecursion (OnlyFrom contacts b i cells these) (pins c.gate)) → OnlyFrom contacts b i cells these (b + k)
comes_by_pins contacts b i cells these k c apart there by_pins h m small comes (inl same) =
    let within = slice_get_within cells k c there in
    elim (apart.outside h m small comes) [ inl below ↦ absurd (omega (arith, below, same)) | inr above ↦ absurd (omega (arith, above, same, within)) ]
comes_by_pins contacts b i cells these k c apart there by_pins h m small comes (inr (ns, path)) =
    let last = path_end b cells m ns (b + k) path in
    let known = driven b cells k c last.0 there last.2 in
    all_contain (OnlyFrom contacts b i cells these) (pins c.gate) last.0 (by_pins known.0) known.1 h m small comes last.1
