-- From which handshake of a Share to which a path leads: what holds of each such pair, and that no request passes.
--
-- Read first: Slots, Comes.
use Rattle.std.proofs.Common.{◌≡◌, inl, inr, ℕ, zero, suc, ◌+◌, Bool, true, false, List, [], ◌∷◌, Some, refl, ◌∙◌, ap, arith}
use Rattle.std.specs.Prelude.{◌||◌, length, nat_eq, slice_get}
use Rattle.std.proofs.lemmas.Bool.{and_parts, and_from, or_cases, or_left, or_right, eqb-true, eq-eqb}
use Rattle.gos_types.specs.declared.shakes.Role.{Role}
use Rattle.gos_types.specs.declared.shakes.Role.TheVariants.{Serve, Ask}
use Rattle.gos_plan.specs.Kinds.{Contact}
use Rattle.gos_macro.specs.Gates.{is_among}
use Rattle.gos_share.specs.Share.{block_passing, row_passing, share_late, share_passing}
use Rattle.gos_share.specs.laws.Slots.{is_served, Tells, served_tells}
use Rattle.gos_share.specs.laws.Comes.{sides, IsPlaced, ArePlaced, all_placed}

-- both pairs of handshake j
abbrev pub AtPairs : (ℕ → ℕ → Type 0) → Role → ℕ → ℕ → Type 0
AtPairs P Serve h j = P j (h + j) × P j (h + h + j)
AtPairs P Ask h j = P (h + j) j × P (h + h + j) j

-- those of all handshakes from j on
abbrev pub AtAllPairs : (ℕ → ℕ → Type 0) → ℕ → ℕ → List Contact → Type 0
AtAllPairs P h j [] = Unit {0}
AtAllPairs P h j (k ∷ ks) = AtPairs P k.role h j × AtAllPairs P h (suc j) ks

-- what holds of a handshake's pairs holds where it passes
at_pair : (P : ℕ → ℕ → Type 0) (r : Role) (h j from to : ℕ) → AtPairs P r h j → block_passing r h j from to ≡ true → P from to
at_pair P Serve h j from to each passes =
    let both = and_parts (nat_eq from j) (nat_eq to (h + j) || nat_eq to (h + h + j)) passes in
    let first = eqb-true from j both.0 in
    elim (or_cases (nat_eq to (h + j)) (nat_eq to (h + h + j)) both.1) [
      | inl e ↦ rw (first, eqb-true to (h + j) e) each.0
      | inr e ↦ rw (first, eqb-true to (h + h + j) e) each.1
    ]
at_pair P Ask h j from to each passes =
    let both = and_parts (nat_eq to j) (nat_eq from (h + j) || nat_eq from (h + h + j)) passes in
    let last = eqb-true to j both.0 in
    elim (or_cases (nat_eq from (h + j)) (nat_eq from (h + h + j)) both.1) [
      | inl e ↦ rw (last, eqb-true from (h + j) e) each.0
      | inr e ↦ rw (last, eqb-true from (h + h + j) e) each.1
    ]

pub where_it_passes : (P : ℕ → ℕ → Type 0) (h j from to : ℕ) (ks : List Contact) → AtAllPairs P h j ks → row_passing h j ks from to ≡ true → P from to
where_it_passes P h j from to [] each passes = cc passes
where_it_passes P h j from to (k ∷ ks) each passes =
    elim (or_cases (block_passing k.role h j from to) (row_passing h (suc j) ks from to) passes) [
      | inl here ↦ at_pair P k.role h j from to each.0 here
      | inr behind ↦ where_it_passes P h (suc j) from to ks each.1 behind
    ]

-- it passes at each pair
abbrev pub Passes : (ℕ → ℕ → Bool) → ℕ → ℕ → Type 0
Passes f from to = f from to ≡ true

pair_passes : (r : Role) (h j : ℕ) → AtPairs (Passes (block_passing r h j)) r h j
pair_passes Serve h j =
    let same = eq-eqb j j refl in (
      and_from _ _ same (or_left _ (nat_eq (h + j) (h + h + j)) (eq-eqb (h + j) (h + j) refl)),
      and_from _ _ same (or_right (nat_eq (h + h + j) (h + j)) _ (eq-eqb (h + h + j) (h + h + j) refl)),
    )
pair_passes Ask h j =
    let same = eq-eqb j j refl in (
      and_from _ _ same (or_left _ (nat_eq (h + j) (h + h + j)) (eq-eqb (h + j) (h + j) refl)),
      and_from _ _ same (or_right (nat_eq (h + h + j) (h + j)) _ (eq-eqb (h + h + j) (h + h + j) refl)),
    )

passes_more : (f g : ℕ → ℕ → Bool) (r : Role) (h j : ℕ) → ((from to : ℕ) → Passes f from to → Passes g from to)
    → AtPairs (Passes f) r h j → AtPairs (Passes g) r h j
passes_more f g Serve h j more each = (more j (h + j) each.0, more j (h + h + j) each.1)
passes_more f g Ask h j more each = (more (h + j) j each.0, more (h + h + j) j each.1)

row_passes : (f : ℕ → ℕ → Bool) (h j : ℕ) (ks : List Contact) → ((from to : ℕ) → Passes (row_passing h j ks) from to → Passes f from to)
    → AtAllPairs (Passes f) h j ks
row_passes f h j [] more = tt
row_passes f h j (k ∷ ks) more = (
  passes_more (block_passing k.role h j) f k.role h j
      (λ from to passes. more from to (or_left (block_passing k.role h j from to) (row_passing h (suc j) ks from to) passes))
      (pair_passes k.role h j),
  row_passes f h (suc j) ks (λ from to passes. more from to (or_right (block_passing k.role h j from to) (row_passing h (suc j) ks from to) passes)),
)

pub all_pass : (ks : List Contact) → AtAllPairs (Passes (share_passing ks)) (length ks) 0 ks
all_pass ks = row_passes (share_passing ks) (length ks) 0 ks (λ from to passes. passes)

-- a test that tells the handshakes that are served, at one of them
pub tells_at : (f : ℕ → Bool) (h m e : ℕ) (ks : List Contact) (k : Contact) → e ≡ h + m → Tells f h ks → slice_get ks m ≡ Some k → f e ≡ is_served k.role
tells_at f h m e [] k is tells there = absurd (cc there)
tells_at f h zero e (l ∷ ks) k is tells there =
    let same : l ≡ k = cc there in
    let here : e ≡ h = omega (arith, is) in
    ap f here ∙ tells.0 ∙ ap (λ (c : Contact). is_served c.role) same
tells_at f h (suc m) e (l ∷ ks) k is tells there = tells_at f (suc h) m e ks k (omega (arith, is)) tells.1 there

-- what passes isn't late
abbrev pub IsEarly : List ℕ → ℕ → ℕ → Type 0
IsEarly late from to = is_among late from ≡ false

rows_early : (ls : List Contact) (j : ℕ) (ks : List Contact) → ArePlaced ls j ks → AtAllPairs (IsEarly (share_late ls)) (length ls) j ks
rows_early ls j [] placed = tt
rows_early ls j (k ∷ ks) placed = (by_role k.role k.ask_bits k.answer_bits placed.0, rows_early ls (suc j) ks placed.1)
  where
    early : (e : ℕ) (l : Contact) → slice_get (sides ls) e ≡ Some l → is_among (share_late ls) e ≡ is_served l.role
    early e l there = tells_at (is_among (share_late ls)) 0 e e (sides ls) l (omega arith) (served_tells 0 (sides ls)) there

    by_role : (r : Role) (q a : ℕ) → IsPlaced ls (record { role = r; ask_bits = q; answer_bits = a }) j → AtPairs (IsEarly (share_late ls)) r (length ls) j
    by_role Serve q a here = let known = early j _ here.source in (known, known)
    by_role Ask q a here = (early (length ls + j) _ here.first, early (length ls + length ls + j) _ here.second)

pub share_waits : (ks : List Contact) (from to : ℕ) → is_among (share_late ks) from ≡ true → share_passing ks from to ≡ false
share_waits ks from to late = by_test (share_passing ks from to) refl
  where
    by_test : (b : Bool) → share_passing ks from to ≡ b → share_passing ks from to ≡ false
    by_test false is = is
    by_test true is =
        let early = where_it_passes (IsEarly (share_late ks)) (length ks) 0 from to ks (rows_early ks 0 ks (all_placed ks)) is in
        absurd (cc (late, early))
