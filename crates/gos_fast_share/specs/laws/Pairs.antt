-- From which handshake of a Share by order to which a path leads: what holds of each such pair.
--
-- Read first: Fast.
use Rattle.std.proofs.Common.{◌≡◌, inl, inr, ◌⊎◌, ℕ, suc, ◌+◌, Bool, true, List, [], ◌∷◌, refl}
use Rattle.std.specs.Prelude.{◌&&◌, ◌||◌, length, nat_eq}
use Rattle.std.proofs.lemmas.Bool.{and_parts, and_from, or_cases, or_left, or_right, eqb-true, eq-eqb}
use Rattle.gos_plan.specs.Kinds.{Contact}
use Rattle.gos_fast_share.specs.Fast.{sets_before, block_passing, row_passing, fast_passing}

-- what holds of all pairs of handshake j
pub record AtPairs (P : ℕ → ℕ → Type 0) (ks : List Contact) (order : List ℕ) (j : ℕ) : Type 0 where
  pub up : P (length ks + j) j × P (length ks + length ks + j) j
  pub down : P j (length ks + j) × P j (length ks + length ks + j)
  pub by_request : (e : ℕ) → sets_before ks order j e ≡ true → P e (length ks + j) × P e (length ks + length ks + j)

-- and of those of all handshakes from j on
abbrev pub AtAllPairs : (ℕ → ℕ → Type 0) → List Contact → List ℕ → ℕ → List Contact → Type 0
AtAllPairs P ks order j [] = Unit {0}
AtAllPairs P ks order j (l ∷ ls) = AtPairs P ks order j × AtAllPairs P ks order (suc j) ls

-- what holds of a handshake's pairs holds where it passes
at_pair : (P : ℕ → ℕ → Type 0) (ks : List Contact) (order : List ℕ) (j from to : ℕ) → AtPairs P ks order j
    → block_passing (length ks) j (sets_before ks order j from) from to ≡ true → P from to
at_pair P ks order j from to each passes =
    elim (or_cases (nat_eq to j && (nat_eq from (h + j) || nat_eq from (h + h + j))) ((nat_eq to (h + j) || nat_eq to (h + h + j)) && (nat_eq from j || before)) passes) [
      | inl up ↦ upward (and_parts (nat_eq to j) (nat_eq from (h + j) || nat_eq from (h + h + j)) up)
      | inr down ↦ downward (and_parts (nat_eq to (h + j) || nat_eq to (h + h + j)) (nat_eq from j || before) down)
    ]
  where
    h : ℕ
    h = length ks

    before : Bool
    before = sets_before ks order j from

    upward : (nat_eq to j ≡ true) × ((nat_eq from (h + j) || nat_eq from (h + h + j)) ≡ true) → P from to
    upward (there, side) =
        let last = eqb-true to j there in
        elim (or_cases (nat_eq from (h + j)) (nat_eq from (h + h + j)) side) [
          | inl e ↦ rw (last, eqb-true from (h + j) e) each.up.0
          | inr e ↦ rw (last, eqb-true from (h + h + j) e) each.up.1
        ]

    both : P from (h + j) × P from (h + h + j) → (nat_eq to (h + j) ≡ true) ⊎ (nat_eq to (h + h + j) ≡ true) → P from to
    both known (inl e) = rw (eqb-true to (h + j) e) known.0
    both known (inr e) = rw (eqb-true to (h + h + j) e) known.1

    downward : ((nat_eq to (h + j) || nat_eq to (h + h + j)) ≡ true) × ((nat_eq from j || before) ≡ true) → P from to
    downward (side, comes) =
        let sides = or_cases (nat_eq to (h + j)) (nat_eq to (h + h + j)) side in
        elim (or_cases (nat_eq from j) before comes) [
          | inl e ↦ both (let first = eqb-true from j e in rw first each.down) sides
          | inr e ↦ both (each.by_request from e) sides
        ]

pub where_it_passes : (P : ℕ → ℕ → Type 0) (ks : List Contact) (order : List ℕ) (j from to : ℕ) (ls : List Contact) → AtAllPairs P ks order j ls
    → row_passing ks order j ls from to ≡ true → P from to
where_it_passes P ks order j from to [] each passes = cc passes
where_it_passes P ks order j from to (l ∷ ls) each passes =
    elim (or_cases (block_passing (length ks) j (sets_before ks order j from) from to) (row_passing ks order (suc j) ls from to) passes) [
      | inl here ↦ at_pair P ks order j from to each.0 here
      | inr behind ↦ where_it_passes P ks order (suc j) from to ls each.1 behind
    ]

-- it passes at each pair
abbrev pub Passes : (ℕ → ℕ → Bool) → ℕ → ℕ → Type 0
Passes f from to = f from to ≡ true

pairs_pass : (ks : List Contact) (order : List ℕ) (j : ℕ)
    → AtPairs (λ from to. block_passing (length ks) j (sets_before ks order j from) from to ≡ true) ks order j
pairs_pass ks order j =
    record {
      up = (upward (h + j) (or_left (nat_eq (h + j) (h + j)) (nat_eq (h + j) (h + h + j)) (eq-eqb (h + j) (h + j) refl)), upward (h + h + j) (or_right (nat_eq (h + h + j) (h + j)) (nat_eq (h + h + j) (h + h + j)) (eq-eqb (h + h + j) (h + h + j) refl)));
      down = (downward j (h + j) first (or_left (nat_eq j j) (sets_before ks order j j) (eq-eqb j j refl)), downward j (h + h + j) second (or_left (nat_eq j j) (sets_before ks order j j) (eq-eqb j j refl)));
      by_request = λ e before. (downward e (h + j) first (or_right (nat_eq e j) (sets_before ks order j e) before), downward e (h + h + j) second (or_right (nat_eq e j) (sets_before ks order j e) before));
    }
  where
    h : ℕ
    h = length ks

    first : (nat_eq (h + j) (h + j) || nat_eq (h + j) (h + h + j)) ≡ true
    first = or_left (nat_eq (h + j) (h + j)) (nat_eq (h + j) (h + h + j)) (eq-eqb (h + j) (h + j) refl)

    second : (nat_eq (h + h + j) (h + j) || nat_eq (h + h + j) (h + h + j)) ≡ true
    second = or_right (nat_eq (h + h + j) (h + j)) (nat_eq (h + h + j) (h + h + j)) (eq-eqb (h + h + j) (h + h + j) refl)

    upward : (e : ℕ) → (nat_eq e (h + j) || nat_eq e (h + h + j)) ≡ true → block_passing h j (sets_before ks order j e) e j ≡ true
    upward e side =
        or_left (nat_eq j j && (nat_eq e (h + j) || nat_eq e (h + h + j))) ((nat_eq j (h + j) || nat_eq j (h + h + j)) && (nat_eq e j || sets_before ks order j e))
        (and_from (nat_eq j j) (nat_eq e (h + j) || nat_eq e (h + h + j)) (eq-eqb j j refl) side)

    downward : (e d : ℕ) → (nat_eq d (h + j) || nat_eq d (h + h + j)) ≡ true → (nat_eq e j || sets_before ks order j e) ≡ true
        → block_passing h j (sets_before ks order j e) e d ≡ true
    downward e d side comes =
        or_right (nat_eq d j && (nat_eq e (h + j) || nat_eq e (h + h + j))) ((nat_eq d (h + j) || nat_eq d (h + h + j)) && (nat_eq e j || sets_before ks order j e))
        (and_from (nat_eq d (h + j) || nat_eq d (h + h + j)) (nat_eq e j || sets_before ks order j e) side comes)

pairs_more : (P Q : ℕ → ℕ → Type 0) (ks : List Contact) (order : List ℕ) (j : ℕ) → ((from to : ℕ) → P from to → Q from to) → AtPairs P ks order j → AtPairs Q ks order j
pairs_more P Q ks order j more each =
    record {
      up = (more (length ks + j) j each.up.0, more (length ks + length ks + j) j each.up.1);
      down = (more j (length ks + j) each.down.0, more j (length ks + length ks + j) each.down.1);
      by_request = λ e before.
          let known = each.by_request e before in
          (more e (length ks + j) known.0, more e (length ks + length ks + j) known.1);
    }

row_passes : (f : ℕ → ℕ → Bool) (ks : List Contact) (order : List ℕ) (j : ℕ) (ls : List Contact)
    → ((from to : ℕ) → row_passing ks order j ls from to ≡ true → f from to ≡ true) → AtAllPairs (Passes f) ks order j ls
row_passes f ks order j [] more = tt
row_passes f ks order j (l ∷ ls) more = (
  pairs_more (λ from to. block_passing (length ks) j (sets_before ks order j from) from to ≡ true) (Passes f) ks order j
      (λ from to passes. more from to (or_left (block_passing (length ks) j (sets_before ks order j from) from to) (row_passing ks order (suc j) ls from to) passes))
      (pairs_pass ks order j),
  row_passes f ks order (suc j) ls (λ from to passes. more from to (or_right (block_passing (length ks) j (sets_before ks order j from) from to) (row_passing ks order (suc j) ls from to) passes)),
)

pub all_pass : (ks : List Contact) (order : List ℕ) → AtAllPairs (Passes (fast_passing ks order)) ks order 0 ks
all_pass ks order = row_passes (fast_passing ks order) ks order 0 ks (λ from to passes. passes)
