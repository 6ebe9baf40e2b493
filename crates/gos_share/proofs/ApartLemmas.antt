-- A path leads between a handshake of the source and the same one of a caller. So the lower end tells which block alone
-- can pass.
--
-- Read first: Share.
use Rattle.std.proofs.Common.{◌≡◌, ℕ, zero, suc, ◌+◌, ◌<◌, ◌⊎◌, Bool, true, false, List, [], ◌∷◌, inl, inr, refl, ◌∙◌, arith}
use Rattle.std.specs.Prelude.{◌&&◌, ◌||◌, nat_eq, min, drop}
use Rattle.std.specs.Int.{abs_diff}
use Rattle.std.proofs.lemmas.Bool.{eqb-true}
use Rattle.gos_types.specs.declared.shakes.Role.{Role}
use Rattle.gos_types.specs.declared.shakes.Role.TheVariants.{Serve, Ask}
use Rattle.gos_plan.specs.Kinds.{Contact}
use Rattle.gos_share.specs.Share.{block_passing, row_passing}

-- they are so far apart where the type has h handshakes
abbrev pub AreApart : ℕ → ℕ → ℕ → Type 0
AreApart h from to = (abs_diff from to ≡ h) ⊎ (abs_diff from to ≡ h + h)

block_apart : (r : Role) (h j from to : ℕ) → block_passing r h j from to ≡ true → (min from to ≡ j) × AreApart h from to
block_apart Serve h j from to passes = by_tests (nat_eq from j) (nat_eq to (h + j)) (nat_eq to (h + h + j)) refl refl refl passes
  where
    by_tests : (a b c : Bool) → nat_eq from j ≡ a → nat_eq to (h + j) ≡ b → nat_eq to (h + h + j) ≡ c → (a && (b || c)) ≡ true
        → (min from to ≡ j) × AreApart h from to
    by_tests true true c at first second e =
        let x = eqb-true from j at in
        let y = eqb-true to (h + j) first in
        (omega (arith, x, y), inl (omega (arith, x, y)))
    by_tests true false true at first second e =
        let x = eqb-true from j at in
        let y = eqb-true to (h + h + j) second in
        (omega (arith, x, y), inr (omega (arith, x, y)))
    by_tests true false false at first second e = absurd (cc e)
    by_tests false b c at first second e = absurd (cc e)
block_apart Ask h j from to passes = by_tests (nat_eq to j) (nat_eq from (h + j)) (nat_eq from (h + h + j)) refl refl refl passes
  where
    by_tests : (a b c : Bool) → nat_eq to j ≡ a → nat_eq from (h + j) ≡ b → nat_eq from (h + h + j) ≡ c → (a && (b || c)) ≡ true
        → (min from to ≡ j) × AreApart h from to
    by_tests true true c at first second e =
        let x = eqb-true to j at in
        let y = eqb-true from (h + j) first in
        (omega (arith, x, y), inl (omega (arith, x, y)))
    by_tests true false true at first second e =
        let x = eqb-true to j at in
        let y = eqb-true from (h + h + j) second in
        (omega (arith, x, y), inr (omega (arith, x, y)))
    by_tests true false false at first second e = absurd (cc e)
    by_tests false b c at first second e = absurd (cc e)

-- whatever a Share passes on goes so far
pub row_apart : (h j : ℕ) (ks : List Contact) (from to : ℕ) → row_passing h j ks from to ≡ true → AreApart h from to
row_apart h j [] from to passes = absurd (cc passes)
row_apart h j (k ∷ ks) from to passes = by_first (block_passing k.role h j from to) refl (row_apart h (suc j) ks from to) passes
  where
    by_first : (t : Bool) → block_passing k.role h j from to ≡ t → (row_passing h (suc j) ks from to ≡ true → AreApart h from to)
        → (t || row_passing h (suc j) ks from to) ≡ true
        → AreApart h from to
    by_first true is rest e = (block_apart k.role h j from to is).1
    by_first false is rest e = rest e

other_block : (r : Role) (h j from to : ℕ) → (min from to ≡ j → ⊥) → block_passing r h j from to ≡ false
other_block r h j from to other = by_answer (block_passing r h j from to) refl
  where
    by_answer : (t : Bool) → block_passing r h j from to ≡ t → block_passing r h j from to ≡ false
    by_answer true is = absurd (other (block_apart r h j from to is).0)
    by_answer false is = is

-- where the lower end is before these blocks, none of them passes
none_behind : (h j : ℕ) (ks : List Contact) (from to : ℕ) → min from to < j → row_passing h j ks from to ≡ false
none_behind h j [] from to low = refl
none_behind h j (k ∷ ks) from to low = λ i. other_block k.role h j from to (λ is. omega (arith, low, is)) i || none_behind h (suc j) ks from to (omega (arith, low)) i

or_none : (t : Bool) → (t || false) ≡ t
or_none true = refl
or_none false = refl

-- it passes where the block of the lower end does
pub passes_there : (h j n : ℕ) (ks : List Contact) (k : Contact) (behind : List Contact) (from to : ℕ) → drop n ks ≡ k ∷ behind → min from to ≡ j + n
    → row_passing h j ks from to ≡ block_passing k.role h (min from to) from to
passes_there h j zero [] k behind from to there is = absurd (cc there)
passes_there h j (suc n) [] k behind from to there is = absurd (cc there)
passes_there h j zero (x ∷ ks) k behind from to there is =
    let same : x ≡ k = cc there in
    let here : j ≡ min from to = omega (arith, is) in
    (λ i. block_passing x.role h j from to || none_behind h (suc j) ks from to (omega (arith, here)) i)
    ∙ (or_none (block_passing x.role h j from to) ∙ (λ i. block_passing (same i).role h (here i) from to))
passes_there h j (suc n) (x ∷ ks) k behind from to there is =
    (λ i. other_block x.role h j from to (λ here. omega (arith, is, here)) i || row_passing h (suc j) ks from to)
    ∙ passes_there h (suc j) n ks k behind from to there (omega (arith, is))

-- and nowhere where there is none
pub passes_nowhere : (h j n : ℕ) (ks : List Contact) (from to : ℕ) → drop n ks ≡ [] → min from to ≡ j + n → row_passing h j ks from to ≡ false
passes_nowhere h j n [] from to none is = refl
passes_nowhere h j zero (x ∷ ks) from to none is = absurd (cc none)
passes_nowhere h j (suc n) (x ∷ ks) from to none is =
    (λ i. other_block x.role h j from to (λ here. omega (arith, is, here)) i || row_passing h (suc j) ks from to)
    ∙ passes_nowhere h (suc j) n ks from to none (omega (arith, is))
