-- Which block alone can pass on to a handshake of the Share, and what it passes.
--
-- Read first: Fast.
use Rattle.std.proofs.Common.{◌≡◌, ℕ, zero, suc, ◌+◌, ◌<◌, ◌≤◌, Bool, true, false, List, [], ◌∷◌, refl, sym, ◌∙◌, arith}
use Rattle.std.specs.Prelude.{◌&&◌, ◌||◌, nat_eq, length}
use Rattle.gos_plan.specs.Kinds.{Contact}
use Rattle.gos_fast_share.specs.Fast.{sets_before, block_passing, row_passing, fast_passing}
use Rattle.gos_fast_share.specs.laws.Moved.{yes, no}

-- whether the block of handshake j passes on
abbrev passing_at : List Contact → List ℕ → ℕ → ℕ → ℕ → Bool
passing_at ks order from to j = block_passing (length ks) j (sets_before ks order j from) from to

-- it passes on to its own three sides alone
other_block : (h j : ℕ) (before : Bool) (from to : ℕ) → (to ≡ j → ⊥) → (to ≡ h + j → ⊥) → (to ≡ h + h + j → ⊥) → block_passing h j before from to ≡ false
other_block h j before from to source first second =
    λ i. (no to j source i && (nat_eq from (h + j) || nat_eq from (h + h + j))) || ((no to (h + j) first i || no to (h + h + j) second i) && (nat_eq from j || before))

or_none : (t : Bool) → (t || false) ≡ t
or_none true = refl
or_none false = refl

-- where none of these blocks passes, the row doesn't
none_passes : (ks : List Contact) (order : List ℕ) (j from to : ℕ) (ls : List Contact)
    → ((m : ℕ) → j ≤ m → m < j + length ls → passing_at ks order from to m ≡ false) → row_passing ks order j ls from to ≡ false
none_passes ks order j from to [] none = refl
none_passes ks order j from to (l ∷ ls) none =
    λ i. none j (omega arith) (omega arith) i || none_passes ks order (suc j) from to ls (λ m low high. none m (omega (arith, low)) (omega (arith, high))) i

-- and where but one may, it is as this one
one_passes : (ks : List Contact) (order : List ℕ) (j n from to : ℕ) (ls : List Contact) → n < length ls
    → ((m : ℕ) → (m ≡ j + n → ⊥) → m < j + length ls → passing_at ks order from to m ≡ false)
    → row_passing ks order j ls from to ≡ passing_at ks order from to (j + n)
one_passes ks order j n from to [] low none = absurd (omega (arith, low))
one_passes ks order j zero from to (l ∷ ls) low none =
    let here : j ≡ j + 0 = omega arith in
    (λ i. passing_at ks order from to j || none_passes ks order (suc j) from to ls (λ m above high. none m (λ is. omega (arith, is, above)) (omega (arith, high))) i)
    ∙ (or_none (passing_at ks order from to j) ∙ (λ i. passing_at ks order from to (here i)))
one_passes ks order j (suc n) from to (l ∷ ls) low none =
    let there : suc j + n ≡ j + suc n = omega arith in
    (λ i. none j (λ is. omega (arith, is)) (omega arith) i || row_passing ks order (suc j) ls from to)
    ∙ (one_passes ks order (suc j) n from to ls (omega (arith, low)) (λ m other high. none m (λ is. other (omega (arith, is))) (omega (arith, high)))
    ∙ (λ i. passing_at ks order from to (there i)))

-- the block of handshake j, where no other passes
one_block : (ks : List Contact) (order : List ℕ) (from to j : ℕ) → j < length ks
    → ((m : ℕ) → (m ≡ j → ⊥) → m < length ks → passing_at ks order from to m ≡ false) → fast_passing ks order from to ≡ passing_at ks order from to j
one_block ks order from to j low none =
    let here : 0 + j ≡ j = omega arith in
    one_passes ks order 0 j from to ks low (λ m other high. none m (λ is. other (omega (arith, is))) (omega (arith, high)))
    ∙ (λ i. passing_at ks order from to (here i))

pub to_source : (ks : List Contact) (order : List ℕ) (from to : ℕ) → to < length ks
    → (nat_eq from (length ks + to) || nat_eq from (length ks + length ks + to)) ≡ fast_passing ks order from to
to_source ks order from to low =
    let h = length ks in
    let comes = nat_eq from (h + to) || nat_eq from (h + h + to) in
    let known = one_block ks order from to to low
    (λ m other high. other_block h m (sets_before ks order m from) from to (λ is. other (omega (arith, is))) (λ is. omega (arith, is, low)) (λ is. omega (arith, is, low))) in
    let here : passing_at ks order from to to ≡ comes =
    (λ i. (yes to to refl i && comes) || ((no to (h + to) (λ is. omega (arith, is, low)) i || no to (h + h + to) (λ is. omega (arith, is, low)) i) && (nat_eq from to || sets_before ks order to from)))
    ∙ or_none comes in
    sym (known ∙ here)

pub to_first : (ks : List Contact) (order : List ℕ) (from to j : ℕ) → to ≡ length ks + j → j < length ks
    → (nat_eq from j || sets_before ks order j from) ≡ fast_passing ks order from to
to_first ks order from to j at low =
    let h = length ks in
    let known = one_block ks order from to j low
    (λ m other high. other_block h m (sets_before ks order m from) from to (λ is. omega (arith, is, at, high)) (λ is. other (omega (arith, is, at))) (λ is. omega (arith, is, at, low))) in
    let here : passing_at ks order from to j ≡ (nat_eq from j || sets_before ks order j from) =
    λ i. (no to j (λ is. omega (arith, is, at, low)) i && (nat_eq from (h + j) || nat_eq from (h + h + j)))
    || ((yes to (h + j) at i || nat_eq to (h + h + j)) && (nat_eq from j || sets_before ks order j from)) in
    sym (known ∙ here)

pub to_second : (ks : List Contact) (order : List ℕ) (from to j : ℕ) → to ≡ length ks + length ks + j → j < length ks
    → (nat_eq from j || sets_before ks order j from) ≡ fast_passing ks order from to
to_second ks order from to j at low =
    let h = length ks in
    let known = one_block ks order from to j low
    (λ m other high. other_block h m (sets_before ks order m from) from to (λ is. omega (arith, is, at, high)) (λ is. omega (arith, is, at, high)) (λ is. other (omega (arith, is, at)))) in
    let here : passing_at ks order from to j ≡ (nat_eq from j || sets_before ks order j from) =
    λ i. (no to j (λ is. omega (arith, is, at, low)) i && (nat_eq from (h + j) || nat_eq from (h + h + j)))
    || ((no to (h + j) (λ is. omega (arith, is, at, low)) i || yes to (h + h + j) at i) && (nat_eq from j || sets_before ks order j from)) in
    sym (known ∙ here)

pub to_nowhere : (ks : List Contact) (order : List ℕ) (from to : ℕ) → length ks + (length ks + length ks) ≤ to → false ≡ fast_passing ks order from to
to_nowhere ks order from to over =
    let h = length ks in
    sym (none_passes ks order 0 from to ks
    (λ m low high. other_block h m (sets_before ks order m from) from to (λ is. omega (arith, is, over, high)) (λ is. omega (arith, is, over, high)) (λ is. omega (arith, is, over, high))))
