-- Cells are placed one block after another.
use Rattle.std.specs.Prelude.{None, Some}
use Rattle.std.proofs.Common.{◌≡◌, ℕ, ◌+◌, ◌-◌, ◌<◌, ◌≤◌, List, ◌++◌, length, sym, ap, subst, arith, ◌∙◌, take, slice_get, append_assoc}
use Rattle.std.proofs.lemmas.List.{length-append}
use Rattle.gos_netlist.specs.Nets.{Cell}
use Rattle.gos_pool.specs.Pools.{Pool, with_closed}
use Rattle.gos_expand.specs.Blocks.{blocks}
use Rattle.gos_expand.specs.inner.Tokens.{Places}
use Rattle.gos_expand.proofs.BlockLemmas.{blocks_more, blocks_within}

-- first these cells, and then those
pub places_then : (a b c : Pool) (xs ys : List Cell) (m n : ℕ) → Places a b xs m → Places b c ys n → Places a c (xs ++ ys) (m + n)
places_then a b c xs ys m n first second =
    record {
      cells = second.cells ∙ (ap (λ (cs : List Cell). cs ++ ys) first.cells ∙ append_assoc a.cells xs ys);
      spare = (let all = length-append xs ys in let one = first.spare in let two = second.spare in omega (arith, all, one, two));
      begun = second.begun ∙ first.begun;
    }

-- one block more
pub block_placed : {A : Type 0} (f : ℕ → A → List Cell) (i m n : ℕ) (xs : List A) (x : A) (a b c : Pool) → slice_get xs i ≡ Some x
    → Places a b (blocks f 0 (take i xs)) m → Places b c (f i x) n → Places a c (blocks f 0 (take (i + 1) xs)) (m + n)
block_placed f i m n xs x a b c there first second =
    let none : 0 + i ≡ i = omega arith in
    subst (λ (cs : List Cell). Places a c cs (m + n)) (sym (blocks_more f 0 i xs x there ∙ ap (λ (k : ℕ). blocks f 0 (take i xs) ++ f k x) none))
    (places_then a b c (blocks f 0 (take i xs)) (f i x) m n first second)

-- there is room for it
pub block_fits : {A : Type 0} (f : ℕ → A → List Cell) (i m n : ℕ) (xs : List A) (x : A) (a b : Pool) → slice_get xs i ≡ Some x
    → Places a b (blocks f 0 (take i xs)) m → length (blocks f 0 xs) + n ≤ a.spare → length (f i x) + n ≤ b.spare + m
block_fits f i m n xs x a b there first room =
    let none : 0 + i ≡ i = omega arith in
    let within : length (blocks f 0 (take i xs)) + length (f i x) ≤ length (blocks f 0 xs) =
    subst (λ (k : ℕ). length (blocks f 0 (take i xs)) + length (f k x) ≤ length (blocks f 0 xs)) none (blocks_within f 0 i xs x there) in
    let spare = first.spare in
    omega (arith, within, spare, room)

-- a region was begun, filled and closed
pub region_placed : (a b c d : Pool) (start first : ℕ) (xs : List Cell) → b ≡ record a { begun = Some start } → Places b c xs 0 → d ≡ with_closed c first → 0 < c.spare
    → a.begun ≡ None → Places a d xs 1
region_placed a b c d start first xs begins placed closed some none =
    let begun_spare : b.spare ≡ a.spare = ap (λ (p : Pool). p.spare) begins in
    let closed_spare : d.spare ≡ c.spare - 1 = ap (λ (p : Pool). p.spare) closed in
    let spare = placed.spare in
    record {
      cells = ap (λ (p : Pool). p.cells) closed ∙ (placed.cells ∙ ap (λ (p : Pool). p.cells ++ xs) begins);
      spare = omega (arith, begun_spare, closed_spare, spare, some);
      begun = ap (λ (p : Pool). p.begun) closed ∙ sym none;
    }
