-- How much there is of cells, counted one by one.
--
-- Read first: Changes.
use Rattle.std.specs.Prelude.{◌≡◌, ℕ, zero, suc, ◌+◌, ◌*◌, ◌<◌, ◌≤◌, List, [], ◌∷◌, length, map, get_or, drop}
use Rattle.std.proofs.Common.{arith, refl, subst}
use Rattle.gos_netlist.specs.declared.nets.Cell as declared
use Rattle.gos_netlist.specs.Seen.{cell_of, function_of}
use Rattle.gos_netlist.specs.Nets.{Function, Input, Const, Not, And, Or, Xor, Mux, Add, Sub, Eq, Less, Gate, Reg}
use Rattle.gos_tidy.specs.inner.Changes.{weight, size}

weight_few : (g : Function) → weight g ≤ 2
weight_few Input = omega arith
weight_few (Const k) = omega arith
weight_few (Not a) = omega arith
weight_few (And a b) = omega arith
weight_few (Or a b) = omega arith
weight_few (Xor a b) = omega arith
weight_few (Mux s a b) = omega arith
weight_few (Add a b) = omega arith
weight_few (Sub a b) = omega arith
weight_few (Eq a b) = omega arith
weight_few (Less a b) = omega arith
weight_few (Gate s a) = omega arith
weight_few (Reg a) = omega arith

-- what is left from a cell on counts this cell and what is left behind it
drop_next : (cells : List declared.Cell) (n : ℕ) (d : declared.Cell) → n < length cells
    → size (map cell_of (drop n cells)) ≡ weight (function_of (get_or cells n d).gate) + size (map cell_of (drop (suc n) cells))
drop_next [] n d low = absurd (omega (arith, low))
drop_next (c ∷ cells) zero d low = refl
drop_next (c ∷ cells) (suc n) d low = drop_next cells n d (omega (arith, low))

-- one more cell is counted
pub size_step : (cells : List declared.Cell) (n : ℕ) (d : declared.Cell) (so_far w : ℕ) → n < length cells
    → so_far + size (map cell_of (drop n cells)) ≡ size (map cell_of cells) → w ≡ weight (function_of (get_or cells n d).gate)
    → (so_far + w) + size (map cell_of (drop (n + 1) cells)) ≡ size (map cell_of cells)
size_step cells n d so_far w low sum is =
    let after : suc n ≡ n + 1 = omega arith in
    let more = drop_next cells n d low in
    subst (λ (m : ℕ). (so_far + w) + size (map cell_of (drop m cells)) ≡ size (map cell_of cells)) after (omega (arith, sum, is, more))

pub few_step : (cells : List declared.Cell) (n : ℕ) (d : declared.Cell) (so_far w : ℕ) → so_far ≤ 2 * n → w ≡ weight (function_of (get_or cells n d).gate)
    → so_far + w ≤ 2 * (n + 1)
few_step cells n d so_far w few is =
    let low = weight_few (function_of (get_or cells n d).gate) in
    omega (arith, few, is, low)
