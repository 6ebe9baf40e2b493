-- Settling, and the run of a netlist from reset.
--
-- Read first: Nets. A settling is what the nets show in one cycle: it meets all equations at once, with no order of
-- evaluation. Says nothing of whether there is one, nor of what the inputs may be: that is Protocol.
use Rattle.std.specs.Prelude.{◌≡◌, ℕ, ◌+◌, ◌-◌, ◌^◌, ◌%◌, List, [], ◌∷◌, length, map, replicate, get_or, Some, slice_get, bit_and, bit_or, bit_xor, nat_eq, nat_lt, if◌then◌else◌}
use Rattle.gos_netlist.specs.Nets.{Function, Input, Const, Not, And, Or, Xor, Mux, Add, Sub, Eq, Less, Gate, Reg, Cell}

-- What a cell of w bits shows, from its register r, its input i and the values v of the nets.
abbrev pub shown : ℕ → Function → ℕ → ℕ → (ℕ → ℕ) → ℕ
shown w Input r i v = i
shown w (Const k) r i v = k
shown w (Not a) r i v = 2 ^ w - 1 - v a
shown w (And a b) r i v = bit_and (v a) (v b)
shown w (Or a b) r i v = bit_or (v a) (v b)
shown w (Xor a b) r i v = bit_xor (v a) (v b)
shown w (Mux s a b) r i v = if nat_eq (v s) 1 then v a else v b
shown w (Add a b) r i v = (v a + v b) % 2 ^ w
shown w (Sub a b) r i v = (v a + 2 ^ w - v b) % 2 ^ w
shown w (Eq a b) r i v = if nat_eq (v a) (v b) then 1 else 0
shown w (Less a b) r i v = if nat_lt (v a) (v b) then 1 else 0
shown w (Gate s a) r i v = if nat_eq (v s) 1 then v a else 0
shown w (Reg a) r i v = r

-- a number for each net; a net without one has 0
abbrev pub Numbers : Type 0
Numbers = List ℕ

-- the number of a net
abbrev pub at : Numbers → ℕ → ℕ
at xs n = get_or xs n 0

-- A settling for these registers and inputs: v has a value for each net, and meets each cell's equation.
abbrev pub Settling : List Cell → Numbers → Numbers → Numbers → Type 0
Settling cells regs ins v =
    (length v ≡ length cells)
    × ((n : ℕ) (c : Cell) → slice_get cells n ≡ Some c → at v n ≡ shown c.width c.gate (at regs n) (at ins n) (at v))

-- the next register of a cell is the value of its pin; only registers have one
abbrev pub next_of : Function → Numbers → ℕ
next_of (Reg a) v = at v a
next_of f v = 0

-- the registers after a cycle with these values
abbrev pub next_registers : List Cell → Numbers → Numbers
next_registers cells v = map (λ c. next_of c.gate v) cells

-- the settlings of the cycles with these inputs, from these registers on
abbrev pub RunFrom : List Cell → Numbers → List Numbers → List Numbers → Type 0
RunFrom cells regs [] vs = vs ≡ []
RunFrom cells regs (i ∷ is) [] = ⊥
RunFrom cells regs (i ∷ is) (v ∷ vs) = Settling cells regs i v × RunFrom cells (next_registers cells v) is vs

-- the run from reset, where all registers are 0
abbrev pub IsRun : List Cell → List Numbers → List Numbers → Type 0
IsRun cells ins vs = RunFrom cells (replicate (length cells) 0) ins vs
