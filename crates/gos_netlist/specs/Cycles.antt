-- Combinational cycles of a netlist.
--
-- Read first: Nets. A register cuts a cycle, since it shows what its pin was in the cycle before.
use Rattle.std.specs.Prelude.{◌≡◌, ℕ, List, [], ◌∷◌, Some, slice_get, Contains}
use Rattle.gos_netlist.specs.Nets.{Function, Reg, Cell, pins}

-- a register
abbrev pub IsRegister : Function → Type 0
IsRegister g = (a : ℕ) × (g ≡ Reg a)

-- net a is a pin of cell b, and is no register
abbrev pub Feeds : List Cell → ℕ → ℕ → Type 0
Feeds cells a b =
    (c : Cell) × (e : Cell) × (slice_get cells a ≡ Some c) × (slice_get cells b ≡ Some e)
    × (IsRegister c.gate → ⊥) × Contains (pins e.gate) a

-- each net feeds the next one, and the last one feeds z
abbrev pub Chain : List Cell → List ℕ → ℕ → Type 0
Chain cells [] z = Unit {0}
Chain cells (a ∷ []) z = Feeds cells a z
Chain cells (a ∷ b ∷ ns) z = Feeds cells a b × Chain cells (b ∷ ns) z

-- no net stands twice
abbrev pub Distinct : List ℕ → Type 0
Distinct [] = Unit {0}
Distinct (a ∷ ns) = (Contains ns a → ⊥) × Distinct ns

-- A combinational cycle: different nets, at least one, each a pin of the next one's cell and the last of the first one's.
abbrev pub CombinationalCycle : List Cell → List ℕ → Type 0
CombinationalCycle cells [] = ⊥
CombinationalCycle cells (a ∷ ns) = Distinct (a ∷ ns) × Chain cells (a ∷ ns) a

-- the cells have a combinational cycle
abbrev pub HasCycle : List Cell → Type 0
HasCycle cells = (nets : List ℕ) × CombinationalCycle cells nets
