-- The program that a simulator runs in each cycle: steps and latches.
--
-- Read first: Nets and Cycles of gos_netlist. A step is a cell that is neither an input nor a register, and a latch is a
-- register with its pin. No step writes a net that it or an earlier one has read.
use Rattle.std.specs.Prelude.{◌≡◌, ◌≢◌, ℕ, ◌<◌, ◌≤◌, ◌^◌, Bool, true, false, IsFalse, if◌then◌else◌, List, [], ◌∷◌, ◌++◌, All, Contains, Some, get_or, nat_le, slice_get}
use Rattle.std.specs.List.{list_all}
use Rattle.gos_netlist.specs.declared.nets.Cell as declared
use Rattle.gos_netlist.specs.declared.nets.Gate.TheVariants as gates
use Rattle.gos_netlist.specs.Nets.{Function, Input, Const, Reg, Cell, pins}
use Rattle.gos_netlist.specs.Seen.{function_of}
use Rattle.gos_sim.specs.declared.program.Step.{Step}
use Rattle.gos_sim.specs.declared.program.Latch.{Latch}

-- whether the value of a cell in a cycle is known before any other: it is an input or a register
abbrev pub is_source : Function → Bool
is_source Input = true
is_source (Reg a) = true
is_source f = false

-- the cell that a step evaluates
abbrev pub cell_of_step : Step → Cell
cell_of_step s = record { width = s.width; gate = function_of s.gate }

-- the nets that a step reads
abbrev pub reads : Step → List ℕ
reads s = pins (function_of s.gate)

-- a step writes none of these nets
abbrev pub Spares : Step → List ℕ → Type 0
Spares s ns = All (λ a. a ≢ s.net) ns

-- the step is one of these cells, and no source
abbrev pub IsStepOf : List Cell → Step → Type 0
IsStepOf cells s = (slice_get cells s.net ≡ Some (cell_of_step s)) × IsFalse (is_source (function_of s.gate))

-- one of the steps writes this net
abbrev pub HasStep : List Step → ℕ → Type 0
HasStep steps n = (s : Step) × Contains steps s × (s.net ≡ n)

-- a step at place k spares what one at place j, or the same one, read
abbrev pub SparesEarlier : List Step → Type 0
SparesEarlier steps =
    (j k : ℕ) (s t : Step) → slice_get steps j ≡ Some s → slice_get steps k ≡ Some t → j ≤ k → Spares t (reads s)

-- steps of one net are of one cell
abbrev pub HaveOneCell : List Step → Type 0
HaveOneCell steps =
    (j k : ℕ) (s t : Step) → slice_get steps j ≡ Some s → slice_get steps k ≡ Some t → s.net ≡ t.net → cell_of_step s ≡ cell_of_step t

-- each step is a cell that is no source, each such cell is a step, and no step comes too early
pub record IsProgram (cells : List Cell) (steps : List Step) : Type 0 where
  pub sound : All (IsStepOf cells) steps
  pub whole : (n : ℕ) (c : Cell) → slice_get cells n ≡ Some c → IsFalse (is_source c.gate) → HasStep steps n
  pub ordered : SparesEarlier steps

-- the latch is a register among these cells
abbrev pub IsLatchOf : List Cell → Latch → Type 0
IsLatchOf cells l = (w : ℕ) × (slice_get cells l.net ≡ Some (record { width = w; gate = Reg l.pin }))

-- one of the latches is at this net
abbrev pub HasLatch : List Latch → ℕ → Type 0
HasLatch latches n = (l : Latch) × Contains latches l × (l.net ≡ n)

-- each latch is a register, and each register is a latch
pub record AreLatches (cells : List Cell) (latches : List Latch) : Type 0 where
  pub sound : All (IsLatchOf cells) latches
  pub whole : (n a : ℕ) (c : Cell) → slice_get cells n ≡ Some c → c.gate ≡ Reg a → HasLatch latches n

-- a constant has at most so many bits
abbrev pub IsShort : ℕ → Function → Type 0
IsShort bits (Const k) = k < 2 ^ bits
IsShort bits f = Unit {0}

-- a cell has at most so many bits, and so has its constant
pub record HasBits (bits : ℕ) (c : Cell) : Type 0 where
  pub width : c.width ≤ bits
  pub short : IsShort bits c.gate

-- the cell of each step has
abbrev pub IsSized : ℕ → Step → Type 0
IsSized bits s = HasBits bits (cell_of_step s)

abbrev pub HaveBits : ℕ → List Step → Type 0
HaveBits bits steps = All (IsSized bits) steps

-- each cell has at most as many bits as a narrow word
abbrev pub are_narrow : List declared.Cell → Bool
are_narrow cells = list_all (λ c. nat_le c.width 32) cells

-- a step whose nets are below a count
pub record IsStepWithin (count : ℕ) (s : Step) : Type 0 where
  pub net : s.net < count
  pub reads : All (λ a. a < count) (reads s)

-- a latch whose nets are below a count
pub record IsLatchWithin (count : ℕ) (l : Latch) : Type 0 where
  pub net : l.net < count
  pub pin : l.pin < count

-- the steps of a cell: one, or none where it is a source
abbrev pub steps_at : ℕ → declared.Cell → List Step
steps_at n c = if is_source (function_of c.gate) then [] else record { net = n; width = c.width; gate = c.gate } ∷ []

-- where there is no cell
abbrev pub no_cell : declared.Cell
no_cell = record { width = 0; gate = gates.Input }

-- the steps of cells, one after another
abbrev pub steps_named : List declared.Cell → List ℕ → List Step
steps_named cells [] = []
steps_named cells (n ∷ ns) = steps_at n (get_or cells n no_cell) ++ steps_named cells ns

-- the latches of a cell: one, or none where it is no register
abbrev pub latches_at : ℕ → Function → List Latch
latches_at n (Reg a) = record { net = n; pin = a } ∷ []
latches_at n f = []
