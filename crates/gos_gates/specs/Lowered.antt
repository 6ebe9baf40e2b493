-- What it means that gates are those of a netlist.
--
-- Read first: Gates, Bits; Settling of gos_netlist; Levels and PortRules of gos_netcheck. The inputs are the bits of the nets
-- at which the events of ports come in, and the outputs those at which they go out, port by port and the least bit first.
-- Each bit of a register is a latch. Which gates show the bits of the other cells is left open, but for those of And, Or
-- and Gate.
use Rattle.std.specs.Prelude.{◌≡◌, ℕ, zero, suc, ◌+◌, ◌*◌, ◌^◌, ◌<◌, ◌≤◌, ◌⊎◌, Bool, true, false, not, filter, List, [], ◌∷◌, ◌++◌, length, map, get_or, replicate, if◌then◌else◌, Contains, Some, slice_get, sum_by, max, min, ◌%◌, ◌-◌, nat_eq}
use Rattle.std.specs.List.{flat_map, AllByRecursion}
use Rattle.gos_netlist.specs.Nets.{Function, Input, And, Or, Xor, Mux, Add, Sub, Eq, Less, Gate, Reg, Cell, pins, NetPort, Netlist}
use Rattle.gos_netlist.specs.Settling.{Numbers, at, IsRun, next_registers}
use Rattle.gos_netcheck.specs.CellRules.{widths_of, width_at}
use Rattle.gos_netcheck.specs.Levels.{AreLevels}
use Rattle.gos_gates.specs.Gates.{Bits, Gates, outputs_of, latches_of, sources}
use Rattle.gos_gates.specs.Bits.{bits_of}
use Rattle.gos_gates.specs.declared.fault.GateFault.{GateFault}
use Rattle.gos_gates.specs.declared.fault.GateFault.TheVariants as faults

-- the bits of a net
abbrev pub width_of : List Cell → ℕ → ℕ
width_of cells n = width_at (widths_of cells) n

-- the bits of a net where nets have these numbers
abbrev pub net_bits : List Cell → ℕ → Numbers → Bits
net_bits cells n v = bits_of (width_of cells n) (at v n)

-- those of these nets, net by net
abbrev pub bits_at : List Cell → List ℕ → Numbers → Bits
bits_at cells ns v = flat_map (λ n. net_bits cells n v) ns

-- what a net's cell shows; nothing where there is no such net
abbrev pub function_at : List Cell → ℕ → Function
function_at cells n = (get_or cells n (record { width = 0; gate = Input })).gate

abbrev pub is_input : Function → Bool
is_input Input = true
is_input f = false

-- The nets of all ports, port by port; those of them that come in, which are Input cells, and the others, which go out.
abbrev pub port_nets : List NetPort → List ℕ
port_nets = flat_map (λ p. p.nets)

abbrev pub input_nets : Netlist → List ℕ
input_nets net = filter (λ n. is_input (function_at net.cells n)) (port_nets net.ports)

abbrev pub output_nets : Netlist → List ℕ
output_nets net = filter (λ n. not (is_input (function_at net.cells n))) (port_nets net.ports)

abbrev pub is_register : Function → Bool
is_register (Reg a) = true
is_register f = false

-- the registers among cells, of which the first has number n
abbrev pub registers_from : ℕ → List Cell → List ℕ
registers_from n [] = []
registers_from n (c ∷ cs) = (if is_register c.gate then n ∷ [] else []) ++ registers_from (suc n) cs

abbrev pub registers : List Cell → List ℕ
registers = registers_from 0

-- the bits of the inputs, of the outputs and of the registers of a cycle
abbrev pub input_bits : Netlist → Numbers → Bits
input_bits net ins = bits_at net.cells (input_nets net) ins

abbrev pub output_bits : Netlist → Numbers → Bits
output_bits net v = bits_at net.cells (output_nets net) v

abbrev pub register_bits : List Cell → Numbers → Bits
register_bits cells regs = bits_at cells (registers cells) regs

-- what the registers hold in each cycle with these values, from these on
abbrev pub registers_in : List Cell → Numbers → List Numbers → List Numbers
registers_in cells regs [] = []
registers_in cells regs (v ∷ vs) = regs ∷ registers_in cells (next_registers cells v) vs

-- each input has at most the bits of its cell
abbrev pub AreInputs : List Cell → Numbers → Type 0
AreInputs cells ins = (n : ℕ) (c : Cell) → slice_get cells n ≡ Some c → c.gate ≡ Input → at ins n < 2 ^ c.width

-- In every cycle of a run under these inputs the outputs are those of the netlist, and the latches hold what its registers do.
pub record RunsAlike (net : Netlist) (a : Gates) (ins vs : List Numbers) : Type 0 where
  pub outputs : outputs_of a (map (input_bits net) ins) ≡ map (output_bits net) vs
  pub latches : latches_of a (map (input_bits net) ins) ≡ map (register_bits net.cells) (registers_in net.cells (replicate (length net.cells) 0) vs)

-- the bits that a cell counts for: its own, and those of its pins
abbrev pub units : List Cell → Cell → ℕ
units cells c = c.width + sum_by (width_of cells) (pins c.gate)

-- those of all cells
abbrev pub bits_in : List Cell → ℕ
bits_in cells = sum_by (units cells) cells

-- the literal of the other value of the same variable
abbrev pub complement : ℕ → ℕ
complement l = if nat_eq (l % 2) 1 then l - 1 else l + 1

-- a gate over two literals, the greater one first
abbrev pub gate_of : ℕ → ℕ → ℕ × ℕ
gate_of a b = (max a b, min a b)

-- the literals of so many variables, from v on
abbrev pub literals_from : ℕ → ℕ → List ℕ
literals_from v zero = []
literals_from v (suc n) = 2 * v ∷ literals_from (suc v) n

-- gates over literals and others, each with the one at its place
abbrev pub gates_over : List ℕ → List ℕ → List (ℕ × ℕ)
gates_over [] bs = []
gates_over (a ∷ ls) [] = []
gates_over (a ∷ ls) (b ∷ bs) = gate_of a b ∷ gates_over ls bs

-- The gates of a cell whose first one has variable v, and its literals. Those of the nets that it reads are given. Each bit of
-- And, Or and Gate has one gate of its own, and that of an Or is the complement of a gate over complements.
abbrev pub HasGates : (ℕ → List ℕ) → ℕ → Function → List (ℕ × ℕ) → List ℕ → Type 0
HasGates of v (And a b) gs ls = (gs ≡ gates_over (of a) (of b)) × (ls ≡ literals_from v (length gs))
HasGates of v (Or a b) gs ls = (gs ≡ gates_over (map complement (of a)) (map complement (of b))) × (ls ≡ map complement (literals_from v (length gs)))
HasGates of v (Gate s a) gs ls = (gs ≡ map (gate_of (get_or (of s) 0 0)) (of a)) × (ls ≡ literals_from v (length gs))
HasGates of v (Xor a b) gs ls = Unit {0}
HasGates of v (Mux s a b) gs ls = Unit {0}
HasGates of v (Add a b) gs ls = Unit {0}
HasGates of v (Sub a b) gs ls = Unit {0}
HasGates of v (Eq a b) gs ls = Unit {0}
HasGates of v (Less a b) gs ls = Unit {0}
HasGates of v f gs ls = gs ≡ []

-- The gates of a net, of which the first has variable v: those of its cell, and at most 8 for each bit that it counts for.
pub record IsBlock (cells : List Cell) (of : ℕ → List ℕ) (v n : ℕ) (gs : List (ℕ × ℕ)) : Type 0 where
  pub cell : Cell
  pub is : slice_get cells n ≡ Some cell
  pub gates : HasGates of v cell.gate gs (of n)
  pub few : length gs ≤ 8 * units cells cell

-- the gates of nets, one net behind another
abbrev pub AreBlocks : List Cell → (ℕ → List ℕ) → ℕ → List ℕ → List (ℕ × ℕ) → Type 0
AreBlocks cells of v [] gs = gs ≡ []
AreBlocks cells of v (n ∷ ns) gs =
    (first : List (ℕ × ℕ)) × (rest : List (ℕ × ℕ)) × (gs ≡ first ++ rest) × IsBlock cells of v n first × AreBlocks cells of (v + length first) ns rest

-- a net stands before another one: by its level, and then by its number
abbrev pub StandsBefore : Numbers → ℕ → ℕ → Type 0
StandsBefore levels a b = (at levels a < at levels b) ⊎ ((at levels a ≡ at levels b) × (a < b))

-- all nets, by level and then by number
pub record IsByLevel (levels : Numbers) (order : List ℕ) : Type 0 where
  pub all : (n : ℕ) → n < length levels → Contains order n
  pub nets : (i n : ℕ) → slice_get order i ≡ Some n → n < length levels
  pub rising : (i j a b : ℕ) → i < j → slice_get order i ≡ Some a → slice_get order j ≡ Some b → StandsBefore levels a b

-- These literals, as outputs, show the number of the net in every cycle.
abbrev pub ShowNet : Netlist → Gates → ℕ → List ℕ → Type 0
ShowNet net a n ls =
    (ins vs : List Numbers) → AllByRecursion (AreInputs net.cells) ins → IsRun net.cells ins vs
    → outputs_of (record a { outputs = ls }) (map (input_bits net) ins) ≡ map (net_bits net.cells n) vs

-- Each net has literals that show it, one for each bit, and the gates of its cell stand in their place.
pub record StandsInOrder (net : Netlist) (a : Gates) : Type 0 where
  pub levels : Numbers
  pub leveled : AreLevels net.cells levels
  pub order : List ℕ
  pub ordered : IsByLevel levels order
  pub literals : List (List ℕ)
  pub wide : (n : ℕ) → n < length net.cells → length (get_or literals n []) ≡ width_of net.cells n
  pub shows : (n : ℕ) → n < length net.cells → ShowNet net a n (get_or literals n [])
  pub blocks : AreBlocks net.cells (λ n. get_or literals n []) (suc (sources a)) order a.gates

-- The gates are those of the netlist.
pub record IsLowered (net : Netlist) (a : Gates) : Type 0 where
  pub inputs : a.inputs ≡ sum_by (width_of net.cells) (input_nets net)
  pub latches : length a.latches ≡ sum_by (width_of net.cells) (registers net.cells)
  pub outputs : length a.outputs ≡ sum_by (width_of net.cells) (output_nets net)
  pub runs : (ins vs : List Numbers) → AllByRecursion (AreInputs net.cells) ins → IsRun net.cells ins vs → RunsAlike net a ins vs
  pub order : StandsInOrder net a
  pub few : length a.gates ≤ 8 * bits_in net.cells

-- why a netlist of these cells is not lowered
abbrev pub IsGateFault : List Cell → GateFault → Type 0
IsGateFault cells (faults.TooLarge bits) = (2000000 < bits) × (bits ≡ bits_in cells)
IsGateFault cells faults.NoMemory = Unit {0}
