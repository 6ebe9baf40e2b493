-- A netlist's nets as literals and gates, one cell after another.
--
-- Read first: Layout; Nets of gos_netlist.
use Rattle.std.specs.Prelude.{ℕ, ◌+◌, ◌-◌, ◌^◌, ◌<◌, ◌≤◌, All, sum_by, replicate, List, [], ◌∷◌, ◌++◌, length, map, set, get_or}
use Rattle.std.specs.List.{flat_map}
use Rattle.gos_netlist.specs.Nets.{Function, Cell, Netlist, pins}
use Rattle.gos_netlist.specs.Nets as net
use Rattle.gos_netcheck.specs.CellRules.{NetsExist, WidthsFit}
use Rattle.gos_gates.specs.Bits.{bits_of}
use Rattle.gos_gates.specs.Lowered.{complement, width_of, literals_from, units, registers, input_nets, output_nets, IsLowered}
use Rattle.gos_gates.specs.Gates.{Gates, AreGates}
use Rattle.gos_gates.specs.inner.Adding.{one_bit}
use Rattle.gos_gates.specs.declared.kinds.Kind.{Kind}
use Rattle.gos_gates.specs.declared.kinds.Kind.TheVariants.{And, Or, Gate, Xor, Mux, Add, Sub, Eq, Less}
use Rattle.gos_gates.specs.inner.Layout.{chain_gates, chain_literals, chain_carry}

-- What is laid: how many variables stand before the gates, the gates, and for each net the literals of its bits, none before
-- it is laid.
pub record Laid : Type 0 where
  pub base : ℕ
  pub gates : List (ℕ × ℕ)
  pub nets : List (List ℕ)

-- the literals of a net
abbrev pub literals_of : Laid → ℕ → List ℕ
literals_of s n = get_or s.nets n []

-- the variable of the next gate
abbrev pub next_variable : Laid → ℕ
next_variable s = s.base + length s.gates

-- the literal of a net of one bit
abbrev pub first_literal : List ℕ → ℕ
first_literal ls = get_or ls 0 0

-- with the literals of a net
abbrev pub with_net : Laid → ℕ → List ℕ → Laid
with_net s n ls = record s { nets = set s.nets n ls }

-- with more gates, and the literals of a net
abbrev pub with_gates : Laid → ℕ → List (ℕ × ℕ) → List ℕ → Laid
with_gates s n gs ls = record s { gates = s.gates ++ gs; nets = set s.nets n ls }

-- with a net whose bits are laid one by one, and with one that compares
abbrev pub with_chain : Kind → ℕ → List ℕ → List ℕ → ℕ → Laid → Laid
with_chain k c ms bs n s = with_gates s n (chain_gates k (next_variable s) c ms bs) (chain_literals k (next_variable s) ms bs)

abbrev pub with_comparison : Kind → ℕ → List ℕ → List ℕ → ℕ → Laid → Laid
with_comparison k c ms bs n s = with_gates s n (chain_gates k (next_variable s) c ms bs) (chain_carry k (next_variable s) c ms bs ∷ [])

-- with a net of so many bits that shows a function of others
abbrev pub with_function : ℕ → ℕ → Function → Laid → Laid
with_function n w net.Input s = s
with_function n w (net.Const k) s = with_net s n (map one_bit (bits_of w k))
with_function n w (net.Not a) s = with_net s n (map complement (literals_of s a))
with_function n w (net.And a b) s = with_chain And 0 (literals_of s a) (literals_of s b) n s
with_function n w (net.Or a b) s = with_chain Or 0 (literals_of s a) (literals_of s b) n s
with_function n w (net.Xor a b) s = with_chain Xor 0 (literals_of s a) (literals_of s b) n s
with_function n w (net.Mux x a b) s = with_chain Mux (first_literal (literals_of s x)) (literals_of s a) (literals_of s b) n s
with_function n w (net.Add a b) s = with_chain Add 0 (literals_of s a) (literals_of s b) n s
with_function n w (net.Sub a b) s = with_chain Sub 1 (literals_of s a) (literals_of s b) n s
with_function n w (net.Eq a b) s = with_comparison Eq 1 (literals_of s a) (literals_of s b) n s
with_function n w (net.Less a b) s = with_comparison Less 0 (literals_of s a) (literals_of s b) n s
with_function n w (net.Gate x a) s = with_chain Gate (first_literal (literals_of s x)) (literals_of s a) (literals_of s a) n s
with_function n w (net.Reg a) s = s

-- where there is no cell
abbrev pub no_cell : Cell
no_cell = record { width = 0; gate = net.Input }

abbrev pub cell_at : List Cell → ℕ → Cell
cell_at cells n = get_or cells n no_cell

-- with a cell
abbrev pub with_cell : List Cell → ℕ → Laid → Laid
with_cell cells n s = with_function n (cell_at cells n).width (cell_at cells n).gate s

-- with cells, one after another
abbrev pub with_cells : List Cell → List ℕ → Laid → Laid
with_cells cells [] s = s
with_cells cells (n ∷ ns) s = with_cells cells ns (with_cell cells n s)

-- with a net that comes in or is held: a variable for each bit
abbrev pub with_source : List Cell → ℕ → Laid → Laid
with_source cells n s = record s { base = s.base + width_of cells n; nets = set s.nets n (literals_from s.base (width_of cells n)) }

abbrev pub with_sources : List Cell → List ℕ → Laid → Laid
with_sources cells [] s = s
with_sources cells (n ∷ ns) s = with_sources cells ns (with_source cells n s)

-- the literals of nets, one net behind another
abbrev pub literals_at : Laid → List ℕ → List ℕ
literals_at s ns = flat_map (literals_of s) ns

-- nothing is laid yet
abbrev pub nothing_laid : List Cell → Laid
nothing_laid cells = record { base = 1; gates = []; nets = replicate (length cells) [] }

-- the literals of all nets that a function names
abbrev pub pin_bits : Laid → Function → ℕ
pin_bits s f = sum_by (λ a. length (literals_of s a)) (pins f)

-- no net has more literals than bits
abbrev pub IsNarrow : List Cell → Laid → Type 0
IsNarrow cells s = (m : ℕ) → length (literals_of s m) ≤ width_of cells m

-- the bits that these nets count for
abbrev pub units_at : List Cell → List ℕ → ℕ
units_at cells ns = sum_by (λ n. units cells (cell_at cells n)) ns

-- the nets that registers take over, by the registers' numbers
abbrev pub register_pins : Function → List ℕ
register_pins (net.Reg a) = a ∷ []
register_pins f = []

abbrev pub held_nets : List Cell → List ℕ
held_nets [] = []
held_nets (c ∷ cs) = register_pins c.gate ++ held_nets cs

-- A circuit whose inputs, registers and outputs are these nets, with the nets that registers take over, and whose cells are
-- laid in this order.
abbrev pub circuit_from : List Cell → List ℕ → List ℕ → List ℕ → List ℕ → List ℕ → Gates
circuit_from cells ins regs held outs order =
    let first = with_sources cells ins (nothing_laid cells) in
    let s = with_cells cells order (with_sources cells regs first) in
    record { inputs = first.base - 1; latches = literals_at s held; outputs = literals_at s outs; gates = s.gates }

-- a netlist's circuit
abbrev pub circuit_of : Netlist → List ℕ → Gates
circuit_of net order = circuit_from net.cells (input_nets net) (registers net.cells) (held_nets net.cells) (output_nets net) order

-- what a netlist keeps that can be laid in this order
pub record CanBeLaid (net : Netlist) (order : List ℕ) : Type 0 where
  pub nets : NetsExist net.cells
  pub widths : WidthsFit net.cells
  pub few : length net.cells < 2 ^ 32
  pub inputs : All (λ n. n < length net.cells) (input_nets net)
  pub outputs : All (λ n. n < length net.cells) (output_nets net)
  pub latches : All (λ n. n < length net.cells) (registers net.cells)
  pub held : All (λ n. n < length net.cells) (held_nets net.cells)
  pub ordered : All (λ n. n < length net.cells) order
  pub bits : units_at net.cells order ≤ 2000000
  pub input_bits : sum_by (width_of net.cells) (input_nets net) ≤ 2000000
  pub register_bits : sum_by (width_of net.cells) (registers net.cells) ≤ 2000000

-- laid in this order, the netlist gives its circuit
pub record GivesCircuit (net : Netlist) (order : List ℕ) : Type 0 where
  pub can : CanBeLaid net order
  pub lowered : IsLowered net (circuit_of net order)
  pub circuit : AreGates (circuit_of net order)
