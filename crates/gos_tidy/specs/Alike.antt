-- Netlists that nobody outside can tell apart, and what it means that one is another one made tidy.
--
-- Read first: Ends, Reduced, Tidy; PortRules and Accepted of gos_netcheck; RunProtocol and Pace of gos_pace.
use Rattle.std.specs.Prelude.{◌≡◌, ◌⊎◌, ℕ, ◌<◌, ◌≤◌, List, Some, slice_get, length, map}
use Rattle.gos_types.specs.Types.{Type'}
use Rattle.gos_model.specs.Moves.{Program}
use Rattle.gos_netlist.specs.Nets.{Const, Cell, Side, NetPort, Netlist}
use Rattle.gos_netlist.specs.Settling.{Numbers, at, IsRun}
use Rattle.gos_netcheck.specs.Accepted.{IsAccepted}
use Rattle.gos_netcheck.specs.PortRules.{all_inputs}
use Rattle.gos_pace.specs.RunProtocol.{InputsInRange}
use Rattle.gos_pace.specs.Pace.{KeepsPaceAlways}
use Rattle.gos_tidy.specs.Ends.{all_outputs}
use Rattle.gos_tidy.specs.Mapped.{renamed}
use Rattle.gos_tidy.specs.Reduced.{Reduces}
use Rattle.gos_tidy.specs.Tidy.{IsTidy}

-- what is told of a port outside: its name, side and type
abbrev pub face : NetPort → List ℕ × Side × Type'
face p = (p.name, p.side, p.ty)

-- the same ports in the same order; their nets may have other numbers
abbrev pub SamePorts : List NetPort → List NetPort → Type 0
SamePorts ps qs = map face ps ≡ map face qs

-- what these nets have in each of the cycles
abbrev pub numbers_at : List ℕ → List Numbers → List (List ℕ)
numbers_at nets vs = map (λ v. map (at v) nets) vs

-- the inputs of two netlists have the same numbers at their ports, in each cycle
abbrev pub SameInputs : Netlist → Netlist → List Numbers → List Numbers → Type 0
SameInputs net other ins others = numbers_at (all_inputs net.ports) ins ≡ numbers_at (all_inputs other.ports) others

-- and their outputs
abbrev pub SameOutputs : Netlist → Netlist → List Numbers → List Numbers → Type 0
SameOutputs net other vs others = numbers_at (all_outputs net.ports) vs ≡ numbers_at (all_outputs other.ports) others

-- With the same inputs they have the same outputs, and the second one keeps pace with each program with which the first one does.
pub record IsAlike (net other : Netlist) : Type 0 where
  pub ports : SamePorts net.ports other.ports
  pub inputs : (ins : List Numbers) → InputsInRange net ins → (others : List Numbers) × InputsInRange other others × SameInputs net other ins others
  pub outputs : (ins vs others ws : List Numbers) → InputsInRange net ins → SameInputs net other ins others
      → IsRun net.cells ins vs → IsRun other.cells others ws → SameOutputs net other vs ws
  pub pace : (weight : ℕ) (p : Program) → KeepsPaceAlways weight p net → KeepsPaceAlways weight p other

-- the second cell is what the first one became: of its width and its function, whatever nets that names, or a constant
abbrev pub Became : Cell → Cell → Type 0
Became c e = (e.width ≡ c.width) × ((renamed (λ _. 0) e.gate ≡ renamed (λ _. 0) c.gate) ⊎ ((k : ℕ) × (e.gate ≡ Const k)))

-- the others are what cells at these places became, in their order
pub record KeepsOrder (cells others : List Cell) (places : List ℕ) : Type 0 where
  pub each : length places ≡ length others
  pub rises : (i j m n : ℕ) → i < j → slice_get places i ≡ Some m → slice_get places j ≡ Some n → m < n
  pub became : (i m : ℕ) (e : Cell) → slice_get places i ≡ Some m → slice_get others i ≡ Some e → (c : Cell) × (slice_get cells m ≡ Some c) × Became c e

-- the second netlist is the first one, made tidy
pub record IsTidied (net other : Netlist) : Type 0 where
  pub alike : IsAlike net other
  pub accepted : IsAccepted other
  pub fewer : length other.cells ≤ length net.cells
  pub tidy : IsTidy other.cells (all_outputs other.ports)
  pub order : (places : List ℕ) × KeepsOrder net.cells other.cells places
  pub reduced : Reduces net other
