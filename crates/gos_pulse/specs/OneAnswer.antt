-- The laws of pulse files and of driven runs: each has one answer at most.
--
-- Read first: PulseFile, Driving, Traced. `one_answer` says each of them of an accepted netlist.
use Rattle.std.specs.Prelude.{◌≡◌, ℕ, List}
use Rattle.gos_netlist.specs.Nets.{Netlist}
use Rattle.gos_netlist.specs.Settling.{Numbers}
use Rattle.gos_pulse.specs.Driving.{IsDriven, IsBroken}
use Rattle.gos_pulse.specs.Traced.{IsTraced}
use Rattle.gos_pulse.specs.PulseFile.{IsPulseFile, IsRefused}
use Rattle.gos_pulse.specs.declared.entries.Entry.{Entry}
use Rattle.gos_pulse.specs.declared.fault.PulseFault.{PulseFault}
use Rattle.gos_pulse.specs.declared.trace.Trace.{Trace}

-- a text says one number of cycles and one list of entries at most
abbrev pub IsOneFile : Netlist → List ℕ → Type 0
IsOneFile net text =
    (cycles count : ℕ) (entries others : List Entry)
    → IsPulseFile net text cycles entries → IsPulseFile net text count others → (cycles ≡ count) × (entries ≡ others)

-- a text with cycles and entries is not refused
abbrev pub FilesAreNotRefused : Netlist → List ℕ → Type 0
FilesAreNotRefused net text =
    (cycles : ℕ) (entries : List Entry) (fault : PulseFault)
    → IsPulseFile net text cycles entries → IsRefused net text fault → ⊥

-- a text is refused for one fault at most
abbrev pub HasOneFault : Netlist → List ℕ → Type 0
HasOneFault net text =
    (fault other : PulseFault) → IsRefused net text fault → IsRefused net text other → fault ≡ other

-- a file has one run at most, and one count of entries that are never given
abbrev pub HasOneRun : Netlist → ℕ → List Entry → Type 0
HasOneRun net cycles file =
    (run other : List Numbers) (unused left : ℕ)
    → IsDriven net cycles file run unused → IsDriven net cycles file other left → (run ≡ other) × (unused ≡ left)

-- traces that say the same: how many cycles there were, their pulses, and how many entries were never given
pub record SayTheSame (trace other : Trace) : Type 0 where
  pub cycles : trace.cycles ≡ other.cycles
  pub lines : trace.lines.items ≡ other.lines.items
  pub unused : trace.unused ≡ other.unused

-- all traces of a file say the same
abbrev pub HasOneTrace : Netlist → ℕ → List Entry → Type 0
HasOneTrace net cycles file =
    (trace other : Trace) → IsTraced net cycles file trace → IsTraced net cycles file other → SayTheSame trace other

-- a run that goes to its end by the file is broken in no cycle
abbrev pub DrivenIsNotBroken : Netlist → ℕ → List Entry → Type 0
DrivenIsNotBroken net cycles file =
    (run : List Numbers) (unused cycle event : ℕ)
    → IsDriven net cycles file run unused → IsBroken net cycles file cycle event → ⊥

-- a run is broken in one cycle at most, and there by an entry of one event
abbrev pub BreaksOnce : Netlist → ℕ → List Entry → Type 0
BreaksOnce net cycles file =
    (cycle event other also : ℕ)
    → IsBroken net cycles file cycle event → IsBroken net cycles file other also → (cycle ≡ other) × (event ≡ also)
