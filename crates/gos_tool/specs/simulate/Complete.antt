-- Which netlist files and pulse files are not rejected. Laws of these definitions, for all files.
--
-- Read first: Simulation, Sim.
use Rattle.std.specs.Prelude.{◌≡◌, ℕ, List, []}
use Rattle.gos_outside.specs.Files.{Files, bytes_at}
use Rattle.gos_lex.specs.Lines.{Word}
use Rattle.gos_netlist.specs.Nets.{Netlist}
use Rattle.gos_netcheck.specs.Accepted.{IsAccepted}
use Rattle.gos_pulse.specs.PulseFile.{IsPulseFile}
use Rattle.gos_pulse.specs.Driving.{IsBroken}
use Rattle.gos_pulse.specs.declared.entries.Entry.{Entry}
use Rattle.gos_command.specs.declared.status.Fault.{Fault}
use Rattle.gos_tool.specs.simulate.Simulation.{RunsUnder, IsPulseFault}
use Rattle.gos_tool.specs.netlists.Netlist.{SaysNet}
use Rattle.gos_tool.specs.simulate.Sim.{IsSimFault}

-- the text is that of a pulse file for this netlist, and no entry of it breaks the protocol in the netlist's run
abbrev pub MayRunUnder : Netlist → List ℕ → Type 0
MayRunUnder net text =
    (cycles : ℕ) × (entries : List Entry) × IsPulseFile net text cycles entries
    × ((cycle event : ℕ) → IsBroken net cycles entries cycle event → ⊥)

-- The files are right for `sim`: the netlist file says a netlist that is accepted, and the pulse file is one that it may run under.
pub record AreRightToRun (files : Files) (net pulses : Word) : Type 0 where
  pub circuit : Netlist
  pub says : SaysNet (bytes_at files net) circuit
  pub runs : MayRunUnder circuit (bytes_at files pulses)

-- where an accepted netlist runs to its end under a pulse file, it may
abbrev pub EndedMayRun : Type 0
EndedMayRun = (net : Netlist) (text : List ℕ) → IsAccepted net → RunsUnder net text → MayRunUnder net text

-- a pulse file that an accepted netlist may run under is not rejected
abbrev pub PulsesAreNotRejected : Type 0
PulsesAreNotRejected =
    (files : Files) (net : Netlist) (pulses : Word) (fault : Fault) (line : List ℕ)
    → IsAccepted net → MayRunUnder net (bytes_at files pulses) → IsPulseFault files net pulses fault line → ⊥

-- files that are right for `sim` are not rejected
abbrev pub SimIsNotRejected : Type 0
SimIsNotRejected =
    (files : Files) (net pulses : Word) (fault : Fault) (line : List ℕ) → AreRightToRun files net pulses → IsSimFault files net pulses fault line → ⊥

-- and an empty netlist file is not right
abbrev pub EmptyIsNoNet : Type 0
EmptyIsNoNet = (files : Files) (net pulses : Word) → bytes_at files net ≡ [] → AreRightToRun files net pulses → ⊥
