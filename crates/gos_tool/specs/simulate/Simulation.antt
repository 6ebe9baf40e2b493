-- A simulation: an accepted netlist is run under a pulse file, and its trace is written.
--
-- Read first: PulseFile, Driving and Traced of gos_pulse; Files of gos_outside. A file that the store doesn't hold counts
-- as empty.
use Rattle.std.specs.Prelude.{◌≡◌, ◌≢◌, ◌⊎◌, ℕ, List, length, Option, Some, IfSome}
use Rattle.gos_outside.specs.Files.{Files, bytes_at, with_file, SameBut}
use Rattle.gos_outside.specs.Faults.{LastFault, ReadFault, WriteFault}
use Rattle.gos_lex.specs.Lines.{Word}
use Rattle.gos_netlist.specs.Nets.{Netlist}
use Rattle.gos_netlist.specs.Settling.{Numbers}
use Rattle.gos_pulse.specs.PulseFile.{IsPulseFile, IsRefused}
use Rattle.gos_pulse.specs.Driving.{IsDriven, BreaksAs}
use Rattle.gos_pulse.specs.Traced.{IsTraced}
use Rattle.gos_pulse.specs.TraceText.{trace_text}
use Rattle.gos_pulse.specs.declared.entries.Entry.{Entry}
use Rattle.gos_pulse.specs.declared.trace.Trace.{Trace}
use Rattle.gos_pulse.specs.declared.fault.PulseFault.TheVariants as faults
use Rattle.gos_command.specs.Lines.{fault_line}
use Rattle.gos_command.specs.declared.report.Counts.{Counts}
use Rattle.gos_command.specs.declared.status.Cause.{Cause}
use Rattle.gos_command.specs.declared.status.Cause.TheVariants as causes
use Rattle.gos_command.specs.declared.status.Fault.{Fault}

-- The trace of the netlist's run under the pulse file is written over the files before, and these are its numbers.
pub record LeavesTrace (old new : Option Files) (net : Netlist) (pulses trace : Word) (counts : Counts) : Type 0 where
  pub entries : List Entry
  pub run : Trace
  pub says : IfSome old (λ files. IsPulseFile net (bytes_at files pulses) counts.cycles entries)
  pub traced : IsTraced net counts.cycles entries run
  pub wrote : new ≡ with_file trace (trace_text net run.lines.items counts.cycles) old
  pub count : counts.pulses ≡ length run.lines.items
  pub left : counts.unused ≡ run.unused

-- the text is that of a pulse file under which the netlist runs to its end
abbrev pub RunsUnder : Netlist → List ℕ → Type 0
RunsUnder net text =
    (cycles : ℕ) × (entries : List Entry) × (run : List Numbers) × (unused : ℕ)
    × IsPulseFile net text cycles entries × IsDriven net cycles entries run unused

-- Why a pulse file is refused: its first wrong line, or the first entry that breaks the protocol.
abbrev pub IsPulseCause : Netlist → List ℕ → Cause → Type 0
IsPulseCause net text (causes.Pulse fault) =
    (fault ≢ faults.NoMemory)
    × (IsRefused net text fault
    ⊎ ((cycles : ℕ) × (entries : List Entry) × IsPulseFile net text cycles entries × BreaksAs net cycles entries fault))
IsPulseCause net text cause = ⊥

-- the pulse file is rejected so, with this line
pub record IsPulseFault (files : Files) (net : Netlist) (pulses : Word) (fault : Fault) (line : List ℕ) : Type 0 where
  pub file : fault.file ≡ pulses
  pub cause : IsPulseCause net (bytes_at files pulses) fault.cause
  pub says : line ≡ fault_line (Some net) fault

-- The calls of the store, each with what was written before it: the pulse file is read, and the trace is written where the run
-- came to its end. A file whose write fails may hold anything.
abbrev pub IsSimulationCall : Option Files → Option Files → Netlist → Word → Word → LastFault → Type 0
IsSimulationCall old new net pulses trace fault =
    ((fault ≡ ReadFault pulses) × (new ≡ old))
    ⊎ ((fault ≡ WriteFault trace) × SameBut trace old new × IfSome old (λ files. RunsUnder net (bytes_at files pulses)))
