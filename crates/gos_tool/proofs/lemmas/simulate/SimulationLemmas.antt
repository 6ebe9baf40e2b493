-- From what the parts of a simulation give to what the whole gives.
use Rattle.std.proofs.Common.{◌≡◌, inr, ◌∙◌, ℕ, List, length, Option, Some, None, ap, sym, subst, refl}
use Rattle.std.specs.Prelude.{IfSome}
use Rattle.gos_outside.specs.Files.{Files, bytes_at, with_file, SameBut}
use Rattle.gos_lex.specs.Lines.{Word}
use Rattle.gos_netlist.specs.Nets.{Netlist}
use Rattle.gos_pulse.specs.PulseFile.{IsPulseFile}
use Rattle.gos_pulse.specs.Driving.{BreaksAs}
use Rattle.gos_pulse.specs.Traced.{IsTraced}
use Rattle.gos_pulse.specs.TraceText.{trace_text}
use Rattle.gos_pulse.specs.declared.entries.Entry.{Entry}
use Rattle.gos_pulse.specs.declared.trace.Trace.{Trace}
use Rattle.gos_pulse.specs.declared.fault.PulseFault.{PulseFault}
use Rattle.gos_command.specs.Ends.{IsRealCause}
use Rattle.gos_command.specs.Lines.{fault_line}
use Rattle.gos_command.specs.declared.report.Counts.{Counts}
use Rattle.gos_command.specs.declared.status.Cause.{Cause}
use Rattle.gos_command.specs.declared.status.Cause.TheVariants.{Pulse}
use Rattle.gos_command.specs.declared.status.Fault.{Fault}
use Rattle.gos_command.proofs.EndLemmas.{of_some}
use Rattle.gos_tool.specs.simulate.Simulation.{LeavesTrace, RunsUnder, IsPulseCause, IsPulseFault}

-- the trace of a run is written
pub leaves_trace : (old new : Option Files) (net : Netlist) (pulses trace : Word) (entries : List Entry) (run : Trace) (cycles : ℕ) (counts : Counts)
    → IfSome old (λ files. IsPulseFile net (bytes_at files pulses) cycles entries) → IsTraced net cycles entries run
    → new ≡ with_file trace (trace_text net run.lines.items run.cycles) old
    → counts ≡ record { cycles = run.cycles; pulses = length run.lines.items; unused = run.unused }
    → LeavesTrace old new net pulses trace counts
leaves_trace old new net pulses trace entries run cycles counts says traced wrote are =
    let same : counts.cycles ≡ cycles = ap (λ (c : Counts). c.cycles) are ∙ traced.count in
    let kept : run.cycles ≡ counts.cycles = sym (ap (λ (c : Counts). c.cycles) are) in
    record {
      entries = entries;
      run = run;
      says = subst (λ (n : ℕ). IfSome old (λ files. IsPulseFile net (bytes_at files pulses) n entries)) (sym same) says;
      traced = subst (λ (n : ℕ). IsTraced net n entries run) (sym same) traced;
      wrote = wrote ∙ ap (λ (n : ℕ). with_file trace (trace_text net run.lines.items n) old) kept;
      count = ap (λ (c : Counts). c.pulses) are;
      left = ap (λ (c : Counts). c.unused) are;
    }

-- a pulse file is rejected, for its text or for its run
pub pulse_fault : (files : Files) (net : Netlist) (pulses : Word) (cause : Cause) (fault : Fault) (line : List ℕ)
    → IsPulseCause net (bytes_at files pulses) cause → fault ≡ record { file = pulses; cause = cause } → line ≡ fault_line (Some net) fault
    → IsPulseFault files net pulses fault line
pulse_fault files net pulses cause fault line why is says =
    record {
      file = ap (λ (f : Fault). f.file) is;
      cause = subst (λ (c : Cause). IsPulseCause net (bytes_at files pulses) c) (sym (ap (λ (f : Fault). f.cause) is)) why;
      says = says;
    }

-- a run that an entry breaks
pub broken : (told : Option Files) (net : Netlist) (pulses : Word) (cycles : ℕ) (entries : List Entry) (why : PulseFault) (fault : Fault) (line : List ℕ)
    → BreaksAs net cycles entries why → IsRealCause (Pulse why) → fault ≡ record { file = pulses; cause = Pulse why } → line ≡ fault_line (Some net) fault
    → IfSome told (λ files. IsPulseFile net (bytes_at files pulses) cycles entries → IsPulseFault files net pulses fault line)
broken told net pulses cycles entries why fault line breaks real is says =
    of_some (λ files. Unit {0}) (λ files. IsPulseFile net (bytes_at files pulses) cycles entries → IsPulseFault files net pulses fault line) told
    (λ files _ read. pulse_fault files net pulses (Pulse why) fault line (real, inr (cycles, entries, read, breaks)) is says) (always told)
  where
    always : (told : Option Files) → IfSome told (λ files. Unit {0})
    always None = tt
    always (Some files) = tt

-- where the files are as they were, all but one are
pub unwritten : (name : Word) (told : Option Files) → SameBut name told told
unwritten name None = tt
unwritten name (Some files) = λ other _. refl

-- a run that came to its end is one under its pulse file
pub ran : (told : Option Files) (net : Netlist) (pulses : Word) (cycles : ℕ) (entries : List Entry) (run : Trace)
    → IsTraced net cycles entries run
    → IfSome told (λ files. IsPulseFile net (bytes_at files pulses) cycles entries → RunsUnder net (bytes_at files pulses))
ran None net pulses cycles entries run traced = tt
ran (Some files) net pulses cycles entries run traced = λ read. (cycles, entries, traced.run, run.unused, read, traced.driven)
