-- Of the same netlist and pulse file there is one trace.
use Rattle.std.proofs.Common.{◌≡◌, ◌∙◌, ℕ, List, Option, Some, length, ap, refl, subst, sym}
use Rattle.gos_outside.specs.Files.{Files, bytes_at}
use Rattle.gos_lex.specs.Lines.{Word}
use Rattle.gos_netlist.specs.Nets.{Netlist}
use Rattle.gos_netlist.specs.NetFaults.{IsOneNetlist}
use Rattle.gos_netcheck.specs.Accepted.{IsAccepted}
use Rattle.gos_pulse.specs.OneAnswer.{HasOneTrace, IsOneFile, SayTheSame}
use Rattle.gos_pulse.specs.PulseFile.{IsPulseFile}
use Rattle.gos_pulse.specs.Traced.{IsTraced}
use Rattle.gos_pulse.specs.TraceText.{trace_text}
use Rattle.gos_pulse.specs.declared.entries.Entry.{Entry}
use Rattle.gos_command.specs.declared.report.Counts.{Counts}
use Rattle.gos_command.specs.declared.report.Report.TheVariants as reports
use Rattle.gos_tool.specs.Calls.{sim_calls, simulation_calls}
use Rattle.gos_tool.specs.Agreement.{WriteTheSame}
use Rattle.gos_tool.specs.netlists.Netlist.{SaysNet}
use Rattle.gos_tool.specs.simulate.Simulation.{LeavesTrace}
use Rattle.gos_tool.specs.simulate.Repeated.{SimMakesOne, TraceIsOne}
use Rattle.gos_tool.proofs.lemmas.AgreeLemmas.{same_text}
use Rattle.gos_tool.proofs.lemmas.netlists.CompleteLemmas.{same_net}

pub trace_is_one : ((net : Netlist) (text : List ℕ) → IsAccepted net → IsOneFile net text)
    → ((net : Netlist) (cycles : ℕ) (file : List Entry) → IsAccepted net → HasOneTrace net cycles file) → TraceIsOne
trace_is_one one_file has_one files others new other net pulses trace counts told accepted agree one two = (
  same_text (simulation_calls pulses trace) (Some files) (Some others) new other trace (trace_text net one.run.lines.items counts.cycles) (trace_text net two.run.lines.items told.cycles)
      refl (λ i. trace_text net (same.lines i) (file.0 i)) one.wrote two.wrote,
  λ i. record { cycles = file.0 i; pulses = lengths i; unused = left i },
)
  where
    file : (counts.cycles ≡ told.cycles) × (one.entries ≡ two.entries)
    file =
        one_file net (bytes_at files pulses) accepted counts.cycles told.cycles one.entries two.entries one.says
        (subst (λ (text : List ℕ). IsPulseFile net text told.cycles two.entries) (sym agree.0) two.says)

    traced : IsTraced net told.cycles two.entries one.run
    traced =
        subst (λ (es : List Entry). IsTraced net told.cycles es one.run) file.1
        (subst (λ (n : ℕ). IsTraced net n one.entries one.run) file.0 one.traced)

    same : SayTheSame one.run two.run
    same = has_one net told.cycles two.entries accepted one.run two.run traced two.traced

    lengths : counts.pulses ≡ told.pulses
    lengths = one.count ∙ ((λ i. length (same.lines i)) ∙ sym two.count)

    left : counts.unused ≡ told.unused
    left = one.left ∙ (same.unused ∙ sym two.left)

-- the trace of what is the same
pub traced_as : (old mid new : Option Files) (net also : Netlist) (pulses given trace written : Word) (counts : Counts) → old ≡ mid → net ≡ also
    → pulses ≡ given → trace ≡ written → LeavesTrace old new net pulses trace counts → LeavesTrace mid new also given written counts
traced_as old mid new net also pulses given trace written counts files nets inputs outputs is =
    subst (λ (f : Word). LeavesTrace mid new also given f counts) outputs
    (subst (λ (f : Word). LeavesTrace mid new also f trace counts) inputs
    (subst (λ (n : Netlist). LeavesTrace mid new n pulses trace counts) nets
    (subst (λ (o : Option Files). LeavesTrace o new net pulses trace counts) files is)))

pub sim_makes_one : ((text : List ℕ) → IsOneNetlist text) → TraceIsOne → SimMakesOne
sim_makes_one one_netlist trace_one files others net pulses trace new other report told agree one two =
    let says : SaysNet (bytes_at files net) two.circuit = subst (λ (text : List ℕ). SaysNet text two.circuit) (sym agree.0) two.says in
    let nets = same_net one_netlist (bytes_at files net) one.circuit two.circuit one.says says in
    let first = subst (λ (c : Netlist). LeavesTrace (Some files) new c pulses trace one.counts) nets one.traced in
    let both = trace_one files others new other two.circuit pulses trace one.counts two.counts two.says.accepted agree.1 first two.traced in
    (by_sim both.0, one.tells ∙ (ap (λ (c : Counts). reports.Run c) both.1 ∙ sym two.tells))
  where
    by_sim : WriteTheSame (simulation_calls pulses trace) (Some files) (Some others) new other → WriteTheSame (sim_calls net pulses trace) (Some files) (Some others) new other
    by_sim is = record { texts = is.texts; named = is.named; one = is.one; two = is.two }
