use Rattle.std.proofs.Common.{◌≡◌, ◌∙◌, length, Some, ap, subst, ◌∷◌, [], refl}
use Rattle.std.specs.Prelude.{IfSome}
use Rattle.gos_outside.specs.Files.{bytes_at, with_file}
use Rattle.gos_netlist.specs.Nets.{Netlist}
use Rattle.gos_pulse.specs.PulseFile.{IsPulseFile}
use Rattle.gos_pulse.specs.Driving.{BreaksAs}
use Rattle.gos_pulse.specs.Traced.{IsTraced}
use Rattle.gos_pulse.specs.TraceText.{trace_text}
use Rattle.gos_sim.specs.Cycle.{Simulator}
use Rattle.gos_command.proofs.EndLemmas.{of_result_both, of_stopped, stops_after}
use Rattle.gos_command.specs.declared.report.Counts.{Counts}
use Rattle.gos_command.specs.Lines.{fault_line}
use Rattle.gos_tool.specs.simulate.Simulation.{LeavesTrace, IsPulseFault}
use Rattle.gos_tool.proofs.lemmas.simulate.SimulationLemmas.{leaves_trace, broken, ran, unwritten}
use Rattle.gos_outside.specs.Calls.{Write}
use Rattle.gos_tool.proofs.simulate.simulation.run.Goals as goal

pub returns-in-Ok-drive-clause-done : goal.returns-in-Ok-drive-clause-done
returns-in-Ok-drive-clause-done g c =
    let old = g.S.Store.contents c.args.store.now in
    let new = g.S.Store.contents c.write_trace.new.store in
    let net = c.args.net in
    let run = c.in-Ok-drive.traced in
    let net_is : c.in-Ok.sim.net ≡ net = ap (λ (s : Simulator). s.net) c.in-Ok.ensures.made in
    let run_is : c.netlist.result.now ≡ net = c.netlist.ensures.value ∙ c.in-Ok-drive.ensures.net ∙ net_is in
    let traced : IsTraced net c.args.read.now.0 c.args.read.now.1 run = subst (λ (n : Netlist). IsTraced n c.args.read.now.0 c.args.read.now.1 run) net_is c.in-Ok-drive.ensures.traced in
    let wrote = subst (λ (n : Netlist). new ≡ with_file c.args.trace.now (trace_text n run.lines.items run.cycles) old) run_is in
    of_result_both
    (λ (counts : Counts). new ≡ with_file c.args.trace.now (trace_text c.netlist.result.now run.lines.items run.cycles) old)
    (λ (counts : Counts). counts ≡ record { cycles = run.cycles; pulses = length run.lines.items; unused = run.unused })
    (λ (counts : Counts). IfSome old (λ files. IsPulseFile net (bytes_at files c.args.pulses.now) c.args.read.now.0 c.args.read.now.1) → LeavesTrace old new net c.args.pulses.now c.args.trace.now counts)
    c.write_trace.result
    (λ counts w are says. leaves_trace old new net c.args.pulses.now c.args.trace.now c.args.read.now.1 run c.args.read.now.0 counts says traced (wrote w) are)
    c.write_trace.ensures.wrote c.write_trace.ensures.numbers

pub returns-in-Ok-drive-clause-failed_after : goal.returns-in-Ok-drive-clause-failed_after
returns-in-Ok-drive-clause-failed_after g c =
    let read = c.args.read.now in
    let run = c.in-Ok-drive.traced in
    let net_is : c.in-Ok.sim.net ≡ c.args.net = ap (λ (s : Simulator). s.net) c.in-Ok.ensures.made in
    λ _. ran (g.S.Store.contents c.args.store.now) c.args.net c.args.pulses.now read.0 read.1 run
    (subst (λ (n : Netlist). IsTraced n read.0 read.1 run) net_is c.in-Ok-drive.ensures.traced)

pub returns-clause-rejected : goal.returns-clause-rejected
returns-clause-rejected g c =
    let old = g.S.Store.contents c.args.store.now in
    let net = c.args.net in
    let net_is : c.in-Ok.sim.net ≡ net = ap (λ (s : Simulator). s.net) c.in-Ok.ensures.made in
    let run_is : c.netlist-in-Err.result.now ≡ net = c.netlist-in-Err.ensures.value ∙ c.in-Err.ensures.net ∙ net_is in
    of_stopped _ (λ fault line. IfSome old (λ files. IsPulseFile net (bytes_at files c.args.pulses.now) c.args.read.now.0 c.args.read.now.1 → IsPulseFault files net c.args.pulses.now fault line)) c.reject.result
    (λ fault line h. broken old net c.args.pulses.now c.args.read.now.0 c.args.read.now.1 c.in-Err.fault fault line
    (subst (λ (n : Netlist). BreaksAs n c.args.read.now.0 c.args.read.now.1 c.in-Err.fault) net_is (c.in-Err.ensures.broken h.1)) h.1 h.0
    (h.2 ∙ ap (λ (n : Netlist). fault_line (Some n) fault) run_is))
    c.reject.ensures.stopped

pub returns-clause-calls : goal.returns-clause-calls
returns-clause-calls g c =
    stops_after _ [] (Write c.args.trace.now ∷ []) (g.S.Store.calls c.args.store.now) (g.S.Store.calls c.args.store.now) c.reject.ensures.no_store refl

pub returns-clause-others : goal.returns-clause-others
returns-clause-others g c = unwritten c.args.trace.now (g.S.Store.contents c.args.store.now)
