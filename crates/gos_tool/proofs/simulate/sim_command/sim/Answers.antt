use Rattle.std.proofs.Common.{subst, ◌∷◌, []}
use Rattle.std.specs.Prelude.{IfSome}
use Rattle.std.proofs.lemmas.Result.{err_from_is_err_and}
use Rattle.gos_command.proofs.EndLemmas.{of_stopped, early, late}
use Rattle.gos_tool.specs.simulate.Simulation.{IsPulseFault}
use Rattle.gos_tool.specs.simulate.Sim.{IsSimFault}
use Rattle.gos_tool.proofs.lemmas.simulate.SimLemmas.{pulses_rejected}
use Rattle.gos_outside.specs.Calls.{Whole}
use Rattle.gos_outside.proofs.CallsLemmas.{goes_on}
use Rattle.gos_tool.specs.Calls.{read_netlist, simulation_calls}
use Rattle.gos_tool.proofs.lemmas.circuits.ExitLemmas.{err_is}
use Rattle.gos_tool.specs.Causes.{OfNetlist, OfPulses}
use Rattle.gos_tool.proofs.lemmas.StopLemmas.{stops_before, stops_behind}
use Rattle.gos_tool.proofs.simulate.sim_command.sim.Goals as goal

pub returns-in_err-counts-clause-rejected : goal.returns-in_err-counts-clause-rejected
returns-in_err-counts-clause-rejected g c =
    let old = g.S.Store.contents c.args.store.now in
    let circuit = c.in_ok-checked.checked in
    let p = err_from_is_err_and c.from_residual-in_err-counts.result c.from_residual-in_err-counts.ensures.1 in
    rw (p.1, p.2)
    (of_stopped _ (λ fault line. IfSome old (λ files. IsSimFault files c.args.net.now c.args.pulses.now fault line)) c.in_err-counts.field-0.0
    (λ fault line h. pulses_rejected old c.args.net.now c.args.pulses.now circuit fault line c.in_ok-checked.ensures.says
    (subst (λ told. IfSome told (λ files. IsPulseFault files circuit c.args.pulses.now fault line)) c.in_ok-checked.ensures.same_files h))
    c.in_err-counts.ensures.rejected)

pub returns-in_err-checked-clause-calls : goal.returns-in_err-checked-clause-calls
returns-in_err-checked-clause-calls g c =
    early _ _ (read_netlist c.args.net.now ∷ []) (simulation_calls c.args.pulses.now c.args.trace.now) (g.S.Store.calls c.args.store.now) (g.S.Store.calls c.checked_net.new.store) c.from_residual.ensures.1 c.in_err-checked.ensures.calls

pub returns-in_err-counts-clause-calls : goal.returns-in_err-counts-clause-calls
returns-in_err-counts-clause-calls g c =
    late _ _ (read_netlist c.args.net.now ∷ []) (simulation_calls c.args.pulses.now c.args.trace.now) (g.S.Store.calls c.args.store.now) (g.S.Store.calls c.checked_net.new.store) (g.S.Store.calls c.simulate.new.store) c.from_residual-in_err-counts.ensures.1
    c.in_ok-checked.ensures.calls c.in_err-counts.ensures.calls

pub returns-clause-calls : goal.returns-clause-calls
returns-clause-calls g c =
    goes_on Whole (read_netlist c.args.net.now ∷ []) (simulation_calls c.args.pulses.now c.args.trace.now) (g.S.Store.calls c.args.store.now) (g.S.Store.calls c.checked_net.new.store) (g.S.Store.calls c.simulate.new.store) c.in_ok-checked.ensures.calls c.in_ok-counts.ensures.calls

pub returns-in_err-checked-clause-kind : goal.returns-in_err-checked-clause-kind
returns-in_err-checked-clause-kind g c =
    rw (err_is _ c.from_residual.ensures.1) (stops_before (OfNetlist ∷ []) (OfPulses ∷ []) c.in_err-checked.field-0.0 c.in_err-checked.ensures.kind)

pub returns-in_err-counts-clause-kind : goal.returns-in_err-counts-clause-kind
returns-in_err-counts-clause-kind g c =
    rw (err_is _ c.from_residual-in_err-counts.ensures.1) (stops_behind (OfNetlist ∷ []) (OfPulses ∷ []) c.in_err-counts.field-0.0 c.in_err-counts.ensures.kind)
