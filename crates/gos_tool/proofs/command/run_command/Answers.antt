use Rattle.std.proofs.Common.{sym, subst}
use Rattle.std.specs.Prelude.{IfErr}
use Rattle.gos_command.specs.Ends.{IfStopped, ending}
use Rattle.gos_tool.specs.Run.{IsRejected, IsCall, CallsOf}
use Rattle.gos_tool.specs.inner.CommandSeen.{meant}
use Rattle.gos_tool.proofs.EndLemmas.{sim_rejected, compile_rejected, link_rejected, tidy_rejected, gates_rejected, explain_rejected, verify_rejected}
use Rattle.gos_tool.proofs.command.run_command.Goals as goal

pub returns-in-Sim-clause-failed_call : goal.returns-in-Sim-clause-failed_call
returns-in-Sim-clause-failed_call g c = λ failed.
    subst (λ command. IsCall (meant command) (g.S.Store.contents c.args.store.now) (g.S.Store.contents c.sim.new.store) (g.S.Store.last_fault c.sim.new.store)) (sym c.in-Sim.is) (c.sim.ensures.failed_call failed)

pub returns-in-Sim-clause-rejected : goal.returns-in-Sim-clause-rejected
returns-in-Sim-clause-rejected g c =
    let old = g.S.Store.contents c.args.store.now in
    let new = g.S.Store.contents c.sim.new.store in
    subst (λ command. IfErr c.sim.result (λ stop. IfStopped stop (IsRejected (meant command) old new))) (sym c.in-Sim.is)
    (sim_rejected c.in-Sim.net.now c.in-Sim.pulses.now c.in-Sim.trace.now old new c.sim.result c.sim.ensures.rejected_files c.sim.ensures.file c.sim.ensures.rejected)

pub returns-in-Compile-clause-failed_call : goal.returns-in-Compile-clause-failed_call
returns-in-Compile-clause-failed_call g c = λ failed.
    subst (λ command. IsCall (meant command) (g.S.Store.contents c.args.store.now) (g.S.Store.contents c.compile_source.new.store) (g.S.Store.last_fault c.compile_source.new.store)) (sym c.in-Compile.is) (c.compile_source.ensures.failed_call failed)

pub returns-in-Compile-clause-rejected : goal.returns-in-Compile-clause-rejected
returns-in-Compile-clause-rejected g c =
    let old = g.S.Store.contents c.args.store.now in
    let new = g.S.Store.contents c.compile_source.new.store in
    subst (λ command. IfErr c.compile_source.result (λ stop. IfStopped stop (IsRejected (meant command) old new))) (sym c.in-Compile.is)
    (compile_rejected c.in-Compile.source.now c.in-Compile.object.now old new c.compile_source.result c.compile_source.ensures.rejected_files c.compile_source.ensures.file c.compile_source.ensures.rejected)

pub returns-in-Link-clause-failed_call : goal.returns-in-Link-clause-failed_call
returns-in-Link-clause-failed_call g c = λ failed.
    subst (λ command. IsCall (meant command) (g.S.Store.contents c.args.store.now) (g.S.Store.contents c.link_build.new.store) (g.S.Store.last_fault c.link_build.new.store)) (sym c.in-Link.is) (c.link_build.ensures.failed_call failed)

pub returns-in-Link-clause-rejected : goal.returns-in-Link-clause-rejected
returns-in-Link-clause-rejected g c =
    let old = g.S.Store.contents c.args.store.now in
    let new = g.S.Store.contents c.link_build.new.store in
    subst (λ command. IfErr c.link_build.result (λ stop. IfStopped stop (IsRejected (meant command) old new))) (sym c.in-Link.is)
    (link_rejected c.in-Link.own.now old new c.link_build.result c.link_build.ensures.rejected_files c.link_build.ensures.rejected)

pub returns-in-Tidy-clause-failed_call : goal.returns-in-Tidy-clause-failed_call
returns-in-Tidy-clause-failed_call g c = λ failed.
    subst (λ command. IsCall (meant command) (g.S.Store.contents c.args.store.now) (g.S.Store.contents c.tidy_net.new.store) (g.S.Store.last_fault c.tidy_net.new.store)) (sym c.in-Tidy.is) (c.tidy_net.ensures.failed_call failed)

pub returns-in-Tidy-clause-rejected : goal.returns-in-Tidy-clause-rejected
returns-in-Tidy-clause-rejected g c =
    let old = g.S.Store.contents c.args.store.now in
    let new = g.S.Store.contents c.tidy_net.new.store in
    subst (λ command. IfErr c.tidy_net.result (λ stop. IfStopped stop (IsRejected (meant command) old new))) (sym c.in-Tidy.is)
    (tidy_rejected c.in-Tidy.net.now c.in-Tidy.out.now old new c.tidy_net.result c.tidy_net.ensures.rejected_files c.tidy_net.ensures.file c.tidy_net.ensures.rejected)

pub returns-in-Gates-clause-failed_call : goal.returns-in-Gates-clause-failed_call
returns-in-Gates-clause-failed_call g c = λ failed.
    subst (λ command. IsCall (meant command) (g.S.Store.contents c.args.store.now) (g.S.Store.contents c.gates_of.new.store) (g.S.Store.last_fault c.gates_of.new.store)) (sym c.in-Gates.is) (c.gates_of.ensures.failed_call failed)

pub returns-in-Gates-clause-rejected : goal.returns-in-Gates-clause-rejected
returns-in-Gates-clause-rejected g c =
    let old = g.S.Store.contents c.args.store.now in
    let new = g.S.Store.contents c.gates_of.new.store in
    subst (λ command. IfErr c.gates_of.result (λ stop. IfStopped stop (IsRejected (meant command) old new))) (sym c.in-Gates.is)
    (gates_rejected c.in-Gates.net.now c.in-Gates.out.now old new c.gates_of.result c.gates_of.ensures.rejected_files c.gates_of.ensures.file c.gates_of.ensures.rejected)

pub returns-in-Explain-clause-failed_call : goal.returns-in-Explain-clause-failed_call
returns-in-Explain-clause-failed_call g c = λ failed.
    subst (λ command. IsCall (meant command) (g.S.Store.contents c.args.store.now) (g.S.Store.contents c.explain_moves.new.store) (g.S.Store.last_fault c.explain_moves.new.store)) (sym c.in-Explain.is)
    (c.explain_moves.ensures.failed_call failed)

pub returns-in-Explain-clause-calls : goal.returns-in-Explain-clause-calls
returns-in-Explain-clause-calls g c =
    subst (λ command. CallsOf (meant command) (ending c.explain_moves.result) (g.S.Store.contents c.args.store.now) (g.S.Store.calls c.args.store.now) (g.S.Store.calls c.explain_moves.new.store))
    (sym c.in-Explain.is) c.explain_moves.ensures.calls

pub returns-in-Explain-clause-rejected : goal.returns-in-Explain-clause-rejected
returns-in-Explain-clause-rejected g c =
    let old = g.S.Store.contents c.args.store.now in
    let new = g.S.Store.contents c.explain_moves.new.store in
    subst (λ command. IfErr c.explain_moves.result (λ stop. IfStopped stop (IsRejected (meant command) old new))) (sym c.in-Explain.is)
    (explain_rejected c.in-Explain.own.now c.in-Explain.moves.now old new c.explain_moves.result c.explain_moves.ensures.rejected_files c.explain_moves.ensures.rejected)

pub returns-in-Verify-clause-failed_call : goal.returns-in-Verify-clause-failed_call
returns-in-Verify-clause-failed_call g c = λ failed.
    subst (λ command. IsCall (meant command) (g.S.Store.contents c.args.store.now) (g.S.Store.contents c.verify_moves.new.store) (g.S.Store.last_fault c.verify_moves.new.store)) (sym c.in-Verify.is)
    (c.verify_moves.ensures.same_files, c.verify_moves.ensures.failed_call failed)

pub returns-in-Verify-clause-calls : goal.returns-in-Verify-clause-calls
returns-in-Verify-clause-calls g c =
    subst (λ command. CallsOf (meant command) (ending c.verify_moves.result) (g.S.Store.contents c.args.store.now) (g.S.Store.calls c.args.store.now) (g.S.Store.calls c.verify_moves.new.store))
    (sym c.in-Verify.is) c.verify_moves.ensures.calls

pub returns-in-Verify-clause-rejected : goal.returns-in-Verify-clause-rejected
returns-in-Verify-clause-rejected g c =
    let old = g.S.Store.contents c.args.store.now in
    let new = g.S.Store.contents c.verify_moves.new.store in
    subst (λ command. IfErr c.verify_moves.result (λ stop. IfStopped stop (IsRejected (meant command) old new))) (sym c.in-Verify.is)
    (verify_rejected c.in-Verify.own.now c.in-Verify.moves.now old new c.verify_moves.result c.verify_moves.ensures.same_files c.verify_moves.ensures.rejected)
