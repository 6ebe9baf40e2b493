use Rattle.std.proofs.Common.{subst}
use Rattle.gos_flow.specs.Finish.{Finishes}
use Rattle.gos_flow.specs.inner.CommandSeen.{meant}
use Rattle.gos_flow.proofs.CompleteLemmas.{complete}
use Rattle.gos_flow.proofs.EndLemmas.{ends_done, if_rejected, unsaid, untold, made, kept}
use Rattle.gos_flow.proofs.flow.Goals as goal

pub returns-in-Some-clause-done : goal.returns-in-Some-clause-done
returns-in-Some-clause-done g c = λ done.
    ends_done _ (g.S.Store.contents c.args.store.now) (g.S.Store.contents c.run_command-ended.new.store) (g.O.Sink.written c.args.out.now) (g.O.Sink.written c.finish.new.out)
    (meant c.in-Some.command) c.run_command-ended.result c.finish.result c.in-Some.ensures c.run_command-ended.ensures.done
    (subst (λ file. Finishes file c.run_command-ended.result c.finish.result (g.O.Sink.written c.args.out.now) (g.O.Sink.written c.finish.new.out)) c.read.ensures c.finish.ensures.finishes) done

pub returns-in-Some-clause-rejected : goal.returns-in-Some-clause-rejected
returns-in-Some-clause-rejected g c =
    if_rejected _ (g.S.Store.contents c.args.store.now) (g.S.Store.contents c.run_command-ended.new.store) (g.O.Sink.written c.args.out.now) (g.O.Sink.written c.finish.new.out)
    (meant c.in-Some.command) c.run_command-ended.result c.finish.result c.in-Some.ensures c.run_command-ended.ensures.rejected
    (subst (λ file. Finishes file c.run_command-ended.result c.finish.result (g.O.Sink.written c.args.out.now) (g.O.Sink.written c.finish.new.out)) c.read.ensures c.finish.ensures.finishes)

pub returns-in-Some-clause-sink_line : goal.returns-in-Some-clause-sink_line
returns-in-Some-clause-sink_line g c = λ failed d means.
    unsaid _ (g.S.Store.contents c.args.store.now) (g.S.Store.contents c.run_command-ended.new.store) (g.O.Sink.written c.args.out.now) (g.O.Sink.written c.finish.new.out)
    (meant c.in-Some.command) d c.run_command-ended.result c.finish.result c.in-Some.ensures means c.run_command-ended.ensures.done c.run_command-ended.ensures.rejected
    (subst (λ file. Finishes file c.run_command-ended.result c.finish.result (g.O.Sink.written c.args.out.now) (g.O.Sink.written c.finish.new.out)) c.read.ensures c.finish.ensures.finishes) failed

pub returns-in-Some-clause-memory_files : goal.returns-in-Some-clause-memory_files
returns-in-Some-clause-memory_files g c = λ failed d means.
    untold _ (g.S.Store.contents c.args.store.now) (g.S.Store.contents c.run_command-ended.new.store) (g.O.Sink.written c.args.out.now) (g.O.Sink.written c.finish.new.out)
    (meant c.in-Some.command) d c.run_command-ended.result c.finish.result c.in-Some.ensures means c.run_command-ended.ensures.done c.run_command-ended.ensures.rejected
    c.run_command-ended.ensures.memory_files
    (subst (λ file. Finishes file c.run_command-ended.result c.finish.result (g.O.Sink.written c.args.out.now) (g.O.Sink.written c.finish.new.out)) c.read.ensures c.finish.ensures.finishes) failed

pub returns-in-Some-clause-others : goal.returns-in-Some-clause-others
returns-in-Some-clause-others g c = λ d means.
    kept _ (g.S.Store.contents c.args.store.now) (g.S.Store.contents c.run_command-ended.new.store) (meant c.in-Some.command) d c.in-Some.ensures means
    c.run_command-ended.ensures.others

pub returns-in-Some-clause-complete : goal.returns-in-Some-clause-complete
returns-in-Some-clause-complete g c = λ d means files told right no_call no_line.
    complete c.right_files.ensures.rejected _ (g.S.Store.contents c.args.store.now) (g.S.Store.contents c.run_command-ended.new.store) (g.O.Sink.written c.args.out.now) (g.O.Sink.written c.finish.new.out)
    (meant c.in-Some.command) d c.run_command-ended.result c.finish.result files told c.in-Some.ensures means right c.run_command-ended.ensures.rejected
    (λ failed. no_call (c.run_command-ended.ensures.counts.0 failed))
    (subst (λ file. Finishes file c.run_command-ended.result c.finish.result (g.O.Sink.written c.args.out.now) (g.O.Sink.written c.finish.new.out)) c.read.ensures c.finish.ensures.finishes)
    (λ failed. no_line (c.finish.ensures.counts.0 failed))

pub returns-in-Some-clause-calls : goal.returns-in-Some-clause-calls
returns-in-Some-clause-calls g c = λ d means.
    made _ (g.O.Sink.written c.args.out.now) (g.O.Sink.written c.finish.new.out) (meant c.in-Some.command) d c.run_command-ended.result c.finish.result
    (g.S.Store.calls c.args.store.now) (g.S.Store.calls c.run_command-ended.new.store) c.in-Some.ensures means
    (subst (λ file. Finishes file c.run_command-ended.result c.finish.result (g.O.Sink.written c.args.out.now) (g.O.Sink.written c.finish.new.out)) c.read.ensures c.finish.ensures.finishes)
    c.run_command-ended.ensures.calls
