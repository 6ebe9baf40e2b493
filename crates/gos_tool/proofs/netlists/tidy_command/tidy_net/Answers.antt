use Rattle.gos_tool.proofs.lemmas.circuits.ExitLemmas.{failed_as}
use Rattle.gos_tool.proofs.lemmas.netlists.NetLemmas.{tidy_call}
use Rattle.gos_tool.proofs.netlists.tidy_command.tidy_net.Goals as goal

pub returns-in_err-write_net-clause-failed_call : goal.returns-in_err-write_net-clause-failed_call
returns-in_err-write_net-clause-failed_call g c = λ failed.
    tidy_call (g.S.Store.contents c.args.store.now) (g.S.Store.contents c.checked_net.new.store) (g.S.Store.contents c.write_net.new.store) c.args.net.now c.args.out.now
    (g.S.Store.last_fault c.write_net.new.store) c.in_ok-given.given c.in_ok-given.ensures.says c.in_ok-given.ensures.same_files c.in_err-write_net.ensures.others
    (c.in_err-write_net.ensures.failed_call (failed_as _ c.from_residual-in_err-write_net.ensures.1 failed))
