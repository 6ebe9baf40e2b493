use Rattle.gos_flow.specs.Command.{ToVerilog}
use Rattle.gos_flow.proofs.RunLemmas.{failed_as, is_write}
use Rattle.gos_flow.proofs.rewriting.to_verilog.Goals as goal

pub returns-in_err-write_file-clause-failed_call : goal.returns-in_err-write_file-clause-failed_call
returns-in_err-write_file-clause-failed_call g c = λ failed.
    is_write (ToVerilog c.args.net.now c.args.out.now) (g.S.Store.contents c.args.store.now) (g.S.Store.contents c.checked_net.new.store) (g.S.Store.contents c.write_file.new.store)
    (g.S.Store.last_fault c.write_file.new.store) c.in_ok-given.given c.in_ok-given.ensures.says c.in_ok-given.ensures.same_files c.in_err-write_file.ensures.others
    (c.in_err-write_file.ensures.failed_call (failed_as _ c.from_residual-in_err-write_file.ensures.1 failed))
