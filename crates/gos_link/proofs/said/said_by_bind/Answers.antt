use Rattle.std.proofs.Common.{rules}
use Rattle.gos_link.proofs.SaidLemmas.{on_refusal, bind_said}
use Rattle.gos_link.proofs.said.said_by_bind.Goals as goal

pub returns-in_err-user-clause-memory : goal.returns-in_err-user-clause-memory
returns-in_err-user-clause-memory c =
    on_refusal _ c.from_residual.result (bind_said c.args.user.now c.args.import.now c.args.giver.now (search rules) (search rules) (search rules))

pub returns-in_err-import-clause-memory : goal.returns-in_err-import-clause-memory
returns-in_err-import-clause-memory c =
    on_refusal _ c.from_residual-in_err-import.result (bind_said c.args.user.now c.args.import.now c.args.giver.now (search rules) (search rules) (search rules))

pub returns-in_err-giver-clause-memory : goal.returns-in_err-giver-clause-memory
returns-in_err-giver-clause-memory c =
    on_refusal _ c.from_residual-in_err-giver.result (bind_said c.args.user.now c.args.import.now c.args.giver.now (search rules) (search rules) (search rules))
