use Rattle.std.proofs.Common.{rules}
use Rattle.gos_link.proofs.SaidLemmas.{on_refusal, inst_said}
use Rattle.gos_link.proofs.said.said_by_inst.Goals as goal

pub returns-in_err-name-clause-memory : goal.returns-in_err-name-clause-memory
returns-in_err-name-clause-memory c =
    on_refusal _ c.from_residual.result (inst_said c.args.name.now c.args.source.now c.args.object.now (search rules) (search rules) (search rules))

pub returns-in_err-source-clause-memory : goal.returns-in_err-source-clause-memory
returns-in_err-source-clause-memory c =
    on_refusal _ c.from_residual-in_err-source.result (inst_said c.args.name.now c.args.source.now c.args.object.now (search rules) (search rules) (search rules))

pub returns-in_err-object-clause-memory : goal.returns-in_err-object-clause-memory
returns-in_err-object-clause-memory c =
    on_refusal _ c.from_residual-in_err-object.result (inst_said c.args.name.now c.args.source.now c.args.object.now (search rules) (search rules) (search rules))
