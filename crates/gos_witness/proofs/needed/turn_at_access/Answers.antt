use Rattle.std.proofs.Common.{sym, subst}
use Rattle.gos_model.specs.Terms.{Term}
use Rattle.gos_witness.specs.inner.Ends.{IsAccessTurn}
use Rattle.gos_witness.proofs.needed.turn_at_access.Goals as goal

pub returns-clause-turn : goal.returns-clause-turn
returns-clause-turn c =
    subst (λ (m : Term). IsAccessTurn c.args.list.now m c.turn_at_variable.result) (sym c.node.ensures.right.term) c.turn_at_variable.ensures.turn
