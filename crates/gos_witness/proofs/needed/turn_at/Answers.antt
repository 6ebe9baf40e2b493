use Rattle.std.proofs.Common.{sym, subst}
use Rattle.gos_model.specs.Terms.{Term}
use Rattle.gos_swaps.specs.proper.Proper.{PartsApart}
use Rattle.gos_witness.specs.inner.Ends.{IsTurn}
use Rattle.gos_witness.proofs.needed.turn_at.Goals as goal

pub returns-clause-turn : goal.returns-clause-turn
returns-clause-turn c = λ o knows apart.
    let e = c.node.ensures.right.term in
    subst (λ (m : Term). IsTurn c.args.list.now o m c.turn_at_form.result) (sym e) (c.turn_at_form.ensures.turn o knows (subst PartsApart e apart))
