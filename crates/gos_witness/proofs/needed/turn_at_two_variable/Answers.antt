use Rattle.std.proofs.Common.{sym, subst}
use Rattle.gos_witness.specs.declared.nodes.TwoParts.{TwoParts}
use Rattle.gos_witness.specs.NodeLists.{seen, two_term}
use Rattle.gos_witness.specs.inner.Ends.{IsAccessTurn}
use Rattle.gos_witness.proofs.needed.turn_at_two_variable.Goals as goal

pub returns-in-App-clause-turn : goal.returns-in-App-clause-turn
returns-in-App-clause-turn c =
    let l = c.args.list.now in
    subst (λ (t : TwoParts). IsAccessTurn l (two_term t (seen l c.args.first) (seen l c.args.second)) c.turn_at_item.result) (sym c.in-App.is) c.turn_at_item.ensures.turn
