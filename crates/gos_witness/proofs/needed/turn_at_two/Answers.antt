use Rattle.std.proofs.Common.{sym, subst}
use Rattle.gos_swaps.specs.proper.Proper.{PartsApart}
use Rattle.gos_witness.specs.declared.nodes.TwoParts.{TwoParts}
use Rattle.gos_witness.specs.NodeLists.{seen, two_term}
use Rattle.gos_witness.specs.inner.Ends.{IsTurn}
use Rattle.gos_witness.proofs.needed.turn_at_two.Goals as goal

pub returns-in-Par-clause-turn : goal.returns-in-Par-clause-turn
returns-in-Par-clause-turn c = λ o knows apart.
    let l = c.args.list.now in
    subst (λ (t : TwoParts). IsTurn l o (two_term t (seen l c.args.first) (seen l c.args.second)) c.side.result) (sym c.in-Par.is)
    (c.side.ensures.turn o knows (subst (λ (t : TwoParts). PartsApart (two_term t (seen l c.args.first) (seen l c.args.second))) c.in-Par.is apart).0)
