use Rattle.gos_witness.specs.NodeLists.{seen}
use Rattle.gos_witness.proofs.TurnLemmas.{access_turn}
use Rattle.gos_witness.proofs.needed.turn_at_one.Goals as goal

pub returns-in-Deref-clause-turn : goal.returns-in-Deref-clause-turn
returns-in-Deref-clause-turn c = λ o.
    let l = c.args.list.now in
    access_turn l l.tables o c.args.one (seen l c.args.part) c.turn_at_access.result c.in-Deref.is c.turn_at_access.ensures.turn
