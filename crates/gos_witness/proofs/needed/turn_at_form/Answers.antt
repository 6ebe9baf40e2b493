use Rattle.std.proofs.Common.{length, sym, subst}
use Rattle.gos_swaps.specs.proper.Proper.{PartsApart}
use Rattle.gos_witness.specs.declared.nodes.Form.{Form}
use Rattle.gos_witness.specs.NodeLists.{shape}
use Rattle.gos_witness.specs.inner.Ends.{IsTurn}
use Rattle.gos_witness.proofs.needed.turn_at_form.Goals as goal

pub returns-in-Leaf-clause-below : goal.returns-in-Leaf-clause-below
returns-in-Leaf-clause-below c = c.turn_at_leaf.ensures.below (length c.args.list.now.nodes) c.args.node

pub returns-in-Leaf-clause-turn : goal.returns-in-Leaf-clause-turn
returns-in-Leaf-clause-turn c = λ o knows apart.
    let l = c.args.list.now in
    subst (λ (f : Form). IsTurn l o (shape l f) c.turn_at_leaf.result) (sym c.in-Leaf.is) (c.turn_at_leaf.ensures.turn l l.tables o)

pub returns-in-One-clause-turn : goal.returns-in-One-clause-turn
returns-in-One-clause-turn c = λ o knows apart.
    let l = c.args.list.now in
    subst (λ (f : Form). IsTurn l o (shape l f) c.turn_at_one.result) (sym c.in-One.is) (c.turn_at_one.ensures.turn o)

pub returns-in-Two-clause-turn : goal.returns-in-Two-clause-turn
returns-in-Two-clause-turn c = λ o knows apart.
    let l = c.args.list.now in
    subst (λ (f : Form). IsTurn l o (shape l f) c.turn_at_two.result) (sym c.in-Two.is)
    (c.turn_at_two.ensures.turn o knows (subst (λ (f : Form). PartsApart (shape l f)) c.in-Two.is apart))
