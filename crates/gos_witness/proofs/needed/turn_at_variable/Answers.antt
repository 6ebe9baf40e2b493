use Rattle.std.proofs.Common.{length, sym, subst}
use Rattle.gos_witness.specs.declared.nodes.Form.{Form}
use Rattle.gos_witness.specs.NodeLists.{shape}
use Rattle.gos_witness.specs.inner.Ends.{IsAccessTurn}
use Rattle.gos_witness.proofs.needed.turn_at_variable.Goals as goal

pub returns-in-Leaf-clause-below : goal.returns-in-Leaf-clause-below
returns-in-Leaf-clause-below c = λ n less. c.turn_at_leaf_variable.ensures.below (length c.args.list.now.nodes) n

pub returns-in-Leaf-clause-turn : goal.returns-in-Leaf-clause-turn
returns-in-Leaf-clause-turn c =
    let l = c.args.list.now in
    subst (λ (f : Form). IsAccessTurn l (shape l f) c.turn_at_leaf_variable.result) (sym c.in-Leaf.is) (c.turn_at_leaf_variable.ensures.turn l l.tables)

pub returns-in-One-clause-turn : goal.returns-in-One-clause-turn
returns-in-One-clause-turn c =
    let l = c.args.list.now in
    subst (λ (f : Form). IsAccessTurn l (shape l f) c.turn_at_one_variable.result) (sym c.in-One.is) c.turn_at_one_variable.ensures.turn

pub returns-in-Two-clause-turn : goal.returns-in-Two-clause-turn
returns-in-Two-clause-turn c =
    let l = c.args.list.now in
    subst (λ (f : Form). IsAccessTurn l (shape l f) c.turn_at_two_variable.result) (sym c.in-Two.is) c.turn_at_two_variable.ensures.turn
