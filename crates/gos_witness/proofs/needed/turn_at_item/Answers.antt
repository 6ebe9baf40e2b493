use Rattle.std.proofs.Common.{◌≡◌, true, false, sym, subst, ◌∙◌}
use Rattle.gos_model.specs.Terms.{Term, App}
use Rattle.gos_witness.specs.NodeLists.{seen}
use Rattle.gos_witness.specs.inner.Ends.{IsAccessTurn}
use Rattle.gos_witness.proofs.TurnLemmas.{array_value, array_index, other_port}
use Rattle.gos_witness.proofs.needed.turn_at_item.Goals as goal

pub returns-then-is_value-clause-turn : goal.returns-then-is_value-clause-turn
returns-then-is_value-clause-turn c =
    let l = c.args.list.now in
    array_value l (seen l c.args.array) (seen l c.args.index) c.in-Array.field-0 c.in-Array.ensures (c.is_value.ensures.0 c.if-is_value.true)

pub returns-else-is_value-clause-turn : goal.returns-else-is_value-clause-turn
returns-else-is_value-clause-turn c =
    let l = c.args.list.now in
    array_index l (seen l c.args.array) c.args.index c.in-Array.field-0 c.in-Array.ensures
    (λ is. let both : true ≡ false = sym (c.is_value.ensures.1 is) ∙ c.if-is_value.false in cc both)

pub returns-in-Port-clause-turn : goal.returns-in-Port-clause-turn
returns-in-Port-clause-turn c =
    let l = c.args.list.now in
    let (x, e) = c.in-Port.ensures in
    subst (λ (z : Term). IsAccessTurn l (App z (seen l c.args.index)) c.turn_at_port.result) (sym e) (c.turn_at_port.ensures.turn x)

pub returns-then-is_port-clause-turn : goal.returns-then-is_port-clause-turn
returns-then-is_port-clause-turn c =
    let l = c.args.list.now in
    other_port l (seen l c.args.array) (seen l c.args.index) (c.is_port.ensures.0 c.if-is_port.true) c.in-No.ensures.0 c.in-No.ensures.1
