use Rattle.std.proofs.Common.{◌≡◌, true, false, sym, ◌∙◌}
use Rattle.gos_witness.specs.NodeLists.{seen}
use Rattle.gos_witness.proofs.TurnLemmas.{port_done, port_on, port_alone}
use Rattle.gos_witness.proofs.needed.turn_at_port.Goals as goal

pub returns-then-is_value-clause-turn : goal.returns-then-is_value-clause-turn
returns-then-is_value-clause-turn c =
    let pair = c.in-Some.ensures.pair in
    port_done c.args.list.now (seen c.args.list.now c.args.argument) pair.0 c.in-Some.index pair.1 (c.is_value.ensures.0 c.if-is_value.true)

pub returns-else-is_value-clause-turn : goal.returns-else-is_value-clause-turn
returns-else-is_value-clause-turn c =
    let pair = c.in-Some.ensures.pair in
    port_on c.args.list.now (seen c.args.list.now c.args.argument) pair.0 c.in-Some.index pair.1
    (λ is. let both : true ≡ false = sym (c.is_value.ensures.1 is) ∙ c.if-is_value.false in cc both)

pub returns-in-None-clause-turn : goal.returns-in-None-clause-turn
returns-in-None-clause-turn c = port_alone c.args.list.now (seen c.args.list.now c.args.argument) c.in-None.ensures.pair
