use Rattle.std.proofs.Common.{option_map, sym, ap, ◌∙◌, arith}
use Rattle.gos_plan.specs.Plans.{PartEnd}
use Rattle.gos_expand.specs.inner.Choosing.{ways_seen}
use Rattle.gos_expand.proofs.PassageLemmas.{passage_added}
use Rattle.gos_expand.proofs.choosing.add_passage.Goals as goal

pub overflow_add-directions : goal.overflow_add-directions
overflow_add-directions c =
    let goes = sym c.directions_at-2.ensures ∙ ap (option_map ways_seen) c.in-Some-directions_at.is in
    let low = (c.requires.within (PartEnd c.args.part c.args.to) (ways_seen c.in-Some-directions_at.second) goes).1 in
    let few = c.requires.few in omega (arith, low, few)

pub add-requires-clause-from : goal.add-requires-clause-from
add-requires-clause-from c =
    let comes = sym c.directions_at.ensures ∙ ap (option_map ways_seen) c.in-Some.is in
    let low = (c.requires.within (PartEnd c.args.part c.args.from) (ways_seen c.in-Some.first) comes).0 in
    let nodes = c.requires.nodes in omega (arith, low, nodes)

pub add-requires-clause-to : goal.add-requires-clause-to
add-requires-clause-to c =
    let goes = sym c.directions_at-2.ensures ∙ ap (option_map ways_seen) c.in-Some-directions_at.is in
    let low = (c.requires.within (PartEnd c.args.part c.args.to) (ways_seen c.in-Some-directions_at.second) goes).1 in
    let nodes = c.requires.nodes in omega (arith, low, nodes)

pub returns-clause-added : goal.returns-clause-added
returns-clause-added c =
    let comes = sym c.directions_at.ensures ∙ ap (option_map ways_seen) c.in-Some.is in
    let goes = sym c.directions_at-2.ensures ∙ ap (option_map ways_seen) c.in-Some-directions_at.is in
    (passage_added c.args.directions c.args.table.now c.args.part c.args.from c.args.to (ways_seen c.in-Some.first)
    (ways_seen c.in-Some-directions_at.second) comes goes c.requires.within c.args.graph.now c.add.new.self c.in_ok-add.field-0 c.requires.across
    c.in_ok-add.ensures.refused c.in_ok-add.ensures.after).0

pub returns-clause-across : goal.returns-clause-across
returns-clause-across c =
    let comes = sym c.directions_at.ensures ∙ ap (option_map ways_seen) c.in-Some.is in
    let goes = sym c.directions_at-2.ensures ∙ ap (option_map ways_seen) c.in-Some-directions_at.is in
    (passage_added c.args.directions c.args.table.now c.args.part c.args.from c.args.to (ways_seen c.in-Some.first)
    (ways_seen c.in-Some-directions_at.second) comes goes c.requires.within c.args.graph.now c.add.new.self c.in_ok-add.field-0 c.requires.across
    c.in_ok-add.ensures.refused c.in_ok-add.ensures.after).1
