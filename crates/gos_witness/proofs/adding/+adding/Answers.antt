use Rattle.gos_witness.specs.inner.Adding.{names_of, meant, tree}
use Rattle.gos_witness.proofs.AddLemmas.{push_two, push_choice}
use Rattle.gos_witness.proofs.adding.+adding.Goals as goal

pub add_two-returns-clause-added : goal.add_two-returns-clause-added
add_two-returns-clause-added t c =
    let names = names_of c.args.binders.now in
    push_two c.args.list.now c.add.new.list c.add-2.new.list c.push.new.self c.args.supplies.now
    (meant names (tree c.args.m.now)) (meant names (tree c.args.n.now)) c.args.two c.in_ok-m.m c.in_ok-n.n c.push.result
    c.requires.there c.in_ok-m.ensures.added c.in_ok-m.ensures.keeps c.in_ok-n.ensures.added c.in_ok-n.ensures.keeps
    c.push.ensures.term c.push.ensures.there

pub add_choice-returns-clause-added : goal.add_choice-returns-clause-added
add_choice-returns-clause-added t c =
    let names = names_of c.args.binders.now in
    push_choice c.args.list.now c.add.new.list c.add-2.new.list c.add-3.new.list c.push.new.self c.args.supplies.now
    (meant names (tree c.args.m.now)) (meant names (tree c.args.n.now)) (meant names (tree c.args.p.now)) c.in_ok-m.m c.in_ok-n.n c.in_ok-p.p
    c.push.result c.requires.there c.in_ok-m.ensures.added c.in_ok-m.ensures.keeps c.in_ok-n.ensures.added c.in_ok-n.ensures.keeps
    c.in_ok-p.ensures.added c.in_ok-p.ensures.keeps c.push.ensures.term c.push.ensures.there
