use Rattle.gos_order.proofs.SearchLemmas.{in_grown}
use Rattle.gos_order.proofs.RoomLemmas.{in_one, behind_start, behind_met, behind_room}
use Rattle.gos_order.proofs.levels.find_behind.Goals as goal

pub returns-clause-met : goal.returns-clause-met
returns-clause-met c = λ met.
    let edges = c.args.links.now.edges in
    let levels = c.args.levels.now in
    let before = c.args.before.now.items in
    let start = behind_start edges levels before c.args.from c.args.to c.args.limit c.requires.are_before c.args.behind.now.items c.requires.to c.requires.below c.requires.other in
    behind_met edges levels before c.args.from c.args.to c.args.limit c.requires.are_before (c.run.ensures.met met c.args.to start)

pub returns-clause-all : goal.returns-clause-all
returns-clause-all c = λ all.
    let edges = c.args.links.now.edges in
    let levels = c.args.levels.now in
    let before = c.args.before.now.items in
    let start = behind_start edges levels before c.args.from c.args.to c.args.limit c.requires.are_before c.args.behind.now.items c.requires.to c.requires.below c.requires.other in
    let among = in_one c.args.behind.now.items c.args.to c.requires.to in
    behind_room edges levels before c.args.from c.args.to c.args.limit c.requires.are_before c.run.new.reached.items c.requires.rising
    (in_grown c.args.behind.now c.run.new.reached c.args.to c.run.ensures.grows among) c.requires.other (c.run.ensures.held c.args.to start)
    (c.run.ensures.all all)

pub returns-clause-below : goal.returns-clause-below
returns-clause-below c = λ all a among.
    let edges = c.args.links.now.edges in
    let levels = c.args.levels.now in
    let before = c.args.before.now.items in
    let start = behind_start edges levels before c.args.from c.args.to c.args.limit c.requires.are_before c.args.behind.now.items c.requires.to c.requires.below c.requires.other in
    (c.run.ensures.held c.args.to start a among).wanted
