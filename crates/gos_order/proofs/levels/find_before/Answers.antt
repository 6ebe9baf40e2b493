use Rattle.std.proofs.Common.{rules, refl, ◌≡◌, ◌∷◌, []}
use Rattle.gos_order.proofs.SearchLemmas.{in_grown}
use Rattle.gos_order.proofs.RoomLemmas.{in_one, before_start, before_met, before_other, before_all}
use Rattle.gos_order.proofs.levels.find_before.Goals as goal

pub returns-in-Met-clause-before : goal.returns-in-Met-clause-before
returns-in-Met-clause-before c =
    let edges = c.args.links.now.edges in
    let levels = c.args.levels.now in
    let apart = c.args.behind.now.items in
    let alone : c.put.new.self.items ≡ c.args.from ∷ [] = search rules in
    let start = before_start edges levels apart c.args.from c.args.to c.requires.other c.requires.to c.put.new.self.items alone in
    before_met edges levels apart c.args.from c.args.to c.requires.other c.requires.to (c.in-Met.ensures.met refl c.args.from start)

pub returns-in-All-clause-before : goal.returns-in-All-clause-before
returns-in-All-clause-before c =
    let edges = c.args.links.now.edges in
    let levels = c.args.levels.now in
    let apart = c.args.behind.now.items in
    let alone : c.put.new.self.items ≡ c.args.from ∷ [] = search rules in
    let start = before_start edges levels apart c.args.from c.args.to c.requires.other c.requires.to c.put.new.self.items alone in
    let among = in_grown c.put.new.self c.run.new.reached c.args.from c.in-All.ensures.grows (in_one c.put.new.self.items c.args.from alone) in
    before_all edges levels apart c.args.from c.args.to c.requires.other c.requires.to c.run.new.reached.items among (c.in-All.ensures.held c.args.from start)
    (c.in-All.ensures.all refl)

pub returns-in-All-clause-other : goal.returns-in-All-clause-other
returns-in-All-clause-other c =
    let edges = c.args.links.now.edges in
    let levels = c.args.levels.now in
    let apart = c.args.behind.now.items in
    let alone : c.put.new.self.items ≡ c.args.from ∷ [] = search rules in
    let start = before_start edges levels apart c.args.from c.args.to c.requires.other c.requires.to c.put.new.self.items alone in
    before_other edges levels apart c.args.from c.args.to c.requires.other c.requires.to c.run.new.reached.items (c.in-All.ensures.held c.args.from start)
