use Rattle.std.proofs.Common.{sym, ◌≡◌, [], List, ℕ, ap, subst}
use Rattle.gos_order.specs.inner.NodeLists.{NodeList, at}
use Rattle.gos_order.specs.inner.Levels.{MakesRoom}
use Rattle.gos_order.proofs.LevelLemmas.{room_rising}
use Rattle.gos_order.proofs.levels.room.Goals as goal

pub returns-then-level-levels-clause-room : goal.returns-then-level-levels-clause-room
returns-then-level-levels-clause-room c =
    let edges = c.args.links.now.edges in
    let levels = c.args.levels.now in
    let none : c.clear.new.self.items ≡ [] = ap (λ (nodes : NodeList). nodes.items) c.clear.ensures in
    subst (λ (items : List ℕ). MakesRoom edges levels items c.args.from c.args.to (at levels c.args.from)) (sym none)
    (room_rising edges levels c.args.from c.args.to c.requires.rising c.if-level-levels.true)
