use Rattle.std.proofs.Common.{sym, ◌≡◌, [], List, ℕ, ap, subst}
use Rattle.gos_order.specs.inner.NodeLists.{NodeList}
use Rattle.gos_order.specs.inner.Levels.{MakesRoom}
use Rattle.gos_order.proofs.LevelLemmas.{room_level}
use Rattle.gos_order.proofs.levels.room_above.Goals as goal

pub returns-then-levels-to-clause-room : goal.returns-then-levels-to-clause-room
returns-then-levels-to-clause-room c =
    let edges = c.args.links.now.edges in
    let levels = c.args.levels.now in
    let limit = c.in_ok-limit.limit in
    let none : c.clear-then-levels-to.new.self.items ≡ [] = ap (λ (nodes : NodeList). nodes.items) c.clear-then-levels-to.ensures in
    subst (λ (items : List ℕ). MakesRoom edges levels items c.args.from c.args.to limit) (sym none)
    (room_level edges levels c.find_before.new.before.items c.args.from c.args.to limit c.requires.rising c.in_ok-limit.ensures.before
    c.in_ok-limit.ensures.other c.if-levels-to.true)
