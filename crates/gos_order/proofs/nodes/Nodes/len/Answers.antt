use Rattle.std.proofs.Common.{rules, ◌≡◌, ◌≤◌, ap, arith, length}
use Rattle.gos_order.specs.inner.NodeLists.{NodeList}
use Rattle.gos_order.proofs.PlaceLemmas.{few}
use Rattle.gos_order.proofs.nodes.Nodes.len.Goals as goal

pub returns-clause-bounded : goal.returns-clause-bounded
returns-clause-bounded c =
    let count : c.len.result ≡ length c.self.inside.items.items = search rules in
    let most : length c.self.inside.items.items ≤ length c.self.inside.places.items =
    few c.self.inside.items.items c.self.inside.places.items c.self.invariant.placed c.self.invariant.below in
    let bound : length c.self.inside.places.items ≡ c.args.self.now.bound = ap (λ (nodes : NodeList). nodes.bound) c.self.view_is in
    omega (arith, count, most, bound)
