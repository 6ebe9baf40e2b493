use Rattle.gos_netcheck.proofs.TurnLemmas.{turned_nets}
use Rattle.gos_netcheck.proofs.cycle.from_least.Goals as goal

pub returns : goal.returns
returns c =
    let found = rw c.deref.ensures.value at c.place_of_least-place.ensures in
    turned_nets c.args.nets.items c.rotate_left.new.self.items c.place_of_least-place.result c.rotate_left.ensures.items found.within found.least
