use Rattle.std.proofs.Common.{◌≡◌, ap, arith, length, map}
use Rattle.std.proofs.lemmas.List.{length-map}
use Rattle.gos_netlist.specs.Nets.{Netlist}
use Rattle.gos_netlist.specs.Seen.{number_of}
use Rattle.gos_netcheck.proofs.CountLemmas.{few_places}
use Rattle.gos_netcheck.proofs.checked.Checked.schedule.Goals as goal

pub returns-clause-few : goal.returns-clause-few
returns-clause-few c =
    let own = c.self.inside.order.items in
    let places = few_places c.self.inside.net.cells (map number_of own) c.self.invariant.1 in
    let cells : length c.self.inside.net.cells ≡ length c.args.self.now.cells = ap (λ (n : Netlist). length n.cells) c.self.view_is in
    omega (arith, places, cells, length-map own number_of, ap length c.as_slice.ensures.value)
