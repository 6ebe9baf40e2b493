use Rattle.std.proofs.Common.{arith}
use Rattle.std.specs.Prelude.{length}
use Rattle.gos_share.proofs.SharingLemmas.{few_handshakes, three_times, third, numbers, within, held_count}
use Rattle.gos_share.proofs.sharing.SharingMacro.place.Goals as goal

pub place-requires-clause-count : goal.place-requires-clause-count
place-requires-clause-count c =
    third c.self.inside.0.now c.args.self.now (length c.args.wires.now) c.self.view_is (held_count c.args.self.now c.args.region.now c.args.wires.now c.requires.outs)

pub place-requires-clause-few : goal.place-requires-clause-few
place-requires-clause-few c =
    let count = third c.self.inside.0.now c.args.self.now (length c.args.wires.now) c.self.view_is (held_count c.args.self.now c.args.region.now c.args.wires.now c.requires.outs) in
    let few = few_handshakes c.self.inside.0.now c.self.invariant in
    omega (arith, count, few)

pub place-requires-clause-wires : goal.place-requires-clause-wires
place-requires-clause-wires c =
    let there = held_count c.args.self.now c.args.region.now c.args.wires.now c.requires.outs in
    let count = third c.self.inside.0.now c.args.self.now (length c.args.wires.now) c.self.view_is there in
    let all = three_times c.self.inside.0.now c.args.self.now (length c.args.wires.now) c.self.view_is there in
    omega (arith, count, all)

pub place-requires-clause-spare : goal.place-requires-clause-spare
place-requires-clause-spare c =
    within c.self.inside.0.now c.args.self.now c.args.region.now c.args.pool.now.spare _ c.self.view_is c.requires.spare

pub place-requires-clause-numbered : goal.place-requires-clause-numbered
place-requires-clause-numbered c =
    numbers c.self.inside.0.now c.args.self.now c.args.region.now c.args.region.now 4294967295 _ c.self.view_is c.requires.numbered
