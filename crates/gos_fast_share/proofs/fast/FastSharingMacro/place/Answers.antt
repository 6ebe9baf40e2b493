use Rattle.std.proofs.Common.{ap, arith}
use Rattle.std.specs.Prelude.{◌/◌, length}
use Rattle.gos_share.proofs.SharingLemmas.{few_handshakes, three_times, third}
use Rattle.gos_fast_share.specs.Made.{Made}
use Rattle.gos_fast_share.proofs.FastLemmas.{numbers, within, held_count, own_order}
use Rattle.gos_fast_share.proofs.fast.FastSharingMacro.place.Goals as goal

pub place-requires-clause-count : goal.place-requires-clause-count
place-requires-clause-count c =
    third c.self.inside.ty.now c.args.self.now.ty (length c.args.wires.now) (ap (λ (m : Made). m.ty) c.self.view_is) (held_count c.args.self.now c.args.region.now c.args.wires.now c.requires.outs)

pub place-requires-clause-few : goal.place-requires-clause-few
place-requires-clause-few c =
    let count = third c.self.inside.ty.now c.args.self.now.ty (length c.args.wires.now) (ap (λ (m : Made). m.ty) c.self.view_is) (held_count c.args.self.now c.args.region.now c.args.wires.now c.requires.outs) in
    let few = few_handshakes c.self.inside.ty.now c.self.invariant.0 in
    omega (arith, count, few)

pub place-requires-clause-own : goal.place-requires-clause-own
place-requires-clause-own c =
    own_order _ (length c.args.wires.now / 3) c.self.invariant
    (third c.self.inside.ty.now c.args.self.now.ty (length c.args.wires.now) (ap (λ (m : Made). m.ty) c.self.view_is) (held_count c.args.self.now c.args.region.now c.args.wires.now c.requires.outs))

pub place-requires-clause-wires : goal.place-requires-clause-wires
place-requires-clause-wires c =
    let there = held_count c.args.self.now c.args.region.now c.args.wires.now c.requires.outs in
    let same = ap (λ (m : Made). m.ty) c.self.view_is in
    let count = third c.self.inside.ty.now c.args.self.now.ty (length c.args.wires.now) same there in
    let all = three_times c.self.inside.ty.now c.args.self.now.ty (length c.args.wires.now) same there in
    omega (arith, count, all)

pub place-requires-clause-spare : goal.place-requires-clause-spare
place-requires-clause-spare c = within _ c.args.self.now c.args.region.now c.args.pool.now.spare _ c.self.view_is c.requires.spare

pub place-requires-clause-numbered : goal.place-requires-clause-numbered
place-requires-clause-numbered c =
    numbers _ c.args.self.now c.args.region.now c.args.region.now 4294967295 _ c.self.view_is c.requires.numbered
