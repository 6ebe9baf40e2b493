use Rattle.std.proofs.Common.{◌++◌, subst, arith}
use Rattle.std.specs.Prelude.{length}
use Rattle.gos_types.specs.declared.types.Ty.{Ty}
use Rattle.gos_macro.specs.Wires.{HoldNets}
use Rattle.gos_share.specs.Share.{share_outs}
use Rattle.gos_share.specs.inner.Seen.{all_of}
use Rattle.gos_share.proofs.SharingLemmas.{few_blocks, three_times, third, numbers, three_sides}
use Rattle.gos_share.proofs.sharing.SharingMacro.outs.Goals as goal

pub fill_side-requires-clause-small : goal.fill_side-requires-clause-small
fill_side-requires-clause-small c = few_blocks c.self.inside.0.now c.self.invariant

pub fill_side-requires-2-clause-small : goal.fill_side-requires-2-clause-small
fill_side-requires-2-clause-small c = few_blocks c.self.inside.0.now c.self.invariant

pub fill_side-requires-3-clause-small : goal.fill_side-requires-3-clause-small
fill_side-requires-3-clause-small c = few_blocks c.self.inside.0.now c.self.invariant

pub fill_side-requires-clause-numbered : goal.fill_side-requires-clause-numbered
fill_side-requires-clause-numbered c = numbers c.self.inside.0.now c.args.self.now c.args.base.0 c.args.base.0 4294967295 _ c.self.view_is c.requires.numbered

pub fill_side-requires-2-clause-numbered : goal.fill_side-requires-2-clause-numbered
fill_side-requires-2-clause-numbered c = numbers c.self.inside.0.now c.args.self.now c.args.base.0 c.args.base.0 4294967295 _ c.self.view_is c.requires.numbered

pub fill_side-requires-3-clause-numbered : goal.fill_side-requires-3-clause-numbered
fill_side-requires-3-clause-numbered c = numbers c.self.inside.0.now c.args.self.now c.args.base.0 c.args.base.0 4294967295 _ c.self.view_is c.requires.numbered

pub fill_side-requires-clause-wires : goal.fill_side-requires-clause-wires
fill_side-requires-clause-wires c =
    let front = c.split_at_mut-source.ensures.front_len in
    let count = third c.self.inside.0.now c.args.self.now (length c.args.wires.now) c.self.view_is c.requires.wires in
    omega (arith, front, count)

pub fill_side-requires-2-clause-wires : goal.fill_side-requires-2-clause-wires
fill_side-requires-2-clause-wires c =
    let front = c.split_at_mut-first.ensures.front_len in
    let count = third c.self.inside.0.now c.args.self.now (length c.args.wires.now) c.self.view_is c.requires.wires in
    omega (arith, front, count)

pub fill_side-requires-3-clause-wires : goal.fill_side-requires-3-clause-wires
fill_side-requires-3-clause-wires c =
    let back = c.split_at_mut-source.ensures.back_len in
    let last = c.split_at_mut-first.ensures.back_len in
    let count = third c.self.inside.0.now c.args.self.now (length c.args.wires.now) c.self.view_is c.requires.wires in
    let all = three_times c.self.inside.0.now c.args.self.now (length c.args.wires.now) c.self.view_is c.requires.wires in
    omega (arith, back, last, count, all)

pub returns-clause-outs : goal.returns-clause-outs
returns-clause-outs c =
    subst (λ (t : Ty). HoldNets (share_outs (all_of t) c.args.base.0) (c.fill_side.new.wires ++ (c.fill_side-2.new.wires ++ c.fill_side-3.new.wires))) c.self.view_is
    (three_sides c.args.base.0 (all_of c.self.inside.0.now) c.fill_side.new.wires c.fill_side-2.new.wires c.fill_side-3.new.wires c.fill_side.ensures.outs c.fill_side-2.ensures.outs c.fill_side-3.ensures.outs)
