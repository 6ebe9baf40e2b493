use Rattle.std.proofs.Common.{List, ap, ◌∙◌, arith}
use Rattle.std.specs.Prelude.{length}
use Rattle.std.proofs.lemmas.List.{length-set}
use Rattle.std.proofs.Math.Seq.{map-set_same}
use Rattle.gos_plan.specs.Kinds.{Contact}
use Rattle.gos_macro.specs.Wires.{nets_in}
use Rattle.gos_fast_share.specs.inner.Seen.{outgoing_of, blocks_size}
use Rattle.gos_fast_share.proofs.SideLemmas.{one_more, all_held}
use Rattle.gos_fast_share.proofs.sides.fill_side.Goals as goal

pub loop-j-preserved : goal.loop-j-preserved
loop-j-preserved c =
    let there = c.in-Some.ensures in
    let inv = c.loop-j.invariant in
    let long = ap (λ (ks : List Contact). length ks) there in
    let size = ap blocks_size there in
    let i2 = inv.2 in
    let i3 = inv.3 in
    let i4 = inv.4 in
    let block = c.size-at.ensures.size in
    let low = c.loop-j-test.true in
    let same = length-set c.loop-j.wires c.loop-j.j c.filled.result in
    let held = one_more c.args.side c.args.base c.args.start c.loop-j.at c.loop-j.j c.args.ty.now c.in-Some.shared c.loop-j.wires c.filled.result
    (outgoing_of c.args.base c.out.result) there c.filled.ensures.nets (c.out.ensures.nets c.args.base) (omega (arith, low, i2)) inv.0 in (
      rw block held,
      map-set_same nets_in c.loop-j.wires c.loop-j.j c.filled.result _ c.filled.ensures.rest ∙ inv.1,
      omega (arith, same, i2),
      omega (arith, i3, long),
      omega (arith, i4, size, block),
    )

pub returns-clause-outs : goal.returns-clause-outs
returns-clause-outs c =
    let inv = c.loop-j.invariant in
    let past = c.loop-j-test.false in
    let wires = c.requires.wires in
    let i2 = inv.2 in
    let i3 = inv.3 in
    all_held c.args.side c.args.base c.args.start c.loop-j.at c.loop-j.j c.args.ty.now c.loop-j.wires (omega (arith, past, i2)) i3 (omega (arith, i2, wires)) inv.0
