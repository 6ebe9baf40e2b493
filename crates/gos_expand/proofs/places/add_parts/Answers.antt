use Rattle.std.proofs.Common.{ℕ, map}
use Rattle.gos_plan.specs.Seen.{end_of, part_of}
use Rattle.gos_expand.proofs.BlockLemmas.{item_mapped}
use Rattle.gos_expand.proofs.PlaceLemmas.{part_added}
use Rattle.gos_expand.proofs.places.add_parts.Goals as goal

pub loop-index-preserved : goal.loop-index-preserved
loop-index-preserved c =
    let i : ℕ = c.loop-index.index in
    let there = item_mapped part_of i c.parts-parts.result.now c.args.plan.now.parts c.index-parts-index.result c.parts-parts.ensures.value c.loop-index-test.true c.index-parts-index.is in
    part_added i c.shakes.result (map part_of c.args.plan.now.parts) (part_of c.index-parts-index.result) (map end_of c.loop-index.ends.items) (map end_of c.add_ends.new.ends.items) (map end_of c.args.ends.now.items) there
    c.shakes.ensures.is c.loop-index.invariant c.in_ok-add_ends.ensures
