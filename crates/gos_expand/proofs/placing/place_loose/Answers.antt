use Rattle.std.proofs.Common.{◌≡◌, ◌∙◌, ℕ, List, ap, subst, arith, slice_index_or, map, length}
use Rattle.gos_pool.specs.Pools.{Pool}
use Rattle.gos_plan.specs.declared.plan.End.TheVariants as ends
use Rattle.gos_plan.specs.Plans.{End, Plan}
use Rattle.gos_plan.specs.Seen.{plan_of, end_of}
use Rattle.gos_expand.specs.Blocks.{nothing, blocks}
use Rattle.gos_expand.specs.Starts.{Laying, loose_size}
use Rattle.gos_expand.specs.inner.Tokens.{Places}
use Rattle.gos_expand.specs.inner.Arrivals.{start_at}
use Rattle.gos_expand.specs.Laid.{loose_cells}
use Rattle.gos_expand.proofs.CountLemmas.{indexed_mapped}
use Rattle.gos_expand.proofs.GroupLemmas.{loose_length}
use Rattle.gos_expand.proofs.PlacingLemmas.{block_placed, block_fits}
use Rattle.gos_expand.specs.inner.Numbering.{laying_in}
use Rattle.gos_expand.proofs.placing.place_loose.Goals as goal

pub place_nothing-requires-clause-spare : goal.place_nothing-requires-clause-spare
place_nothing-requires-clause-spare c =
    let lay : Laying = laying_in c.args.numbering.now in
    let p : Plan = plan_of c.args.plan.now in
    let i : ℕ = c.loop-index.index in
    let es : List End = map end_of c.args.numbering.now.loose.items in
    let end : End = end_of (slice_index_or c.as_slice-loose.result.now i (ends.Part 0 0)) in
    let there = indexed_mapped end_of i c.as_slice-loose.result.now c.args.numbering.now.loose.items (ends.Part 0 0) c.as_slice-loose.ensures.value c.loop-index-test.true in
    let same = ap (λ (q : Pool). q.spare) c.begin-region.ensures.begun in
    let spare = c.requires.spare in
    let all = ap (λ (ds : List End). length (blocks (loose_cells p) 0 ds)) c.requires.numbered.of_loose in
    let size : length (loose_cells p i end) ≡ loose_size p 0 end = loose_length p i end in
    let bits = c.bits_at-bits.ensures p (start_at lay p) c.requires.numbered.of_arrivals in
    let fits = block_fits (loose_cells p) i 0 1 es end c.begin-region.new.self c.loop-index.pool there c.loop-index.invariant.0 (omega (arith, same, spare, all)) in
    rw bits (omega (arith, fits, size))

pub loop-index-preserved : goal.loop-index-preserved
loop-index-preserved c =
    let lay : Laying = laying_in c.args.numbering.now in
    let p : Plan = plan_of c.args.plan.now in
    let i : ℕ = c.loop-index.index in
    let es : List End = map end_of c.args.numbering.now.loose.items in
    let end : End = end_of (slice_index_or c.as_slice-loose.result.now i (ends.Part 0 0)) in
    let there = indexed_mapped end_of i c.as_slice-loose.result.now c.args.numbering.now.loose.items (ends.Part 0 0) c.as_slice-loose.ensures.value c.loop-index-test.true in
    let bits = c.bits_at-bits.ensures p (start_at lay p) c.requires.numbered.of_arrivals in (
      block_placed (loose_cells p) i 0 0 es end c.begin-region.new.self c.loop-index.pool c.place_nothing.new.pool there c.loop-index.invariant.0
          (subst (λ (w : ℕ). Places c.loop-index.pool c.place_nothing.new.pool (nothing w) 0) bits c.place_nothing.ensures.placed),
      c.place_nothing.ensures.region ∙ c.loop-index.invariant.1,
    )
