use Rattle.std.proofs.Common.{◌<◌, ℕ, List, take, length, ap, subst, arith}
use Rattle.std.proofs.lemmas.List.{length-map, length-append}
use Rattle.gos_netlist.specs.Nets.{Cell}
use Rattle.gos_plan.specs.declared.kinds.Kind.{Kind}
use Rattle.gos_plan.specs.Plans.{Plan}
use Rattle.gos_plan.specs.Seen.{plan_of, part_of}
use Rattle.gos_expand.specs.Blocks.{blocks}
use Rattle.gos_expand.specs.Gates.{part_size}
use Rattle.gos_expand.specs.Starts.{Laying, part_start}
use Rattle.gos_expand.specs.Laid.{incoming, part_cells}
use Rattle.gos_expand.proofs.GroupLemmas.{layout_length, part_length}
use Rattle.gos_expand.proofs.StandLemmas.{length_blocks}
use Rattle.gos_expand.proofs.LeafLemmas.{some_there}
use Rattle.gos_expand.proofs.PlacingLemmas.{block_placed, block_fits}
use Rattle.gos_expand.specs.inner.Numbering.{laying_in}
use Rattle.gos_expand.proofs.placing.place_parts.Goals as goal

pub place_part-requires-clause-start : goal.place_part-requires-clause-start
place_part-requires-clause-start c =
    let lay : Laying = laying_in c.args.numbering.now in
    let p : Plan = plan_of c.args.plan.now in
    let i : ℕ = c.loop-index.index in
    let so_far : List Cell = blocks (part_cells lay p) 0 (take i p.parts) in
    let size = length_blocks (part_cells lay p) (λ n k. part_size (lay.making n) k) (part_length lay p) 0 (take i p.parts) in
    let all = length-append c.args.pool.now.cells so_far in
    let cells = ap (λ (cs : List Cell). length cs) c.loop-index.invariant.cells in
    let start = c.requires.start in
    omega (arith, size, all, cells, start)

pub place_part-requires-clause-spare : goal.place_part-requires-clause-spare
place_part-requires-clause-spare c = λ k there.
    let lay : Laying = laying_in c.args.numbering.now in
    let p : Plan = plan_of c.args.plan.now in
    let i : ℕ = c.loop-index.index in
    let size = layout_length (lay.making i) k (part_start lay p i) (incoming lay p i) in
    let spare = c.requires.spare in
    let within : i < length c.args.plan.now.parts = subst (λ (ks : List Kind). i < length ks) c.parts-index-end.ensures.value c.loop-index-test.true in
    let fits = block_fits (part_cells lay p) i i (length c.args.plan.now.parts) p.parts k c.args.pool.now c.loop-index.pool there c.loop-index.invariant spare in
    omega (arith, size, within, fits)

pub loop-index-preserved : goal.loop-index-preserved
loop-index-preserved c =
    let lay : Laying = laying_in c.args.numbering.now in
    let p : Plan = plan_of c.args.plan.now in
    let i : ℕ = c.loop-index.index in
    let within : i < length c.args.plan.now.parts = subst (λ (ks : List Kind). i < length ks) c.parts-index-end.ensures.value c.loop-index-test.true in
    let counts = length-map c.args.plan.now.parts part_of in
    let found = some_there p.parts i (omega (arith, within, counts)) in
    block_placed (part_cells lay p) i i 1 p.parts found.0 c.args.pool.now c.loop-index.pool c.place_part.new.pool found.1 c.loop-index.invariant (c.place_part.ensures found.0 found.1)
