use Rattle.std.proofs.Common.{arith, map}
use Rattle.gos_netlist.specs.Seen.{cell_of}
use Rattle.gos_sim.specs.inner.Places.{by_net}
use Rattle.gos_sim.proofs.CountingLemmas.{counts_all, counts_not, counts_one}
use Rattle.gos_sim.proofs.visits.levels_visited.Goals.{then-is_visited, else-is_visited}
use Rattle.gos_sim.proofs.visits.levels_visited.Goals as goal

pub loop-level-preserved : goal.loop-level-preserved
loop-level-preserved g c =
    let cells = map cell_of c.args.cells.now in
    let before = by_net c.args.places.now c.args.before.now in
    let values = by_net c.args.places.now c.args.values.now in
    let so_far = c.loop-level.invariant in
    elim c.if-is_visited.branch [
      | then-is_visited w ↦
          rw (w.count-is)
          (record {
            above = omega (arith, so_far.above);
            within = omega (arith, so_far.within);
            counts = counts_one c.args.levels.now cells before values c.loop-level.level c.loop-level.count (omega (arith, so_far.above)) (c.is_visited.ensures.visited w.if-is_visited.true) so_far.counts;
          })
      | else-is_visited w ↦
          rw (w.count-is)
          (record {
            above = omega (arith, so_far.above);
            within = omega (arith, so_far.within);
            counts = counts_not c.args.levels.now cells before values c.loop-level.level c.loop-level.count (c.is_visited.ensures.other w.if-is_visited.false) so_far.counts;
          })
    ]

pub returns : goal.returns
returns g c =
    counts_all c.args.levels.now (map cell_of c.args.cells.now) (by_net c.args.places.now c.args.before.now) (by_net c.args.places.now c.args.values.now) c.loop-level.level c.loop-level.count
    (omega (arith, c.loop-level-test.false)) c.loop-level.invariant.counts
