use Rattle.std.proofs.Common.{arith, get_or, refl}
use Rattle.std.proofs.lemmas.Option.{slice_get-get_or}
use Rattle.gos_sim.specs.declared.evaluation.Kind.TheVariants as kinds
use Rattle.gos_sim.specs.declared.evaluation.Run.{Run}
use Rattle.gos_sim.proofs.SpotLemmas.{left_of, spot_more}
use Rattle.gos_sim.proofs.spots.spots_of.Goals as goal

pub overflow_add-end : goal.overflow_add-end
overflow_add-end c =
    let runs = c.args.runs.now in
    let k = c.loop-run.run in
    let r : Run = get_or runs k (record { kind = kinds.Const; width = 0; net = 0; first = 0; count = 0 }) in
    let left = left_of runs k r (slice_get-get_or runs k _ c.loop-run-test.true) in
    omega (arith, left, c.loop-run.invariant.left, c.requires.few)

pub loop-run-preserved : goal.loop-run-preserved
loop-run-preserved c =
    let runs = c.args.runs.now in
    let k = c.loop-run.run in
    let known = c.loop-run.invariant in
    record {
      spots = c.in_ok-add_spots.ensures runs known.left known.spots;
      left = spot_more runs k c.loop-run.before _ _ (slice_get-get_or runs k _ c.loop-run-test.true) refl known.left;
    }
