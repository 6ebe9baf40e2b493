use Rattle.std.proofs.Common.{◌<◌, arith, length, subst, sym}
use Rattle.std.proofs.lemmas.Option.{slice_get-get_or}
use Rattle.gos_sim.specs.inner.Spots.{IsAlone}
use Rattle.gos_sim.proofs.SpotLemmas.{found, run_left}
use Rattle.gos_sim.proofs.spots.alone_from.Goals as goal

pub returns : goal.returns
returns c =
    let runs = c.args.runs.now in
    let k = c.loop-place.place in
    let known = c.loop-place.invariant in
    let low : k < length runs = run_left runs k c.loop-place.left known.some in
    let is = slice_get-get_or runs k _ low in
    subst (IsAlone runs c.args.step) (sym c.one_of.ensures) (found runs k c.args.step c.loop-place.left _ is (omega (arith, c.loop-place-test.false)) known.here)
