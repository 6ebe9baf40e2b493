use Rattle.std.proofs.Common.{map, get_or}
use Rattle.std.proofs.lemmas.Option.{slice_get-get_or}
use Rattle.gos_netlist.specs.Seen.{cell_of}
use Rattle.gos_netcheck.proofs.RuleLemmas.{get_mapped}
use Rattle.gos_tidy.proofs.PartLemmas.{placed_step}
use Rattle.gos_tidy.proofs.drop.placed.Goals as goal

pub loop-place-preserved : goal.loop-place-preserved
loop-place-preserved c =
    let p = get_or c.args.places.now c.loop-place.place-index 0 in
    placed_step (map cell_of c.args.cells.now) c.loop-place.left.items _ _ c.args.numbers.now c.args.places.now c.loop-place.place-index p
    (cell_of (get_or c.args.cells.now p _)) c.loop-place.invariant c.in_ok-push.ensures.items
    (slice_get-get_or c.args.places.now c.loop-place.place-index 0 c.loop-place-test.true)
    (get_mapped cell_of c.args.cells.now p _ (c.requires c.loop-place.place-index 0 c.loop-place-test.true)) c.renamed_cell.ensures
