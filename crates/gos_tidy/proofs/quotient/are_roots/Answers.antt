use Rattle.std.proofs.Common.{map}
use Rattle.std.proofs.lemmas.Option.{slice_get-get_or}
use Rattle.gos_netlist.specs.Seen.{cell_of}
use Rattle.gos_netlist.specs.Settling.{at}
use Rattle.gos_tidy.proofs.RootLemmas.{one_more_root, all_roots}
use Rattle.gos_tidy.proofs.quotient.are_roots.Goals as goal

pub loop-place-preserved : goal.loop-place-preserved
loop-place-preserved c =
    one_more_root (map cell_of c.args.cells.now) (map cell_of c.args.others.now) (at c.args.targets.now) c.args.roots.now c.loop-place.place c.loop-place.least
    (at c.args.roots.now c.loop-place.place) c.loop-place.invariant (slice_get-get_or c.args.roots.now c.loop-place.place 0 c.loop-place-test.true)
    c.if-net-least.false (c.is_root.ensures c.if-not-is_root.false)

pub returns : goal.returns
returns c _ =
    all_roots (map cell_of c.args.cells.now) (map cell_of c.args.others.now) (at c.args.targets.now) c.args.roots.now c.loop-place.place c.loop-place.least
    c.loop-place-test.false c.loop-place.invariant
