use Rattle.std.proofs.Common.{arith}
use Rattle.gos_macro.specs.Wires.{incoming_of}
use Rattle.gos_fast_share.specs.inner.Seen.{all_of}
use Rattle.gos_fast_share.specs.laws.Keeping.{thread_length}
use Rattle.gos_fast_share.proofs.row.place.Goals as goal

pub place_row-requires-clause-spare : goal.place_row-requires-clause-spare
place_row-requires-clause-spare c =
    let head = c.place_all.ensures.spare in
    let thread = c.place_thread.ensures.cells.used in
    let long = thread_length (all_of c.args.ty.now) (incoming_of c.args.wires.now) c.place_all.new.region 1 c.args.order.now in
    let spare = c.requires.spare in
    omega (arith, head, thread, long, spare)
