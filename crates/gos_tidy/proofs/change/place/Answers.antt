use Rattle.std.proofs.Common.{sym}
use Rattle.gos_tidy.proofs.PlaceLemmas.{skip_low, skip_high}
use Rattle.gos_tidy.proofs.change.place.Goals as goal

pub returns-then-net-left_out : goal.returns-then-net-left_out
returns-then-net-left_out c = sym (skip_low c.args.left_out c.args.net c.if-net-left_out.true)

pub returns-else-net-left_out : goal.returns-else-net-left_out
returns-else-net-left_out c = sym (skip_high c.args.left_out c.args.net c.if-net-left_out.false)
