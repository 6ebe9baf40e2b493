use Rattle.std.proofs.Common.{◌<◌, length, arith, get_or}
use Rattle.std.proofs.lemmas.List.{get_or_default}
use Rattle.std.proofs.lemmas.List.Edits.{map_over_more}
use Rattle.gos_check.specs.declared.linear.Split.{Split}
use Rattle.gos_check.specs.Numbering.{exchanged, renamed_split}
use Rattle.gos_check.proofs.renaming.exchange_splits.Goals as goal

pub loop-split-preserved : goal.loop-split-preserved
loop-split-preserved c =
    let within : c.loop-split.split-index < length c.args.splits.now = c.loop-split-test.true in
    let here : c.loop-split.split-index < length c.loop-split.splits = omega (arith, within, c.loop-split.auto.splits) in
    let split : Split = get_or c.loop-split.splits c.loop-split.split-index (record { of = 0; left = 0; right = 0 }) in
    rw c.exchanged_split.ensures
    (map_over_more (renamed_split (exchanged c.args.a c.args.b)) c.args.splits.now c.loop-split.splits c.loop-split.split-index split within
    c.loop-split.invariant (get_or_default c.loop-split.splits c.loop-split.split-index _ split here))
