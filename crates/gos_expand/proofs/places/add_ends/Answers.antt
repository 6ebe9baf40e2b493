use Rattle.std.proofs.Common.{ap, map, ◌∙◌}
use Rattle.gos_plan.specs.Seen.{end_of}
use Rattle.gos_expand.specs.inner.Numbering.{end_at}
use Rattle.gos_expand.proofs.PlaceLemmas.{ends_added}
use Rattle.gos_expand.proofs.places.add_ends.Goals as goal

pub loop-shake-preserved : goal.loop-shake-preserved
loop-shake-preserved c =
    ap (map end_of) c.in_ok-push.ensures.items
    ∙ ends_added (end_at c.args.place) (map end_of c.args.ends.now.items) c.loop-shake.shake c.loop-shake.ends.items c.end.result c.loop-shake.invariant c.end.ensures
