use Rattle.std.proofs.Common.{◌∙◌}
use Rattle.std.specs.Option.{option_copied}
use Rattle.gos_plan.specs.Seen.{part_of}
use Rattle.gos_expand.specs.inner.Orders.{making_of}
use Rattle.gos_expand.proofs.PassageLemmas.{passes_from_more}
use Rattle.gos_expand.proofs.choosing.add_part.Goals as goal

pub loop-from-preserved : goal.loop-from-preserved
loop-from-preserved c = (
  passes_from_more c.args.directions c.args.table.now (making_of (option_copied c.args.order)) (part_of c.args.kind.now) c.args.part c.loop-from.from c.args.graph.now.edges
      c.loop-from.graph.edges c.add_passages.new.graph.edges c.loop-from.invariant.0 c.in_ok-add_passages.ensures.added,
  c.add_passages.ensures.nodes ∙ c.loop-from.invariant.1,
  c.add_passages.ensures.across,
)
