use Rattle.std.proofs.Common.{◌≡◌, ◌+◌, sym, subst, ◌∙◌}
use Rattle.std.specs.Option.{option_copied}
use Rattle.gos_order.specs.Rings.{Graph}
use Rattle.gos_expand.specs.inner.Orders.{making_of}
use Rattle.gos_plan.specs.Seen.{part_of}
use Rattle.gos_expand.specs.inner.Choosing.{GoAcross, Adds, PassesTo}
use Rattle.gos_expand.proofs.PassageLemmas.{with_passage, without_passage}
use Rattle.gos_expand.proofs.choosing.add_passages.Goals as goal
use Rattle.gos_expand.proofs.choosing.add_passages.Goals.{then-passes+in_ok-add_passage, else-passes}

pub loop-to-preserved : goal.loop-to-preserved
loop-to-preserved c =
    elim c.if-passes.branch [
      | then-passes+in_ok-add_passage w ↦ subst
          (λ (g : Graph).
          Adds (PassesTo c.args.directions c.args.table.now (making_of (option_copied c.args.order)) (part_of c.args.kind.now) c.args.part c.args.from (c.loop-to.to + 1)) c.args.graph.now.edges g.edges
          × (g.nodes ≡ c.args.graph.now.nodes)
          × GoAcross c.args.directions g.edges)
          (sym w.graph-is) (
            with_passage c.args.directions c.args.table.now (making_of (option_copied c.args.order)) (part_of c.args.kind.now) c.args.part c.args.from c.loop-to.to c.args.graph.now.edges
                c.loop-to.graph.edges w.add_passage.new.graph.edges (sym c.passes.ensures ∙ w.if-passes.true) c.loop-to.invariant.0
                w.in_ok-add_passage.ensures.added,
            w.add_passage.ensures.nodes ∙ c.loop-to.invariant.1,
            w.add_passage.ensures.across,
          )
      | else-passes w ↦ subst
          (λ (g : Graph).
          Adds (PassesTo c.args.directions c.args.table.now (making_of (option_copied c.args.order)) (part_of c.args.kind.now) c.args.part c.args.from (c.loop-to.to + 1)) c.args.graph.now.edges g.edges
          × (g.nodes ≡ c.args.graph.now.nodes)
          × GoAcross c.args.directions g.edges)
          (sym w.graph-is) (
            without_passage c.args.directions c.args.table.now (making_of (option_copied c.args.order)) (part_of c.args.kind.now) c.args.part c.args.from c.loop-to.to c.args.graph.now.edges
                c.loop-to.graph.edges (sym c.passes.ensures ∙ w.if-passes.false) c.loop-to.invariant.0,
            c.loop-to.invariant.1,
            c.loop-to.invariant.2,
          )
    ]
