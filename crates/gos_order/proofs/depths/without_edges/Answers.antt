use Rattle.std.proofs.Common.{arith, ◌+◌, sym, ◌∙◌, subst, ap}
use Rattle.gos_order.specs.inner.NodeLists.{NodeList}
use Rattle.gos_order.proofs.ReadyLemmas.{AreReady, ready_none, ready_put, ready_same}
use Rattle.gos_order.proofs.depths.without_edges.Goals.{then-waits-node-eq0, else-waits-node-eq0}
use Rattle.gos_order.proofs.depths.without_edges.Goals as goal

pub loop-node-init : goal.loop-node-init
loop-node-init c = record {
  bound = ap (λ (nodes : NodeList). nodes.bound) c.in_ok-ready.ensures;
  are = subst (λ (nodes : NodeList). AreReady c.args.waits.now nodes.items 0) (sym c.in_ok-ready.ensures) (ready_none c.args.waits.now);
}

pub put-requires-clause-absent : goal.put-requires-clause-absent
put-requires-clause-absent c = λ here. omega (arith, c.loop-node.invariant.are.before c.loop-node.node here)

pub loop-node-preserved : goal.loop-node-preserved
loop-node-preserved c =
    let waits = c.args.waits.now in
    let node = c.loop-node.node in
    let kept = c.loop-node.invariant in
    elim c.if-waits-node-eq0.branch [
      | then-waits-node-eq0 w ↦
          let now = w.ready-is ∙ w.put.ensures in
          record {
            bound = ap (λ (nodes : NodeList). nodes.bound) now ∙ kept.bound;
            are = subst (λ (nodes : NodeList). AreReady waits nodes.items (node + 1)) (sym now)
                (ready_put waits c.loop-node.ready.items node kept.are w.if-waits-node-eq0.true);
          }
      | else-waits-node-eq0 w ↦ record {
        bound = ap (λ (nodes : NodeList). nodes.bound) w.ready-is ∙ kept.bound;
        are = subst (λ (nodes : NodeList). AreReady waits nodes.items (node + 1)) (sym w.ready-is)
            (ready_same waits c.loop-node.ready.items node kept.are w.if-waits-node-eq0.false);
      }
    ]
