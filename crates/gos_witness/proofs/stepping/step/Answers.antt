use Rattle.std.proofs.Common.{sym, ap, subst, ◌∙◌}
use Rattle.gos_model.specs.Terms.{Term}
use Rattle.gos_witness.specs.declared.nodes.Form.{Form}
use Rattle.gos_witness.specs.NodeLists.{shape}
use Rattle.gos_witness.specs.inner.Rows.{Outcome}
use Rattle.gos_witness.proofs.stepping.step.Goals as goal

pub returns-in-If-clause-outcome : goal.returns-in-If-clause-outcome
returns-in-If-clause-outcome c =
    let l = c.args.list.now in
    let s = c.args.store.now.items in
    let is = c.node.ensures.right.term ∙ ap (λ (f : Form). shape l f) c.in-If.is in
    subst (λ (m : Term). Outcome l s s m c.choice.result) (sym is) (c.choice.ensures s)
