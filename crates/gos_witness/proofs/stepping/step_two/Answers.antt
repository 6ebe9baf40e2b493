use Rattle.std.proofs.Common.{sym, ap, subst, ◌∙◌}
use Rattle.gos_model.specs.Terms.{Term}
use Rattle.gos_witness.specs.declared.nodes.TwoParts.{TwoParts}
use Rattle.gos_witness.specs.NodeLists.{seen, two_term}
use Rattle.gos_witness.specs.inner.Rows.{Outcome}
use Rattle.gos_witness.proofs.stepping.step_two.Goals as goal

pub returns-in-Seq-clause-outcome : goal.returns-in-Seq-clause-outcome
returns-in-Seq-clause-outcome c = λ s.
    let l = c.args.list.now in
    let is = c.requires.is ∙ ap (λ (f : TwoParts). two_term f (seen l c.args.first) (seen l c.args.second)) c.in-Seq.is in
    subst (λ (m : Term). Outcome l s s m c.after_skip.result) (sym is) (c.after_skip.ensures s)

pub returns-in-Par-clause-outcome : goal.returns-in-Par-clause-outcome
returns-in-Par-clause-outcome c = λ s.
    let l = c.args.list.now in
    let is = c.requires.is ∙ ap (λ (f : TwoParts). two_term f (seen l c.args.first) (seen l c.args.second)) c.in-Par.is in
    subst (λ (m : Term). Outcome l s s m c.both_skip.result) (sym is) (c.both_skip.ensures s)
