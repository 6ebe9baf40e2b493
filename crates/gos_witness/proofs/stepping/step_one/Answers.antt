use Rattle.std.proofs.Common.{◌∙◌, List, length, sym, ap, subst}
use Rattle.std.specs.Prelude.{IfOk}
use Rattle.gos_model.specs.Terms.{Deref, Put}
use Rattle.gos_witness.specs.declared.nodes.OnePart.{OnePart}
use Rattle.gos_witness.specs.declared.store.Entry.{Entry}
use Rattle.gos_witness.specs.NodeLists.{seen, one_term}
use Rattle.gos_witness.specs.inner.Rows.{Outcome}
use Rattle.gos_witness.proofs.StoreLemmas.{whole_after}
use Rattle.gos_witness.proofs.stepping.step_one.Goals as goal

pub returns-in-New-clause-outcome : goal.returns-in-New-clause-outcome
returns-in-New-clause-outcome c =
    let l = c.args.list.now in
    subst (λ (f : OnePart). IfOk c.begin.result (Outcome c.begin.new.list c.args.store.now.items c.begin.new.store.items (one_term l.tables f (seen l c.args.part))))
    (sym c.in-New.is) c.begin.ensures.outcome

pub returns-in-Deref-clause-outcome : goal.returns-in-Deref-clause-outcome
returns-in-Deref-clause-outcome c =
    let l = c.args.list.now in
    let s = c.args.store.now.items in
    subst (λ (f : OnePart). IfOk c.read.result (Outcome c.read.new.list s s (one_term l.tables f (seen l c.args.part)))) (sym c.in-Deref.is)
    (subst (λ (r : List Entry). IfOk c.read.result (Outcome c.read.new.list r r (Deref (seen l c.args.part)))) c.deref.ensures.value c.read.ensures.outcome)

pub returns-in-Put-clause-outcome : goal.returns-in-Put-clause-outcome
returns-in-Put-clause-outcome c =
    let l = c.args.list.now in
    let s = c.args.store.now.items in
    let new = c.write.new.store in
    let k = c.in-Put.value in
    let same = whole_after c.args.store.now.len new s (c.write.auto.store ∙ ap length c.deref_mut.ensures.value) c.args.store.now.ok.0 in
    subst (λ (r : List Entry). IfOk c.write.result (Outcome c.write.new.list s r (one_term l.tables c.args.one (seen l c.args.part)))) (sym same)
    (subst (λ (f : OnePart). IfOk c.write.result (Outcome c.write.new.list s new (one_term l.tables f (seen l c.args.part)))) (sym c.in-Put.is)
    (subst (λ (r : List Entry). IfOk c.write.result (Outcome c.write.new.list r new (Put (seen l c.args.part) k))) c.deref_mut.ensures.value c.write.ensures.outcome))

pub returns-in-NewArray-clause-outcome : goal.returns-in-NewArray-clause-outcome
returns-in-NewArray-clause-outcome c =
    let l = c.args.list.now in
    subst (λ (f : OnePart).
    IfOk c.begin_array.result (Outcome c.begin_array.new.list c.args.store.now.items c.begin_array.new.store.items (one_term l.tables f (seen l c.args.part))))
    (sym c.in-NewArray.is) c.begin_array.ensures.outcome
