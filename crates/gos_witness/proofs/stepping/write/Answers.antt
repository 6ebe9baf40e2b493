use Rattle.gos_model.proofs.StoreLemmas.{absent_is_not_written}
use Rattle.gos_witness.specs.NodeLists.{seen}
use Rattle.gos_witness.specs.inner.Rows.{entries_of}
use Rattle.gos_witness.proofs.AccessLemmas.{writes}
use Rattle.gos_witness.proofs.stepping.write.Goals as goal

pub returns-in_default-clause-outcome : goal.returns-in_default-clause-outcome
returns-in_default-clause-outcome c = λ r t h. let does = h.0 in c.in_default.ensures does.0.place does.1 does.3

pub returns-in_default-number_in-clause-outcome : goal.returns-in_default-number_in-clause-outcome
returns-in_default-number_in-clause-outcome c = λ r t h.
    let at = c.in-Some.at in
    absent_is_not_written (entries_of c.args.store.now) r (seen c.args.list.now c.args.variable) t at.place at.index c.args.value c.in-Some.ensures
    c.in_default-number_in.ensures.number h.0

pub returns-clause-outcome : goal.returns-clause-outcome
returns-clause-outcome c =
    let at = c.in-Some.at in
    let l = c.push.new.self in (
      c.in_ok-next.ensures.there,
      writes (entries_of c.args.store.now) (seen c.args.list.now c.args.variable) (seen l c.in_ok-next.next) at.place at.index c.in-Some-number_in.field-0
          c.in-Some.ensures c.in-Some-number_in.ensures.number (entries_of c.put.new.store) c.args.value c.in_ok-next.ensures.term c.put.ensures.put,
    )
