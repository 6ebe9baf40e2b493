use Rattle.std.proofs.Common.{◌<◌, ◌∙◌, arith, length}
use Rattle.std.proofs.lemmas.Option.{slice_get-get_or, slice_get_within}
use Rattle.gos_sim.proofs.ReaderLemmas.{keeps_on, latches_more}
use Rattle.gos_sim.proofs.readers.Readers.add_latches.Goals as goal

pub loop-place-preserved : goal.loop-place-preserved
loop-place-preserved c =
    let known = c.loop-place.invariant in
    let old = c.loop-place.self in
    let new = c.add.new.self in
    let add = c.in_ok-add.ensures in
    let is = slice_get-get_or c.args.latches.now c.loop-place.place _ c.loop-place-test.true in
    record {
      each = add.each ∙ known.each;
      linked = λ words low linked. add.linked words (omega (arith, low, c.loop-place-test.true)) (known.linked words low linked);
      kept = keeps_on c.args.self.now old new known.kept add.kept;
      reads = latches_more old new c.args.first c.loop-place.place c.args.latches.now _ is add.kept add.reads known.reads;
    }

pub returns-clause-reads : goal.returns-clause-reads
returns-clause-reads c = λ k l at_k.
    let within : k < length c.args.latches.now = slice_get_within c.args.latches.now k l at_k in
    c.loop-place.invariant.reads k (omega arith) l at_k
