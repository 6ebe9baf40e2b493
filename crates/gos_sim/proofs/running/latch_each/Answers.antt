use Rattle.std.proofs.Common.{◌<◌, ◌≡◌, ◌∙◌, ap, arith, length, map, rules, subst, sym}
use Rattle.std.proofs.lemmas.List.{length-map}
use Rattle.std.proofs.lemmas.Option.{slice_get-get_or, slice_get_within}
use Rattle.gos_netlist.specs.Settling.{Numbers, at}
use Rattle.gos_sim.specs.inner.Program.{IsLatchWithin}
use Rattle.gos_sim.proofs.PlaceLemmas.{all_at}
use Rattle.gos_sim.proofs.LatchLemmas.{AreTakenBefore, kept_by_latch, taken_more}
use Rattle.gos_sim.proofs.running.latch_each.Goals as goal

pub loop-latch-preserved : goal.loop-latch-preserved
loop-latch-preserved g c =
    let known = c.loop-latch.invariant in
    let latches = c.args.latches.now in
    let values = map g.W.Word.number c.args.values.now in
    let k = c.loop-latch.latch-index in
    let old = map g.W.Word.number c.loop-latch.registers in
    let is = slice_get-get_or latches k _ c.loop-latch-test.true in
    let low = (all_at (IsLatchWithin (length c.args.registers.now)) latches k _ c.requires.nets is).net in
    let took = c.take_over-kept.ensures in
    let held : length c.take_over-kept.new.registers ≡ length c.loop-latch.registers = omega arith in
    record {
      taken = subst (AreTakenBefore latches values _) (sym took.taken)
          (taken_more latches values old k _ c.requires.one is (omega (arith, low, known.held, length-map c.loop-latch.registers g.W.Word.number)) known.taken);
      held = held ∙ known.held;
      others = λ n free. ap (λ (w : Numbers). at w n) took.taken ∙ (kept_by_latch latches old k n _ _ is free ∙ known.others n free);
      same = search rules;
    }

pub returns-clause-taken : goal.returns-clause-taken
returns-clause-taken g c = λ j l at_j.
    let within : j < length c.args.latches.now = slice_get_within c.args.latches.now j l at_j in
    c.loop-latch.invariant.taken j (omega arith) l at_j
