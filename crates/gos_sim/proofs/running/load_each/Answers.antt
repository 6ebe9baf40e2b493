use Rattle.std.proofs.Common.{◌<◌, ◌∙◌, ◌+◌, ap, arith, get_or, length, map, set, subst, sym}
use Rattle.std.proofs.lemmas.List.{length-map, length-set, map-set}
use Rattle.std.proofs.lemmas.Option.{slice_get-get_or, slice_get_within}
use Rattle.gos_netlist.specs.Settling.{Numbers, at}
use Rattle.gos_sim.specs.declared.program.Latch.{Latch}
use Rattle.gos_sim.specs.inner.Program.{IsLatchWithin}
use Rattle.gos_sim.proofs.PlaceLemmas.{all_at}
use Rattle.gos_sim.proofs.SameLemmas.{number_read}
use Rattle.gos_sim.proofs.LatchLemmas.{AreLoadedBefore, kept_by_latch, loaded_more}
use Rattle.gos_sim.proofs.running.load_each.Goals as goal

pub loop-latch-preserved : goal.loop-latch-preserved
loop-latch-preserved g c =
    let known = c.loop-latch.invariant in
    let number = g.W.Word.number in
    let latches = c.args.latches.now in
    let registers = c.args.registers.now in
    let held = map number registers in
    let k = c.loop-latch.latch-index in
    let none : Latch = record { net = 0; pin = 0 } in
    let l = get_or latches k none in
    let old = c.loop-latch.values in
    let v = map number old in
    let word = c.index-registers-net.result in
    let is = slice_get-get_or latches k none c.loop-latch-test.true in
    let low = (all_at (IsLatchWithin (length c.args.values.now)) latches k l c.requires.nets is).net in
    let there = (all_at (IsLatchWithin (length registers)) latches k l c.requires.registers is).net in
    let put = map-set number old l.net word ∙ ap (set v l.net) (sym (number_read number registers l.net word there c.index-registers-net.is)) in
    record {
      loaded = subst (AreLoadedBefore latches held (k + 1)) (sym put)
          (loaded_more latches held v k l is (omega (arith, low, known.long, length-map old number)) known.loaded);
      long = length-set old l.net word ∙ known.long;
      others = λ n free. ap (λ (w : Numbers). at w n) put ∙ (kept_by_latch latches v k n _ l is free ∙ known.others n free);
    }

pub returns-clause-loaded : goal.returns-clause-loaded
returns-clause-loaded g c = λ j l at_j.
    let within : j < length c.args.latches.now = slice_get_within c.args.latches.now j l at_j in
    c.loop-latch.invariant.loaded j (omega arith) l at_j
