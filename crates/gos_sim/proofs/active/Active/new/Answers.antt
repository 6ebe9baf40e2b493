use Rattle.std.proofs.Common.{List, ◌+◌, ◌<◌, ◌≡◌, ◌/◌, All, arith, length, rules, subst, sym}
use Rattle.std.proofs.lemmas.List.Elements.{All-nil}
use Rattle.gos_sim.specs.declared.program.Latch.{Latch}
use Rattle.gos_sim.specs.inner.Program.{HasLatch}
use Rattle.gos_sim.specs.inner.Readers.{ReadAll}
use Rattle.gos_sim.proofs.active.Active.new.Goals as goal

pub returns-clause-awake : goal.returns-clause-awake
returns-clause-awake c =
    let steps = c.args.machine.now.program in
    let latches = c.args.machine.now.latches.items in
    let readers = c.in_ok-readers.readers in
    let many : c.len.result ≡ length steps = search rules in
    let more : c.len-2.result ≡ length c.args.machine.now.latches.items = search rules in
    let words : length c.in_ok-marks.marks.words.items ≡ (length steps + length latches) / 64 + 1 = omega (arith, c.in_ok-marks.ensures.each, many, more) in
    let low : (length steps + length c.deref.result.now) / 64 < length c.in_ok-marks.marks.words.items =
    subst (λ (ls : List Latch). (length steps + length ls) / 64 < length c.in_ok-marks.marks.words.items) (sym c.deref.ensures.value) (omega (arith, words)) in
    record {
      wake = record {
        each = c.in_ok-readers.ensures.each;
        linked = c.in_ok-readers.ensures.linked (length c.in_ok-marks.marks.words.items) low;
        few = omega (arith, words, c.requires.few);
        within = subst (All (λ p. p < c.args.count)) (sym c.in_ok-touched.ensures.none) (All-nil (λ p. p < c.args.count));
      };
      reading = subst (λ (ls : List Latch). ReadAll steps ls readers) c.deref.ensures.value c.in_ok-readers.ensures.reading;
      unmarked = c.in_ok-marks.ensures.none;
      noted = subst (All (HasLatch latches)) (sym c.in_ok-changed.ensures.none) (All-nil (HasLatch latches));
    }
