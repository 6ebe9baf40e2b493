use Rattle.std.proofs.Common.{List, ℕ, ◌≡◌, ◌≢◌, ◌∙◌, All, ap, arith, length, map, subst, sym}
use Rattle.std.proofs.lemmas.List.Elements.{All-nil}
use Rattle.gos_sim.specs.declared.program.Latch.{Latch}
use Rattle.gos_sim.specs.Cycle.{pulse_shown}
use Rattle.gos_sim.specs.inner.Running.{AreTaken, KeepsOthers}
use Rattle.gos_sim.specs.inner.Active.{IsWake}
use Rattle.gos_sim.proofs.active.Active.run.Goals as goal

pub returns-then-sweep-clause-run : goal.returns-then-sweep-clause-run
returns-then-sweep-clause-run g c =
    let begun = c.begin.ensures.begun in
    let swept = c.sweep.ensures.swept c.args.values.now c.begin.new.values c.args.registers.now c.begin.ensures.swept in
    record {
      settles = record {
        first = begun.first;
        loaded = c.begin.new.values;
        pulses = begun.pulses;
        registers = begun.registers;
        others = begun.others;
        evaluated = c.sweep.ensures.shown c.if-sweep.true;
        sources = swept.others;
      };
      shows = c.show.ensures ∙ ap (map (pulse_shown c.sweep.new.values)) c.deref.ensures.value;
      taken = c.sweep.ensures.taken c.if-sweep.true;
      rest = swept.rest;
    }

pub returns-then-sweep-clause-still : goal.returns-then-sweep-clause-still
returns-then-sweep-clause-still g c = λ none.
    let swept = c.sweep.ensures.swept c.args.values.now c.begin.new.values c.args.registers.now c.begin.ensures.swept in
    record {
      registers = λ j l at_j. swept.unchanged j l at_j
          (c.is_empty.ensures.full none, subst (All (λ p. p ≢ l.net)) (sym (c.is_empty.ensures.none none)) (All-nil (λ p. p ≢ l.net)));
      evaluated = c.sweep.ensures.shown c.if-sweep.true;
      taken = c.sweep.ensures.taken c.if-sweep.true;
    }

pub returns-then-sweep-clause-awake : goal.returns-then-sweep-clause-awake
returns-then-sweep-clause-awake g c =
    let swept = c.sweep.ensures.swept c.args.values.now c.begin.new.values c.args.registers.now c.begin.ensures.swept in
    let same : length c.begin.new.values ≡ length c.args.values.now = omega arith in
    record {
      wake = subst (λ (n : ℕ). IsWake n c.sweep.new.self.wake) same c.sweep.ensures.wake;
      reading = c.sweep.ensures.reading;
      unmarked = c.sweep.ensures.unmarked c.if-sweep.true;
      noted = swept.listed;
    }

pub returns-then-sweep-clause-settled : goal.returns-then-sweep-clause-settled
returns-then-sweep-clause-settled g c =
    record {
      shown = c.sweep.ensures.shown c.if-sweep.true;
      taken = c.sweep.ensures.taken c.if-sweep.true;
      unchanged = (c.sweep.ensures.swept c.args.values.now c.begin.new.values c.args.registers.now c.begin.ensures.swept).unchanged;
    }

pub returns-then-sweep-clause-noted : goal.returns-then-sweep-clause-noted
returns-then-sweep-clause-noted g c =
    (c.sweep.ensures.swept c.args.values.now c.begin.new.values c.args.registers.now c.begin.ensures.swept).noted

pub returns-clause-run : goal.returns-clause-run
returns-clause-run g c =
    let begun = c.begin.ensures.begun in
    let swept = c.sweep.ensures.swept c.args.values.now c.begin.new.values c.args.registers.now c.begin.ensures.swept in
    let values = c.evaluate.new.values in
    let rest = subst (λ (ls : List Latch). KeepsOthers ls c.sweep.new.registers c.latch.new.registers) c.deref-3.ensures.value c.latch.ensures.others in
    record {
      settles = record {
        first = begun.first;
        loaded = c.begin.new.values;
        pulses = begun.pulses;
        registers = begun.registers;
        others = begun.others;
        evaluated = c.evaluate.ensures.shown;
        sources = λ n free. c.evaluate.ensures.others n free ∙ swept.others n free;
      };
      shows = c.show-2.ensures ∙ ap (map (pulse_shown values)) c.deref-2.ensures.value;
      taken = subst (λ (ls : List Latch). AreTaken ls values c.latch.new.registers) c.deref-3.ensures.value c.latch.ensures.taken;
      rest = λ n free. rest n free ∙ swept.rest n free;
    }
