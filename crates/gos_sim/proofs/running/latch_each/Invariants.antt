use Rattle.std.proofs.Common.{◌≡◌, IsTrue, length, map}
use Rattle.gos_sim.specs.inner.Running.{KeepsOthers}
use Rattle.gos_sim.proofs.LatchLemmas.{AreTakenBefore}
use Rattle.gos_sim.proofs.running.latch_each.Given as goal

-- the registers so far have taken over
abbrev pub invariant-loop-latch : goal.invariant-loop-latch
invariant-loop-latch g l =
    record {
      taken : AreTakenBefore l.latches (map g.W.Word.number l.values) l.latch-index (map g.W.Word.number l.registers);
      held : length l.registers ≡ length l.initial.registers;
      others : KeepsOthers l.latches (map g.W.Word.number l.initial.registers) (map g.W.Word.number l.registers);
      same : IsTrue l.same → map g.W.Word.number l.registers ≡ map g.W.Word.number l.initial.registers;
    }
