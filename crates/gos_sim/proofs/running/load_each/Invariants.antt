use Rattle.std.proofs.Common.{◌≡◌, length, map}
use Rattle.gos_sim.specs.inner.Running.{KeepsOthers}
use Rattle.gos_sim.proofs.LatchLemmas.{AreLoadedBefore}
use Rattle.gos_sim.proofs.running.load_each.Given as goal

-- the registers so far are loaded
abbrev pub invariant-loop-latch : goal.invariant-loop-latch
invariant-loop-latch g l =
    record {
      loaded : AreLoadedBefore l.latches (map g.W.Word.number l.registers) l.latch-index (map g.W.Word.number l.values);
      long : length l.values ≡ length l.initial.values;
      others : KeepsOthers l.latches (map g.W.Word.number l.initial.values) (map g.W.Word.number l.values);
    }
