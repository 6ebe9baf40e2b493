use Rattle.std.proofs.Common.{◌≡◌, length}
use Rattle.gos_sim.specs.inner.Running.{KeepsOthers}
use Rattle.gos_sim.specs.inner.Active.{Follows, IsWake}
use Rattle.gos_sim.proofs.LatchLemmas.{AreLoadedBefore}
use Rattle.gos_sim.proofs.wake.Wake.load_all.Given as goal

-- the registers so far are loaded
abbrev pub invariant-loop-latch : goal.invariant-loop-latch
invariant-loop-latch g l =
    record {
      loaded : AreLoadedBefore l.latches l.registers l.latch-index l.values;
      others : KeepsOthers l.latches l.initial.values l.values;
      long : length l.values ≡ length l.initial.values;
      follows : Follows l.initial.self l.self l.initial.values l.values;
      wake : IsWake (length l.initial.values) l.self;
    }
