use Rattle.gos_sim.specs.inner.Active.{Follows, IsWake, KeepsOtherEvents}
use Rattle.gos_sim.proofs.GiveLemmas.{GivesBefore}
use Rattle.gos_sim.proofs.wake.Wake.give.Given as goal
use Rattle.std.proofs.Common.{◌≡◌, length}

-- the pulses so far are given
abbrev pub invariant-loop-place : goal.invariant-loop-place
invariant-loop-place g l =
    record {
      given : GivesBefore l.events l.pulses l.place l.values;
      others : KeepsOtherEvents l.events l.initial.values l.values;
      long : length l.values ≡ length l.initial.values;
      follows : Follows l.initial.self l.self l.initial.values l.values;
      wake : IsWake (length l.initial.values) l.self;
    }
