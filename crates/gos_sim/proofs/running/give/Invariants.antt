use Rattle.std.proofs.Common.{◌≡◌, length}
use Rattle.gos_sim.proofs.GiveLemmas.{GivesBefore}
use Rattle.gos_sim.proofs.running.give.Given as goal

-- the pulses so far are given
abbrev pub invariant-loop-place : goal.invariant-loop-place
invariant-loop-place g l =
    record {
      given : GivesBefore l.events l.pulses l.place l.values;
      long : length l.values ≡ length l.initial.values;
    }
