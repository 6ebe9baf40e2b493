use Rattle.std.proofs.Common.{◌≡◌, map, take}
use Rattle.gos_sim.specs.Cycle.{pulse_shown}
use Rattle.gos_sim.proofs.running.show.Given as goal

-- the pulses so far are shown
abbrev pub invariant-loop-place : goal.invariant-loop-place
invariant-loop-place g l = take l.place l.pulses ≡ map (pulse_shown l.values) (take l.place l.events)
