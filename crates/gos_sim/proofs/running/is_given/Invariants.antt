use Rattle.gos_sim.proofs.GiveLemmas.{GivesBefore}
use Rattle.gos_sim.proofs.running.is_given.Given as goal

-- the nets of the events so far have what their pulses say
abbrev pub invariant-loop-place : goal.invariant-loop-place
invariant-loop-place g l = GivesBefore l.events l.pulses l.place l.values
