use Rattle.std.proofs.Common.{ℕ}
use Rattle.gos_plan.proofs.MakeLemmas.{Judged}
use Rattle.gos_plan.proofs.plan.judge.Given as goal

-- the joints so far are right, and their ends are taken
abbrev pub invariant-loop-index : goal.invariant-loop-index
invariant-loop-index l =
    (weight : ℕ)
    → Judged (record { weight = weight; imports = l.imports; outcome = l.outcome; parts = l.parts; joints = l.joints }) l.index l.seats
