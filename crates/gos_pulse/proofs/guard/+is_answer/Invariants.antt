use Rattle.gos_pulse.proofs.guard.+is_answer.Given as goal

abbrev pub decreases-is_answer : goal.decreases-is_answer
decreases-is_answer l = l.place
