use Rattle.gos_tidy.proofs.breach.chosen_change.Goals as goal

pub returns-in-None-clause-none : goal.returns-in-None-clause-none
returns-in-None-clause-none c = λ _ p. c.in-None.ensures p.0 p.1
