use Rattle.gos_terms.proofs.laws.meanings.small_meanings.Goals as goal

pub returns-clause-met : goal.returns-clause-met
returns-clause-met c t = tt

pub returns-clause-missed : goal.returns-clause-missed
returns-clause-missed c t n h = h
