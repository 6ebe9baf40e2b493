use Rattle.gos_plan.proofs.TokenBitsLemmas.{all_stay_fit, idle_fits, literals_fit}
use Rattle.gos_plan.proofs.laws.tokens_fit.Goals as goal

pub returns-clause-idle : goal.returns-clause-idle
returns-clause-idle c = idle_fits

pub returns-clause-stay : goal.returns-clause-stay
returns-clause-stay c = all_stay_fit

pub returns-clause-literals : goal.returns-clause-literals
returns-clause-literals c = literals_fit
