use Rattle.std.proofs.Common.{refl}
use Rattle.gos_terms.proofs.laws.function_forms.small_bodies.Goals as goal

pub returns-clause-met : goal.returns-clause-met
returns-clause-met c = λ s env. refl

pub returns-clause-missed : goal.returns-clause-missed
returns-clause-missed c = λ s env. refl
