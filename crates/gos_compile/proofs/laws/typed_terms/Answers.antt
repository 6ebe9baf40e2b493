use Rattle.gos_compile.proofs.TypedLemmas.{checked_is_typed, skip_is_typed, skip_is_no_expression}
use Rattle.gos_compile.proofs.laws.typed_terms.Goals as goal

pub returns-clause-checked : goal.returns-clause-checked
returns-clause-checked c = checked_is_typed c.types_of_terms.ensures.node

pub returns-clause-met : goal.returns-clause-met
returns-clause-met c = skip_is_typed

pub returns-clause-missed : goal.returns-clause-missed
returns-clause-missed c = skip_is_no_expression
