use Rattle.gos_terms.proofs.function_forms.BodyWebLemmas.{applied_is_body}
use Rattle.gos_terms.proofs.laws.function_forms.bodies.Goals as goal

pub returns : goal.returns
returns c = applied_is_body
