use Rattle.gos_terms.proofs.meanings.BodyLemmas.{body_is_instantiated}
use Rattle.gos_terms.proofs.meanings.SuppliedLemmas.{module_is_supplied}
use Rattle.gos_terms.proofs.laws.meanings.meanings.Goals as goal

pub returns-clause-body : goal.returns-clause-body
returns-clause-body c = body_is_instantiated

pub returns-clause-module : goal.returns-clause-module
returns-clause-module c = module_is_supplied
