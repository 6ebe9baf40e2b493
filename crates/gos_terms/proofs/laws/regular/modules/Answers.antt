use Rattle.gos_terms.proofs.regular.NamedModuleLemmas.{module_is_regular}
use Rattle.gos_terms.proofs.laws.regular.modules.Goals as goal

pub returns : goal.returns
returns c = module_is_regular c.names.ensures.there c.names.ensures.regular c.rests.ensures.name
