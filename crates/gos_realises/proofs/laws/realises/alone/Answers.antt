use Rattle.gos_realises.proofs.realises.AloneLemmas.{alone_is_itself, order_is_free}
use Rattle.gos_realises.proofs.realises.ModuleLemmas.{skip_module_is_realised}
use Rattle.gos_realises.proofs.laws.realises.alone.Goals as goal

pub returns-clause-itself : goal.returns-clause-itself
returns-clause-itself c = alone_is_itself

pub returns-clause-order : goal.returns-clause-order
returns-clause-order c = order_is_free

pub returns-clause-module : goal.returns-clause-module
returns-clause-module c = skip_module_is_realised
