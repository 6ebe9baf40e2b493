use Rattle.gos_model.proofs.ModuleLemmas.{weights, types, shared, links, link_weighs}
use Rattle.gos_model.proofs.laws.small_modules.Goals as goal

pub returns-clause-weights : goal.returns-clause-weights
returns-clause-weights c = weights

pub returns-clause-types : goal.returns-clause-types
returns-clause-types c = types

pub returns-clause-shared : goal.returns-clause-shared
returns-clause-shared c = shared

pub returns-clause-links : goal.returns-clause-links
returns-clause-links c = links

pub returns-clause-weighs : goal.returns-clause-weighs
returns-clause-weighs c = link_weighs
