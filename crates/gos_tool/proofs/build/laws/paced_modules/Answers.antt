use Rattle.gos_tool.proofs.lemmas.build.PacedLemmas.{module_keeps_pace, build_keeps_pace, build_realises, build_has_imports, build_is_typed, build_has_weight, build_is_small}
use Rattle.gos_tool.proofs.build.laws.paced_modules.Goals as goal

pub returns-clause-one : goal.returns-clause-one
returns-clause-one c = module_keeps_pace c.paced_circuits.ensures.modules

pub returns-clause-linked : goal.returns-clause-linked
returns-clause-linked c = build_keeps_pace c.paced_circuits.ensures.linked

pub returns-clause-realises : goal.returns-clause-realises
returns-clause-realises c = build_realises c.linked_modules.ensures.module

pub returns-clause-imports : goal.returns-clause-imports
returns-clause-imports c = build_has_imports c.linked_modules.ensures.module

pub returns-clause-typed : goal.returns-clause-typed
returns-clause-typed c = build_is_typed c.linked_modules.ensures.module

pub returns-clause-weight : goal.returns-clause-weight
returns-clause-weight c = build_has_weight c.linked_modules.ensures.weight

pub returns-clause-small : goal.returns-clause-small
returns-clause-small c = build_is_small c.linked_modules.ensures.module c.slim_plans_fit.ensures.small
