use Rattle.gos_plan.proofs.AccountLemmas.{held_tokens, parts_fill_places}
use Rattle.gos_plan.proofs.laws.held_tokens.Goals as goal

pub returns-clause-each : goal.returns-clause-each
returns-clause-each c = held_tokens

pub returns-clause-parts : goal.returns-clause-parts
returns-clause-parts c = parts_fill_places
