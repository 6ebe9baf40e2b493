use Rattle.gos_terms.proofs.wired.LinearLemmas.{body_is_linear, part_is_linear, parts_are_linear, choices_are_linear}
use Rattle.gos_terms.proofs.laws.wired.linear_parts.Goals as goal

pub returns-clause-body : goal.returns-clause-body
returns-clause-body c = body_is_linear

pub returns-clause-one : goal.returns-clause-one
returns-clause-one c = part_is_linear

pub returns-clause-two : goal.returns-clause-two
returns-clause-two c = parts_are_linear

pub returns-clause-three : goal.returns-clause-three
returns-clause-three c = choices_are_linear
