use Rattle.gos_model.proofs.ArrayLemmas.{length_is_power, four_answers, four_has_type, four_weighs, three_has_no_type, nested_has_no_type}
use Rattle.gos_model.proofs.laws.small_arrays.Goals as goal

pub returns-clause-length : goal.returns-clause-length
returns-clause-length c = length_is_power

pub returns-clause-answers : goal.returns-clause-answers
returns-clause-answers c = four_answers

pub returns-clause-ty : goal.returns-clause-ty
returns-clause-ty c = four_has_type

pub returns-clause-weight : goal.returns-clause-weight
returns-clause-weight c = four_weighs

pub returns-clause-three : goal.returns-clause-three
returns-clause-three c = three_has_no_type

pub returns-clause-nested : goal.returns-clause-nested
returns-clause-nested c = nested_has_no_type
