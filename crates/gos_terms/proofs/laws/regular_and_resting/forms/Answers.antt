use Rattle.gos_terms.proofs.regular_and_resting.FormLemmas.{sequence_is_steady, choice_is_steady, loop_is_steady, operator_is_steady, complement_is_steady}
use Rattle.gos_terms.proofs.laws.regular_and_resting.forms.Goals as goal

pub returns-clause-sequence : goal.returns-clause-sequence
returns-clause-sequence c = sequence_is_steady c.forms_are_forks.ensures.sequence c.parts_are_kept.ensures.both c.forks.ensures

pub returns-clause-choice : goal.returns-clause-choice
returns-clause-choice c = choice_is_steady c.forms_are_forks.ensures.choice c.parts_are_kept.ensures.three c.forks.ensures

pub returns-clause-repeat : goal.returns-clause-repeat
returns-clause-repeat c = loop_is_steady c.forms_are_forks.ensures.repeat c.parts_are_kept.ensures.both c.forks.ensures

pub returns-clause-operator : goal.returns-clause-operator
returns-clause-operator c = operator_is_steady c.forms_are_forks.ensures.operator c.parts_are_kept.ensures.both c.forks.ensures

pub returns-clause-complement : goal.returns-clause-complement
returns-clause-complement c = complement_is_steady c.forms_are_forks.ensures.complement c.parts_are_kept.ensures.one c.forks.ensures
