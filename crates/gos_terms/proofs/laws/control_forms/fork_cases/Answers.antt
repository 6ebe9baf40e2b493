use Rattle.gos_terms.proofs.control_forms.CaseLemmas.{sequence_case, choice_case, loop_case, operator_case, complement_case}
use Rattle.gos_terms.proofs.laws.control_forms.fork_cases.Goals as goal

pub returns-clause-sequence : goal.returns-clause-sequence
returns-clause-sequence c = sequence_case c.forms_are_forks.ensures.sequence c.parts_are_kept.ensures.both c.forks_realise.ensures

pub returns-clause-choice : goal.returns-clause-choice
returns-clause-choice c = choice_case c.forms_are_forks.ensures.choice c.parts_are_kept.ensures.three c.forks_realise.ensures

pub returns-clause-repeat : goal.returns-clause-repeat
returns-clause-repeat c = loop_case c.forms_are_forks.ensures.repeat c.parts_are_kept.ensures.both c.forks_realise.ensures

pub returns-clause-operator : goal.returns-clause-operator
returns-clause-operator c = operator_case c.forms_are_forks.ensures.operator c.parts_are_kept.ensures.both c.forks_realise.ensures

pub returns-clause-complement : goal.returns-clause-complement
returns-clause-complement c = complement_case c.forms_are_forks.ensures.complement c.parts_are_kept.ensures.one c.forks_realise.ensures
