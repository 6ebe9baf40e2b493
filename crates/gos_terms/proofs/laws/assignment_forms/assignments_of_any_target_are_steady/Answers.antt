use Rattle.gos_terms.proofs.assignment_forms.SteadyLemmas.{any_assign_is_steady}
use Rattle.gos_terms.proofs.laws.assignment_forms.assignments_of_any_target_are_steady.Goals as goal

pub returns : goal.returns
returns c = any_assign_is_steady c.assignments.ensures c.regular_inside.ensures.inside
