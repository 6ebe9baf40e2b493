use Rattle.gos_terms.proofs.assignment_forms.CaseLemmas.{any_assign_case}
use Rattle.gos_terms.proofs.laws.assignment_forms.assignments_of_any_target.Goals as goal

pub returns : goal.returns
returns c = any_assign_case c.supplies_inside.ensures.realised
