-- The two sides of an assignment are stages of a write, so it is regular and rests.
use Rattle.std.proofs.Common.{sym, subst}
use Rattle.gos_types.specs.Types.{IsDone}
use Rattle.gos_nodes.proofs.assignments.AssignLemmas.{write_is_regular}
use Rattle.gos_nodes.proofs.assignments.SideLemmas.{sides, is_write, are_restful}
use Rattle.gos_terms.specs.regular_and_resting.Assignments.{AssignmentIsSteady}
use Rattle.gos_terms.proofs.regular_and_resting.RestLemmas.{rests_where_restful}
use Rattle.gos_terms.proofs.regular_and_resting.SideLemmas.{number_is_steady, variable_is_steady}

pub assignment_is_steady : AssignmentIsSteady
assignment_is_steady r d w number variable p whole is_number number_regular number_rests right is_variable variable_regular variable_rests =
    let asked = number_is_steady w number.plan is_number number_regular number_rests in
    let written = variable_is_steady w p right is_variable variable_regular variable_rests in
    let (regular, restful) =
    write_is_regular r d w (sides number variable) (is_write r d w number variable p whole is_number asked right is_variable variable_regular written)
    (are_restful r d w number variable p whole is_number asked right is_variable variable_regular written) in
    (regular, rests_where_restful r (subst IsDone (sym whole.outcome) tt) regular restful)
