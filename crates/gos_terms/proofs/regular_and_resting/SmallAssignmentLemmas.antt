-- The plan of `x := 8:1` is an open assignment, and what is none.
use Rattle.std.specs.Prelude.{length}
use Rattle.std.proofs.Common.{◌≡◌, ℕ, Some, ap, arith}
use Rattle.gos_plan.specs.Kinds.{Assign}
use Rattle.gos_plan.specs.Plans.{Plan}
use Rattle.gos_nodes.specs.assign_part.SmallWrites.{write_plan, one_plan}
use Rattle.gos_nodes.specs.assignments.SmallWrites.{x_written, number_stage, variable_stage}
use Rattle.gos_nodes.proofs.windows.AskedLemmas.{ground_heard}
use Rattle.gos_nodes.proofs.assignments.SmallLemmas.{one_is_assigned}
use Rattle.gos_terms.specs.regular_and_resting.SmallAssignments.{OneIsOpen, SevenAreNotOpen, ReadIsNotOpen}

pub one_is_open : OneIsOpen
one_is_open =
    let is = one_is_assigned in
    record {
      right = is.right;
      own = is.own;
      outcome = is.outcome;
      literals = is.literals;
      names = is.names;
      asked = is.asked;
      written = is.written;
      plan = is.plan;
      laid_number = is.laid_number;
      laid_variable = is.laid_variable;
      number_names = tt;
      variable_names = is.names;
      number_heard = ground_heard number_stage.cut write_plan one_plan tt tt;
      variable_heard = ground_heard variable_stage.cut write_plan x_written (tt, tt) tt;
      result = is.result;
      joints = is.joints;
    }

pub seven_are_not_open : SevenAreNotOpen
seven_are_not_open is = let e : Some (Assign 8) ≡ Some (Assign 7) = is.own in let bits : ◌≡◌ {A = ℕ} 8 7 = cc e in omega (arith, bits)

pub read_is_not_open : ReadIsNotOpen
read_is_not_open is = let joints_so : ◌≡◌ {A = ℕ} 2 1 = ap (λ (x : Plan). length x.joints) is.plan in omega (arith, joints_so)
