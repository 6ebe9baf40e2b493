-- The plan of `x := 8:1`, with an import x of a variable, as an assignment of two sides; and what is none.
--
-- Read first: Assignments and SmallWrites of gos_nodes.
use Rattle.gos_nodes.specs.assign_part.SmallWrites.{write_plan}
use Rattle.gos_nodes.specs.assignments.Assignments.{IsOpenAssignment}
use Rattle.gos_nodes.specs.assignments.SmallWrites.{x_plan, number_stage, variable_stage}

abbrev pub OneIsOpen : Type 0
OneIsOpen = IsOpenAssignment write_plan 0 8 number_stage variable_stage x_plan

-- it is none of seven bits, and none where the stage of x has the joint by which x is read
abbrev pub SevenAreNotOpen : Type 0
SevenAreNotOpen = IsOpenAssignment write_plan 0 7 number_stage variable_stage x_plan → ⊥

abbrev pub ReadIsNotOpen : Type 0
ReadIsNotOpen = IsOpenAssignment write_plan 0 8 number_stage (record variable_stage { plan = x_plan }) x_plan → ⊥
