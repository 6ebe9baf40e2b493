-- The plan of `x := 8:1`, with an import x of a variable, as a write of two stages; and what is none.
--
-- Read first: Writes, Written, Assignments; SmallWrites of assign_part.
use Rattle.std.specs.Prelude.{◌≡◌, zero, suc, [], ◌∷◌, Option, Some, None}
use Rattle.gos_types.specs.Types.{Com, Var, Fun}
use Rattle.gos_plan.specs.Plans.{End, PartEnd, ImportEnd, ResultEnd, Plan}
use Rattle.gos_plan.specs.Tokens.{Out, In}
use Rattle.gos_joining.specs.webs.Webs.{joint}
use Rattle.gos_joining.specs.webs.Cutting.{Cut}
use Rattle.gos_nodes.specs.assign_part.SmallWrites.{x_name, write_plan, one_plan, one_out}
use Rattle.gos_nodes.specs.windows.Nodes.{Stage}
use Rattle.gos_nodes.specs.windows.OneSession.{IsAsked, IsRegularAt, IsOneSession}
use Rattle.gos_nodes.specs.assignments.Writes.{IsWrite}
use Rattle.gos_nodes.specs.assignments.Written.{unread}
use Rattle.gos_nodes.specs.assignments.Assignments.{IsAssignment}

-- the plan of x, and where it is written alone
abbrev pub x_plan : Plan
x_plan =
    record {
      weight = 8;
      imports = record { name = x_name; ty = Var 8 } ∷ [];
      outcome = Var 8;
      parts = [];
      joints = joint (ResultEnd 0) (ImportEnd 0 0) ∷ joint (ResultEnd 1) (ImportEnd 0 1) ∷ [];
    }

abbrev pub x_written : Plan
x_written = record x_plan { joints = joint (ResultEnd 1) (ImportEnd 0 1) ∷ [] }

abbrev pub x_outer : End → End
x_outer (PartEnd i h) = PartEnd 0 1
x_outer (ImportEnd i h) = ImportEnd 0 1
x_outer (ResultEnd h) = PartEnd 0 1

abbrev pub x_inner : End → Option End
x_inner (PartEnd zero zero) = None
x_inner (PartEnd zero (suc zero)) = Some (ResultEnd 1)
x_inner (PartEnd zero (suc (suc h))) = None
x_inner (PartEnd (suc i) h) = None
x_inner (ImportEnd zero zero) = None
x_inner (ImportEnd zero (suc zero)) = Some (ImportEnd 0 1)
x_inner (ImportEnd zero (suc (suc h))) = None
x_inner (ImportEnd (suc i) h) = None
x_inner (ResultEnd h) = None

abbrev pub x_out : Cut
x_out = record { part = λ i. i; number = λ i. None; outer = x_outer; inner = x_inner }

-- the two stages
abbrev pub number_stage : Stage
number_stage = record { cut = one_out; sides = []; plan = one_plan; asked_at = 0 }

abbrev pub variable_stage : Stage
variable_stage = record { cut = x_out; sides = []; plan = x_written; asked_at = 1 }

-- they are those of the plan, if their own plans are regular where they are asked
abbrev pub OneIsWritten : Type 0
OneIsWritten = IsRegularAt 0 one_plan → IsRegularAt 1 x_written → IsWrite write_plan 0 8 (number_stage ∷ variable_stage ∷ [])

-- it is none of seven bits, none by the Lit, and none without the stage that is written
abbrev pub SevenBitsAreNone : Type 0
SevenBitsAreNone = IsWrite write_plan 0 7 (number_stage ∷ variable_stage ∷ []) → ⊥

abbrev pub LitIsNone : Type 0
LitIsNone = IsWrite write_plan 1 8 (number_stage ∷ variable_stage ∷ []) → ⊥

abbrev pub StageIsMissing : Type 0
StageIsMissing = IsWrite write_plan 0 8 (number_stage ∷ []) → ⊥

-- where x isn't read, one joint is left
abbrev pub ReadIsDropped : Type 0
ReadIsDropped = unread x_plan ≡ x_written

-- a session in which x is written, which is none of the other handshake
abbrev pub WriteIsSession : Type 0
WriteIsSession = IsOneSession 1 x_written (In (ResultEnd 1) 5 ∷ Out (ImportEnd 0 1) 5 ∷ In (ImportEnd 0 1) 0 ∷ Out (ResultEnd 1) 0 ∷ [])

abbrev pub ReadIsNoSession : Type 0
ReadIsNoSession = IsOneSession 1 x_written (In (ResultEnd 0) 0 ∷ []) → ⊥

-- With the plan of x for that of M it is an assignment; and none where the stage of x has the joint by which x is read.
abbrev pub OneIsAssigned : Type 0
OneIsAssigned = IsAssignment write_plan 0 8 number_stage variable_stage x_plan

abbrev pub ReadStageIsNone : Type 0
ReadStageIsNone = IsAssignment write_plan 0 8 number_stage (record variable_stage { plan = x_plan }) x_plan → ⊥

-- the plan of a function's name: its argument is asked, and its outcome isn't
abbrev pub call_plan : Plan
call_plan = record x_plan { imports = record { name = x_name; ty = Fun Com Com } ∷ []; outcome = Fun Com Com; joints = [] }

abbrev pub ArgumentIsAsked : Type 0
ArgumentIsAsked = IsAsked call_plan (ImportEnd 0 0)

abbrev pub OutcomeIsNotAsked : Type 0
OutcomeIsNotAsked = IsAsked call_plan (ImportEnd 0 1) → ⊥
