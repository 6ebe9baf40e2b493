-- The plan of `c || skip`: it is made of those of `c` and of `skip`, and of no other two.
--
-- Read first: Parallel; SmallCalls and SmallPlans of gos_plan. The region of `c` has no part: its one joint leads from the part
-- that asks to the import.
use Rattle.std.specs.Prelude.{ℕ, zero, suc, [], ◌∷◌, Option, Some, None}
use Rattle.gos_types.specs.Types.{Com}
use Rattle.gos_model.specs.Terms as terms
use Rattle.gos_model.specs.Terms.{Import}
use Rattle.gos_model.specs.SmallPrograms.{c}
use Rattle.gos_plan.specs.Kinds.{Skip, Par}
use Rattle.gos_plan.specs.Plans.{End, PartEnd, ImportEnd, ResultEnd, Plan}
use Rattle.gos_plan.specs.SmallPlans.{skip_plan}
use Rattle.gos_plan.specs.SmallCalls.{call_plan}
use Rattle.gos_joining.specs.webs.Webs.{joint}
use Rattle.gos_joining.specs.webs.Cutting.{Cut}
use Rattle.gos_realises.specs.realises.Realises.{Realises}
use Rattle.gos_nodes.specs.parallel.Parallel.{IsParallel}

abbrev pub call_and_skip : Plan
call_and_skip =
    record {
      weight = 17;
      imports = record { name = c; ty = Com } ∷ [];
      outcome = Com;
      parts = Par ∷ Skip ∷ [];
      joints = joint (ResultEnd 0) (PartEnd 0 2) ∷ joint (PartEnd 0 0) (ImportEnd 0 0) ∷ joint (PartEnd 0 1) (PartEnd 1 0) ∷ [];
    }

-- the region of `c`
abbrev pub call_outer : End → End
call_outer (PartEnd i h) = PartEnd 0 0
call_outer (ImportEnd i h) = ImportEnd i h
call_outer (ResultEnd h) = PartEnd 0 0

abbrev pub call_inner : End → Option End
call_inner (PartEnd zero zero) = Some (ResultEnd 0)
call_inner (PartEnd zero (suc h)) = None
call_inner (PartEnd (suc i) h) = None
call_inner (ImportEnd zero zero) = Some (ImportEnd 0 0)
call_inner (ImportEnd zero (suc h)) = None
call_inner (ImportEnd (suc i) h) = None
call_inner (ResultEnd h) = None

abbrev pub call_out : Cut
call_out = record { part = λ i. 0; number = λ i. None; outer = call_outer; inner = call_inner }

-- the region of `skip`
abbrev pub skip_number : ℕ → Option ℕ
skip_number zero = None
skip_number (suc zero) = Some 0
skip_number (suc (suc n)) = None

abbrev pub skip_inner : End → Option End
skip_inner (PartEnd zero zero) = None
skip_inner (PartEnd zero (suc zero)) = Some (ResultEnd 0)
skip_inner (PartEnd zero (suc (suc h))) = None
skip_inner (PartEnd (suc i) h) = None
skip_inner (ImportEnd i h) = None
skip_inner (ResultEnd h) = None

abbrev pub skip_out : Cut
skip_out = record { part = λ i. 1; number = skip_number; outer = λ e. PartEnd 0 1; inner = skip_inner }

-- the plan is made of both
abbrev pub CallAndSkipIsParallel : Type 0
CallAndSkipIsParallel = IsParallel 0 call_out skip_out call_and_skip call_plan skip_plan

-- so it realises `c || skip`
abbrev pub CallAndSkipRealises : Type 0
CallAndSkipRealises = Realises Com call_and_skip (terms.Par (Import c) terms.Skip)

-- the region of `skip` is that of the right side and not of the left
abbrev pub SkipIsNotLeft : Type 0
SkipIsNotLeft = IsParallel 0 skip_out call_out call_and_skip skip_plan call_plan → ⊥

-- and it isn't both
abbrev pub skip_at_left : Cut
skip_at_left = record skip_out { outer = λ e. PartEnd 0 0 }

abbrev pub SkipIsNotBoth : Type 0
SkipIsNotBoth = IsParallel 0 skip_at_left skip_out call_and_skip skip_plan skip_plan → ⊥

-- another part than that of `||` doesn't ask both
abbrev pub OtherPartIsNot : Type 0
OtherPartIsNot = IsParallel 1 call_out skip_out call_and_skip call_plan skip_plan → ⊥
