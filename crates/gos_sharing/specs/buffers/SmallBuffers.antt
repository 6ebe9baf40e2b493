-- Small buffers, and Shares that are none.
--
-- Read first: Buffering; SmallPlans of gos_plan; OtherPlans of gos_realises. They show that the definitions can be met and can be
-- missed.
use Rattle.std.specs.Prelude.{◌≡◌, ℕ, [], ◌∷◌}
use Rattle.gos_types.specs.Types.{Com}
use Rattle.gos_model.specs.Terms as terms
use Rattle.gos_plan.specs.Kinds.{Skip, Seq, Share}
use Rattle.gos_plan.specs.Plans.{PartEnd, ResultEnd, Plan}
use Rattle.gos_plan.specs.SmallPlans.{skip_plan}
use Rattle.gos_realises.specs.realises.OtherPlans.{empty_plan}
use Rattle.gos_realises.specs.realises.Realises.{Realises}
use Rattle.gos_joining.specs.webs.Webs.{joint}
use Rattle.gos_sharing.specs.buffers.Buffers.{IsBuffer, IsLoyal}
use Rattle.gos_sharing.specs.buffers.Buffering.{buffered, ResultIsJoined}

-- `skip` behind the first caller of a Share
abbrev pub shared_skip : Plan
shared_skip =
    record skip_plan {
      parts = Skip ∷ Share Com ∷ [];
      joints = joint (PartEnd 1 0) (PartEnd 0 0) ∷ joint (ResultEnd 0) (PartEnd 1 1) ∷ [];
    }

-- and with a plain joint in the Share's place
abbrev pub bare_skip : Plan
bare_skip = record skip_plan { parts = Skip ∷ Share Com ∷ [] }

-- The plan with the Share is that of `skip` behind the first caller.
abbrev pub SharedIsBuffered : Type 0
SharedIsBuffered = shared_skip ≡ buffered Com 0 skip_plan

-- It is a buffer for its first caller, and loyal to it.
abbrev pub FirstIsBuffer : Type 0
FirstIsBuffer = IsBuffer 1 Com 0 shared_skip bare_skip

abbrev pub FirstIsLoyal : Type 0
FirstIsLoyal = IsLoyal 1 0 Com shared_skip

-- it realises `skip`
abbrev pub SharedIsRealised : Type 0
SharedIsRealised = Realises Com shared_skip terms.Skip

-- For its second caller it is none, and not loyal to it: when the answer of `skip` comes the branch is the first one's.
abbrev pub SecondIsNone : Type 0
SecondIsNone = IsBuffer 1 Com 1 shared_skip bare_skip → ⊥

abbrev pub SecondIsNotLoyal : Type 0
SecondIsNotLoyal = IsLoyal 1 1 Com shared_skip → ⊥

-- where both callers are joined it is none, whatever is taken for the plan without it
abbrev pub skip_twice : Plan
skip_twice =
    record skip_plan {
      parts = Skip ∷ Share Com ∷ Seq 0 ∷ [];
      joints =
          joint (ResultEnd 0) (PartEnd 2 2)
          ∷ joint (PartEnd 2 0) (PartEnd 1 1)
          ∷ joint (PartEnd 2 1) (PartEnd 1 2)
          ∷ joint (PartEnd 1 0) (PartEnd 0 0) ∷ [];
    }

abbrev pub BothAreNone : Type 0
BothAreNone = (c : ℕ) (q : Plan) → IsBuffer 1 Com c skip_twice q → ⊥

-- nor where what the caller asks goes nowhere
abbrev pub unsourced_skip : Plan
unsourced_skip = record shared_skip { joints = joint (ResultEnd 0) (PartEnd 1 1) ∷ [] }

abbrev pub UnsourcedIsNone : Type 0
UnsourcedIsNone = (q : Plan) → IsBuffer 1 Com 0 unsourced_skip q → ⊥

-- nor does the result of a plan without joints stand in one
abbrev pub EmptyIsUnjoined : Type 0
EmptyIsUnjoined = ResultIsJoined empty_plan → ⊥
