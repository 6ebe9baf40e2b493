-- Small webs, renumberings and cuts.
--
-- Read first: Cutting, Renumbering; SmallPlans of gos_plan. They show that these definitions can be met and can be missed.
use Rattle.std.specs.Prelude.{ℕ, zero, suc, List, [], ◌∷◌, Option, Some, None}
use Rattle.gos_types.specs.Types.{Com}
use Rattle.gos_plan.specs.Kinds.{Skip, Seq}
use Rattle.gos_plan.specs.Firing.{Req, Ans}
use Rattle.gos_plan.specs.Plans.{End, PartEnd, ImportEnd, ResultEnd, Plan}
use Rattle.gos_plan.specs.Tokens.{Element, Fire, In}
use Rattle.gos_plan.specs.SmallPlans.{skip_plan, at_first, once}
use Rattle.gos_joining.specs.webs.Webs.{joint, IsOfWeb, own_web}
use Rattle.gos_joining.specs.webs.Renumbering.{Renumber, IsRenumbered}
use Rattle.gos_joining.specs.webs.Cutting.{Cut, IsCut, IsCutList}

-- the plan of `skip ; skip`
abbrev pub twice_plan : Plan
twice_plan =
    record {
      weight = 15;
      imports = [];
      outcome = Com;
      parts = Seq 0 ∷ Skip ∷ Skip ∷ [];
      joints = joint (ResultEnd 0) (PartEnd 0 2) ∷ joint (PartEnd 0 0) (PartEnd 1 0) ∷ joint (PartEnd 0 1) (PartEnd 2 0) ∷ [];
    }

-- a plan without the joints isn't that of the same web
abbrev pub unjoined_plan : Plan
unjoined_plan = record twice_plan { joints = [] }

abbrev pub UnjoinedIsNot : Type 0
UnjoinedIsNot = IsOfWeb (own_web twice_plan) unjoined_plan → ⊥

-- the two Skips change places
abbrev pub swapped : ℕ → ℕ
swapped zero = zero
swapped (suc zero) = suc (suc zero)
swapped (suc (suc zero)) = suc zero
swapped (suc (suc (suc n))) = suc (suc (suc n))

abbrev pub swap : Renumber
swap = record { part = swapped; part_back = swapped; import = λ i. i; import_back = λ i. i }

abbrev pub swapped_plan : Plan
swapped_plan =
    record twice_plan {
      joints = joint (PartEnd 0 0) (PartEnd 2 0) ∷ joint (ResultEnd 0) (PartEnd 0 2) ∷ joint (PartEnd 0 1) (PartEnd 1 0) ∷ [];
    }

-- which gives the plan with the joints swapped, and not the plan that it was
abbrev pub SwapIsRenumbering : Type 0
SwapIsRenumbering = IsRenumbered swap twice_plan swapped_plan

abbrev pub SwapIsSeen : Type 0
SwapIsSeen = IsRenumbered swap twice_plan twice_plan → ⊥

-- the first Skip, cut out
abbrev pub number_of_first : ℕ → Option ℕ
number_of_first zero = None
number_of_first (suc zero) = Some 0
number_of_first (suc (suc n)) = None

abbrev pub port_of_first : End → Option End
port_of_first (PartEnd zero zero) = Some (ResultEnd 0)
port_of_first (PartEnd zero (suc h)) = None
port_of_first (PartEnd (suc i) h) = None
port_of_first (ImportEnd i h) = None
port_of_first (ResultEnd h) = None

abbrev pub first_out : Cut
first_out = record { part = λ i. 1; number = number_of_first; outer = λ e. PartEnd 0 0; inner = port_of_first }

-- is the plan of `skip`
abbrev pub FirstIsCut : Type 0
FirstIsCut = IsCut first_out twice_plan skip_plan

-- with the second Skip's joint in place of its own it would not be
abbrev pub wrong_out : Cut
wrong_out = record first_out { outer = λ e. PartEnd 0 1 }

abbrev pub WrongIsNoCut : Type 0
WrongIsNoCut = IsCut wrong_out twice_plan skip_plan → ⊥

-- the list of the whole until the second Skip is asked
abbrev pub first_done : List Element
first_done = In (ResultEnd 0) 0 ∷ Fire 0 (Req 2) ∷ Fire 1 (Req 0) ∷ Fire 0 (Ans 0) ∷ []

-- is, cut out, run, the firing and done
abbrev pub FirstIsOnce : Type 0
FirstIsOnce = IsCutList first_out twice_plan first_done at_first once
