-- Small nodes: the plan of `skip ; skip`, and a Share that serves both callers.
--
-- Read first: Windows; SmallWebs of gos_joining. They show that these definitions can be met and can be missed.
use Rattle.std.specs.Prelude.{ℕ, zero, suc, List, [], ◌∷◌, Option, Some, None, codes}
use Rattle.gos_types.specs.Types.{Com, Fun}
use Rattle.gos_model.specs.Terms as terms
use Rattle.gos_model.specs.Typing.{Imported}
use Rattle.gos_plan.specs.Kinds.{Skip, Seq, Share}
use Rattle.gos_plan.specs.Plans.{End, PartEnd, ImportEnd, ResultEnd, Plan}
use Rattle.gos_plan.specs.SmallPlans.{skip_plan}
use Rattle.gos_joining.specs.webs.Webs.{joint}
use Rattle.gos_joining.specs.webs.SmallWebs.{twice_plan, number_of_first, first_out}
use Rattle.gos_joining.specs.webs.Cutting.{Cut}
use Rattle.gos_nodes.specs.sessions.Sessions.{Form, Sequence}
use Rattle.gos_nodes.specs.windows.Regions.{Serving, IsRegion, IsLoyal}
use Rattle.gos_nodes.specs.windows.Nodes.{Stage, IsNode}
use Rattle.gos_nodes.specs.windows.OpenNodes.{IsOpenStage, IsOpenNode}

-- the second Skip, cut out
abbrev pub number_of_second : ℕ → Option ℕ
number_of_second zero = None
number_of_second (suc zero) = None
number_of_second (suc (suc zero)) = Some 0
number_of_second (suc (suc (suc n))) = None

abbrev pub port_of_second : End → Option End
port_of_second (PartEnd zero zero) = None
port_of_second (PartEnd zero (suc zero)) = Some (ResultEnd 0)
port_of_second (PartEnd zero (suc (suc h))) = None
port_of_second (PartEnd (suc i) h) = None
port_of_second (ImportEnd i h) = None
port_of_second (ResultEnd h) = None

abbrev pub second_out : Cut
second_out = record { part = λ i. 2; number = number_of_second; outer = λ e. PartEnd 0 1; inner = port_of_second }

-- each is a stage, which shares nothing
abbrev pub first_stage : Stage
first_stage = record { cut = first_out; sides = []; plan = skip_plan; asked_at = 0 }

abbrev pub second_stage : Stage
second_stage = record { cut = second_out; sides = []; plan = skip_plan; asked_at = 1 }

abbrev pub twice_form : Form
twice_form = Sequence Com terms.Skip terms.Skip

-- with both the plan is a node, and with one it is none
abbrev pub TwiceIsNode : Type 0
TwiceIsNode = IsNode twice_plan 0 twice_form (first_stage ∷ second_stage ∷ [])

abbrev pub OneIsMissing : Type 0
OneIsMissing = IsNode twice_plan 0 twice_form (first_stage ∷ []) → ⊥

-- It is a node with imports of any types, of which it has none.
abbrev pub TwiceIsOpen : Type 0
TwiceIsOpen = IsOpenNode twice_plan 0 twice_form (first_stage ∷ second_stage ∷ [])

-- a plan with an import `f : com -> com`: the first child of its own part is asked for by f's result, and a Skip answers f's argument
abbrev pub function_plan : Plan
function_plan =
    record {
      weight = 10;
      imports = record { name = codes "f"; ty = Fun Com Com } ∷ [];
      outcome = Com;
      parts = Seq 0 ∷ Skip ∷ [];
      joints =
          joint (ResultEnd 0) (PartEnd 0 2) ∷ joint (PartEnd 0 0) (ImportEnd 0 1) ∷ joint (ImportEnd 0 0) (PartEnd 1 0) ∷ [];
    }

-- that child without the Skip
abbrev pub deaf_stage : Stage
deaf_stage =
    record {
      cut = record { part = λ i. 1; number = λ i. None; outer = λ e. e; inner = λ e. None };
      sides = [];
      plan = record function_plan { parts = []; joints = joint (ResultEnd 0) (ImportEnd 0 1) ∷ [] };
      asked_at = 0;
    }

-- is no stage: f asks for its argument, and the stage doesn't hear it
abbrev pub DeafIsNone : Type 0
DeafIsNone = IsOpenStage function_plan 0 deaf_stage → ⊥

-- a Skip that both children share
abbrev pub both_plan : Plan
both_plan =
    record {
      weight = 20;
      imports = [];
      outcome = Com;
      parts = Seq 0 ∷ Share Com ∷ Skip ∷ [];
      joints =
          joint (ResultEnd 0) (PartEnd 0 2) ∷ joint (PartEnd 0 0) (PartEnd 1 1) ∷ joint (PartEnd 0 1) (PartEnd 1 2)
          ∷ joint (PartEnd 1 0) (PartEnd 2 0) ∷ [];
    }

-- Its Share is loyal to neither caller.
abbrev pub SharedForBoth : Type 0
SharedForBoth = (IsLoyal 1 Com 0 both_plan → ⊥) × (IsLoyal 1 Com 1 both_plan → ⊥)

-- the plan of `c ; c`, whose children share `c`
abbrev pub an_import : List Imported
an_import = record { name = codes "c"; ty = Com } ∷ []

abbrev pub calls_plan : Plan
calls_plan =
    record {
      weight = 20;
      imports = an_import;
      outcome = Com;
      parts = Seq 0 ∷ Share Com ∷ [];
      joints =
          joint (ResultEnd 0) (PartEnd 0 2) ∷ joint (PartEnd 0 0) (PartEnd 1 1) ∷ joint (PartEnd 0 1) (PartEnd 1 2)
          ∷ joint (PartEnd 1 0) (ImportEnd 0 0) ∷ [];
    }

-- its first child, with the Share for its supply
abbrev pub call_plan : Plan
call_plan =
    record {
      weight = 10;
      imports = an_import;
      outcome = Com;
      parts = Share Com ∷ [];
      joints = joint (ResultEnd 0) (PartEnd 0 1) ∷ joint (PartEnd 0 0) (ImportEnd 0 0) ∷ [];
    }

abbrev pub call_outer : End → End
call_outer (PartEnd i h) = PartEnd 0 0
call_outer (ImportEnd i h) = ImportEnd 0 0
call_outer (ResultEnd h) = PartEnd 0 0

abbrev pub call_inner : End → Option End
call_inner (PartEnd zero zero) = Some (ResultEnd 0)
call_inner (PartEnd zero (suc h)) = None
call_inner (PartEnd (suc i) h) = None
call_inner (ImportEnd zero zero) = Some (ImportEnd 0 0)
call_inner (ImportEnd zero (suc h)) = None
call_inner (ImportEnd (suc i) h) = None
call_inner (ResultEnd h) = None

abbrev pub call_out : Cut
call_out = record { part = λ i. 1; number = number_of_first; outer = call_outer; inner = call_inner }

abbrev pub served : ℕ → Serving
served c = record { part = 1; ty = Com; side = c }

-- is a region, where the Share serves it as its first caller, and none where it is said to be the second
abbrev pub CallIsRegion : Type 0
CallIsRegion = IsRegion call_out (served 0 ∷ []) calls_plan call_plan

abbrev pub WrongSideIsNone : Type 0
WrongSideIsNone = IsRegion call_out (served 1 ∷ []) calls_plan call_plan → ⊥

-- and the Share is loyal to it there
abbrev pub CallIsLoyal : Type 0
CallIsLoyal = IsLoyal 0 Com 0 call_plan
