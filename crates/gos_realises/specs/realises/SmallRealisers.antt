-- Small plans that realise their programs, and what a list of a plan that realises one shows.
--
-- Read first: Modules; SmallPlans and SmallCalls of gos_plan. They show that the relation can be met.
use Rattle.std.specs.Prelude.{[], ◌∷◌, codes, List}
use Rattle.gos_types.specs.Types.{Com, Fun}
use Rattle.gos_model.specs.Terms as terms
use Rattle.gos_model.specs.Terms.{Term, Import, App}
use Rattle.gos_model.specs.SmallPrograms.{c}
use Rattle.gos_model.specs.Moves.{Trace}
use Rattle.gos_model.specs.Protocol.{KeepsProtocol}
use Rattle.gos_plan.specs.Kinds.{Skip}
use Rattle.gos_plan.specs.Plans.{End, PartEnd, ImportEnd, ResultEnd, Joint, Plan}
use Rattle.gos_plan.specs.Tokens.{Tokens, Element, Runs, IsIdle}
use Rattle.gos_plan.specs.SmallPlans.{skip_plan}
use Rattle.gos_plan.specs.SmallCalls.{call_plan}
use Rattle.gos_realises.specs.realises.Matched.{all_shown, program_of, RealisesDone}
use Rattle.gos_realises.specs.realises.Realises.{Realises}
use Rattle.gos_realises.specs.realises.Modules.{RealisesOpen}

abbrev pub joint : End → End → Joint
joint a b = record { asking = a; serving = b }

-- the plan of `skip` realises it
abbrev pub SkipIsRealised : Type 0
SkipIsRealised = Realises Com skip_plan terms.Skip

-- the plan of `import c : com; c` realises the name
abbrev pub NameIsRealised : Type 0
NameIsRealised = Realises Com call_plan (Import c)

-- the plan of `import f : com -> com; f skip`
abbrev pub use_plan : Plan
use_plan =
    record {
      weight = 19;
      imports = record { name = codes "f"; ty = Fun Com Com } ∷ [];
      outcome = Com;
      parts = Skip ∷ [];
      joints = joint (ResultEnd 0) (ImportEnd 0 1) ∷ joint (ImportEnd 0 0) (PartEnd 0 0) ∷ [];
    }

-- realises its program, whatever is put in for f
abbrev pub UseIsRealised : Type 0
UseIsRealised = RealisesOpen use_plan (App (Import (codes "f")) terms.Skip)

-- What a plan shows in a list whose inputs keep the protocol is a trace of a program that it realises.
abbrev pub ListsAreTraces : Type 0
ListsAreTraces =
    (p : Plan) (m : Term) (xs : List Element) (s t : Tokens)
    → RealisesDone p m → IsIdle p s → Runs p xs s t → KeepsProtocol p.imports (all_shown p xs) → Trace (program_of p m) (all_shown p xs)
