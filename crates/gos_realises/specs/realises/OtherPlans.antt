-- Small plans that do not realise a program.
--
-- Read first: SmallRealisers. They show that the relation can be missed: by doing nothing, by another order, by another
-- type, by joints to ends that are not there, by a number that is larger than its width, by an import that is no port, and by a
-- type that has no width.
use Rattle.std.specs.Prelude.{◌≡◌, ◌≢◌, [], ◌∷◌, codes}
use Rattle.gos_types.specs.Types.{Type', Com, Exp, Var, Fun}
use Rattle.gos_model.specs.Terms as terms
use Rattle.gos_model.specs.Terms.{Term}
use Rattle.gos_model.specs.SmallPrograms.{two_commands, one_then_other}
use Rattle.gos_plan.specs.Kinds.{Skip, Lit, Seq, Par}
use Rattle.gos_plan.specs.Kinds as kinds
use Rattle.gos_plan.specs.Plans.{End, PartEnd, ImportEnd, ResultEnd, Plan}
use Rattle.gos_plan.specs.SmallPlans.{skip_plan}
use Rattle.gos_realises.specs.realises.Realises.{Suits, Realises}
use Rattle.gos_realises.specs.realises.Modules.{RealisesModule}
use Rattle.gos_realises.specs.realises.SmallRealisers.{joint}

-- a plan that has no parts and no joints, so that a request is lost
abbrev pub empty_plan : Plan
empty_plan = record { weight = 5; imports = []; outcome = Com; parts = []; joints = [] }

-- does not realise `skip`
abbrev pub EmptyIsNotSkip : Type 0
EmptyIsNotSkip = Realises Com empty_plan terms.Skip → ⊥

-- the plan of `d ; c`, with the imports in the other order
abbrev pub other_first : Plan
other_first =
    record {
      weight = 17;
      imports = two_commands;
      outcome = Com;
      parts = Seq 0 ∷ [];
      joints = joint (ResultEnd 0) (PartEnd 0 2) ∷ joint (PartEnd 0 0) (ImportEnd 1 0) ∷ joint (PartEnd 0 1) (ImportEnd 0 0) ∷ [];
    }

-- does not realise `c ; d`
abbrev pub OrderIsTold : Type 0
OrderIsTold = Realises Com other_first one_then_other.body → ⊥

-- a plan of another outcome realises nothing
abbrev pub OtherTypesAreNot : Type 0
OtherTypesAreNot = (t : Type') (p : Plan) (m : Term) → p.outcome ≢ t → Realises t p m → ⊥

-- so none of an expression realises a command
abbrev pub NoNumberIsDone : Type 0
NoNumberIsDone = (p : Plan) (m : Term) → p.outcome ≡ Exp 8 → Realises Com p m → ⊥

-- a plan with joints to an end that is not there, which alone loops and never answers
abbrev pub nowhere : End
nowhere = PartEnd 9 0

abbrev pub wild_plan : Plan
wild_plan =
    record {
      weight = 40;
      imports = two_commands;
      outcome = Com;
      parts = Par ∷ kinds.While ∷ Lit 1 1 ∷ Skip ∷ [];
      joints =
          joint (ResultEnd 0) (PartEnd 0 2)
          ∷ joint (PartEnd 0 0) (PartEnd 1 2)
          ∷ joint (PartEnd 1 0) (PartEnd 2 0)
          ∷ joint (PartEnd 1 1) (PartEnd 3 0)
          ∷ joint (PartEnd 0 1) nowhere
          ∷ joint nowhere (ImportEnd 1 0) ∷ [];
    }

-- realises nothing
abbrev pub WildIsNot : Type 0
WildIsNot = (t : Type') (m : Term) → Realises t wild_plan m → ⊥

-- a plan of a number with more than its bits
abbrev pub large_plan : Plan
large_plan =
    record { weight = 5; imports = []; outcome = Exp 4; parts = Lit 4 255 ∷ []; joints = joint (ResultEnd 0) (PartEnd 0 0) ∷ [] }

-- suits nothing
abbrev pub LargeDoesNotSuit : Type 0
LargeDoesNotSuit = (t : Type') (m : Term) → Suits t large_plan m → ⊥

-- nor does the plan of `skip` that imports a function on commands, which is no port
abbrev pub function_import : Plan
function_import = record skip_plan { imports = record { name = codes "f"; ty = Fun Com Com } ∷ [] }

abbrev pub FunctionImportDoesNotSuit : Type 0
FunctionImportDoesNotSuit = (t : Type') (m : Term) → Suits t function_import m → ⊥

-- The plan of a function that has no joints does not realise `fun a : com . a`: joined to the plan of `skip` it never
-- answers.
abbrev pub empty_function : Plan
empty_function = record { weight = 11; imports = []; outcome = Fun Com Com; parts = []; joints = [] }

abbrev pub EmptyIsNoFunction : Type 0
EmptyIsNoFunction = Realises (Fun Com Com) empty_function (terms.Lam Com (terms.Bound 0)) → ⊥

-- The plan without parts of a function of a variable of 65 bits. Nothing realises such a variable (Joined of joined), so there is no
-- argument. Still it realises no module, and `fun x : var 65 . skip` neither.
abbrev pub wide_function : Plan
wide_function = record { weight = 12; imports = []; outcome = Fun (Var 65) Com; parts = []; joints = [] }

abbrev pub WideFunctionIsNone : Type 0
WideFunctionIsNone = (m : Term) → RealisesModule wide_function m → ⊥

-- nor does the plan of `skip` that imports one
abbrev pub wide_import : Plan
wide_import = record skip_plan { imports = record { name = codes "x"; ty = Var 65 } ∷ [] }

abbrev pub WideImportIsNone : Type 0
WideImportIsNone = (m : Term) → RealisesModule wide_import m → ⊥
