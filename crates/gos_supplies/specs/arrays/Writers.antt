-- `fun g : exp 1 -> var 8 . g 0:1 := 5:8`, and the plan that leaves the number of the index unjoined.
--
-- Read first: ArrayNames. With a variable for its argument, as `fun j . v`, the second plan does what the first one does, since such
-- an argument asks for no index. The name of an array does.
use Rattle.std.specs.Prelude.{[], ◌∷◌}
use Rattle.gos_types.specs.Types.{Type', Com, Exp, Var, Fun}
use Rattle.gos_model.specs.Terms.{Term, Import, Lam, App, Assign, Bound}
use Rattle.gos_model.specs.Terms as terms
use Rattle.gos_model.specs.ArrayPorts.{a}
use Rattle.gos_plan.specs.Kinds as kinds
use Rattle.gos_plan.specs.Plans.{PartEnd, ResultEnd, Plan}
use Rattle.gos_realises.specs.realises.Regular.{IsRegular}
use Rattle.gos_realises.specs.realises.Matched.{RealisesInTurn}
use Rattle.gos_realises.specs.realises.Links.{IsJoined}
use Rattle.gos_realises.specs.realises.Wirings.{applying}
use Rattle.gos_realises.specs.realises.Realises.{Realises}
use Rattle.gos_joining.specs.webs.Webs.{joint}
use Rattle.gos_supplies.specs.arrays.ArrayNames.{array_name}

abbrev pub array_type : Type'
array_type = Fun (Exp 1) (Var 8)

abbrev pub writer : Term
writer = Lam array_type (Assign (App (Bound 0) (terms.Lit 0 1)) (terms.Lit 5 8))

-- its plan: handshakes 0 to 2 of the result are the argument's index, read and write, and 3 is the command's
abbrev pub writer_plan : Plan
writer_plan =
    record {
      weight = 0;
      imports = [];
      outcome = Fun array_type Com;
      parts = kinds.Assign 8 ∷ kinds.Lit 8 5 ∷ kinds.Lit 1 0 ∷ [];
      joints =
          joint (ResultEnd 3) (PartEnd 0 2) ∷ joint (PartEnd 0 0) (PartEnd 1 0)
          ∷ joint (PartEnd 0 1) (ResultEnd 2) ∷ joint (ResultEnd 0) (PartEnd 2 0) ∷ [];
    }

-- the same but for the joint at the number of the index
abbrev pub index_unjoined : Plan
index_unjoined =
    record writer_plan {
      joints = joint (ResultEnd 3) (PartEnd 0 2) ∷ joint (PartEnd 0 0) (PartEnd 1 0) ∷ joint (PartEnd 0 1) (ResultEnd 2) ∷ [];
    }

-- it realises the function, with every argument
abbrev pub WriterIsRealised : Type 0
WriterIsRealised = Realises (Fun array_type Com) writer_plan writer

-- so, joined to the name of an array, it writes there
abbrev pub WriterWrites : Type 0
WriterWrites =
    (r : Plan) → IsJoined (applying array_type Com writer_plan (array_name a 1 8)) r → IsRegular r × RealisesInTurn r (App writer (Import a))

-- The other one doesn't, so it doesn't realise the function.
abbrev pub UnjoinedDoesNotWrite : Type 0
UnjoinedDoesNotWrite =
    (r : Plan) → IsJoined (applying array_type Com index_unjoined (array_name a 1 8)) r → RealisesInTurn r (App writer (Import a)) → ⊥

abbrev pub UnjoinedIsNoWriter : Type 0
UnjoinedIsNoWriter = Realises (Fun array_type Com) index_unjoined writer → ⊥
