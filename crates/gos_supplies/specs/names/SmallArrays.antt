-- An array that is imported, read or written at an index: a plan that leaves the index unjoined doesn't realise it.
--
-- Read first: Matched of gos_realises; ArrayPorts of gos_model. Inputs keep turns where the array asks for its index within the access.
use Rattle.std.specs.Prelude.{[], ◌∷◌}
use Rattle.gos_types.specs.Types.{Com, Exp, Var, Fun}
use Rattle.gos_model.specs.Terms.{Term, Import, App, Assign, Deref}
use Rattle.gos_model.specs.Terms as terms
use Rattle.gos_model.specs.ArrayPorts.{a}
use Rattle.gos_plan.specs.Kinds as kinds
use Rattle.gos_plan.specs.Plans.{PartEnd, ImportEnd, ResultEnd, Plan}
use Rattle.gos_realises.specs.realises.Matched.{RealisesInTurn}
use Rattle.gos_joining.specs.webs.Webs.{joint}

-- `! (a 0:1)`, where a is an array of two numbers of 8 bits
abbrev pub read_first : Term
read_first = Deref (App (Import a) (terms.Lit 0 1))

-- its plan, but for the joint from the array's index to the number 0
abbrev pub index_left : Plan
index_left =
    record {
      weight = 12;
      imports = record { name = a; ty = Fun (Exp 1) (Var 8) } ∷ [];
      outcome = Exp 8;
      parts = kinds.Deref 8 ∷ kinds.Lit 1 0 ∷ [];
      joints = joint (ResultEnd 0) (PartEnd 0 1) ∷ joint (PartEnd 0 0) (ImportEnd 0 1) ∷ [];
    }

abbrev pub IndexIsTold : Type 0
IndexIsTold = RealisesInTurn index_left read_first → ⊥

-- `a 0:1 := 5:8`, and its plan but for the same joint
abbrev pub write_first : Term
write_first = Assign (App (Import a) (terms.Lit 0 1)) (terms.Lit 5 8)

abbrev pub write_index_left : Plan
write_index_left =
    record {
      weight = 0;
      imports = record { name = a; ty = Fun (Exp 1) (Var 8) } ∷ [];
      outcome = Com;
      parts = kinds.Assign 8 ∷ kinds.Lit 8 5 ∷ kinds.Lit 1 0 ∷ [];
      joints = joint (ResultEnd 0) (PartEnd 0 2) ∷ joint (PartEnd 0 0) (PartEnd 1 0) ∷ joint (PartEnd 0 1) (ImportEnd 0 2) ∷ [];
    }

abbrev pub WrittenIndexIsTold : Type 0
WrittenIndexIsTold = RealisesInTurn write_index_left write_first → ⊥
