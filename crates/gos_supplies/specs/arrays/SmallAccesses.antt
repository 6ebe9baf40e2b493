-- The plan of `a 0:1 := 5:8`, where a is an array: an access. Without the joint at the number of the index it is none.
--
-- Read first: Made; SmallArrays of names. They show that the definition can be met and can be missed.
use Rattle.std.specs.Prelude.{[], ◌∷◌}
use Rattle.gos_types.specs.Types.{Com, Exp, Var, Fun}
use Rattle.gos_model.specs.ArrayPorts.{a}
use Rattle.gos_plan.specs.Kinds as kinds
use Rattle.gos_plan.specs.Plans.{PartEnd, ImportEnd, ResultEnd, Plan}
use Rattle.gos_joining.specs.webs.Webs.{joint}
use Rattle.gos_joining.specs.webs.Cutting.{Cut}
use Rattle.gos_supplies.specs.names.Names.{imported}
use Rattle.gos_supplies.specs.names.SmallArrays.{index_left, write_index_left}
use Rattle.gos_supplies.specs.literals.Literals.{number_plan}
use Rattle.gos_supplies.specs.arrays.Accesses.{Read, Write}
use Rattle.gos_supplies.specs.arrays.Made.{IsAccess, access_plan}

-- part 0 is the index, and parts 1 and 2 are the access
abbrev pub first_written : Plan
first_written =
    record {
      weight = 0;
      imports = imported a (Fun (Exp 1) (Var 8)) ∷ [];
      outcome = Com;
      parts = kinds.Lit 1 0 ∷ kinds.Assign 8 ∷ kinds.Lit 8 5 ∷ [];
      joints =
          joint (ImportEnd 0 0) (PartEnd 0 0) ∷ joint (ResultEnd 0) (PartEnd 1 2)
          ∷ joint (PartEnd 1 0) (PartEnd 2 0) ∷ joint (PartEnd 1 1) (ImportEnd 0 2) ∷ [];
    }

abbrev pub FirstIsAccess : Type 0
FirstIsAccess =
    (f : Cut) × (g : Cut) × IsAccess 1 8 a f g first_written (access_plan (Write 5) a 8) (number_plan 0 1 0)

-- those that leave the number of the index unjoined are none of it, wherever their parts are looked for
abbrev pub LeftIsNoAccess : Type 0
LeftIsNoAccess = (f g : Cut) → IsAccess 1 8 a f g write_index_left (access_plan (Write 5) a 8) (number_plan 0 1 0) → ⊥

abbrev pub LeftIsNoRead : Type 0
LeftIsNoRead = (f g : Cut) → IsAccess 1 8 a f g index_left (access_plan Read a 8) (number_plan 0 1 0) → ⊥
