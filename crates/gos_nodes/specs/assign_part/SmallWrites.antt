-- The plan of `x := 8:1`, with an import x of a variable: it is made of that of `8:1`.
--
-- Read first: Writes. Another part than the Assign, another width and another handshake of the variable don't fit.
use Rattle.std.specs.Prelude.{ℕ, zero, suc, [], ◌∷◌, codes, Option, Some, None}
use Rattle.gos_types.specs.Types.{Com, Exp, Var}
use Rattle.gos_model.specs.Terms.{Name}
use Rattle.gos_plan.specs.Kinds.{Lit, Assign}
use Rattle.gos_plan.specs.Plans.{End, PartEnd, ImportEnd, ResultEnd, Plan}
use Rattle.gos_joining.specs.webs.Webs.{joint}
use Rattle.gos_joining.specs.webs.Cutting.{Cut}
use Rattle.gos_nodes.specs.assign_part.Writes.{IsPortWrite}

abbrev pub x_name : Name
x_name = codes "x"

abbrev pub write_plan : Plan
write_plan =
    record {
      weight = 17;
      imports = record { name = x_name; ty = Var 8 } ∷ [];
      outcome = Com;
      parts = Assign 8 ∷ Lit 8 1 ∷ [];
      joints = joint (ResultEnd 0) (PartEnd 0 2) ∷ joint (PartEnd 0 0) (PartEnd 1 0) ∷ joint (PartEnd 0 1) (ImportEnd 0 1) ∷ [];
    }

-- the region of `8:1`
abbrev pub one_plan : Plan
one_plan =
    record { weight = 9; imports = []; outcome = Exp 8; parts = Lit 8 1 ∷ []; joints = joint (ResultEnd 0) (PartEnd 0 0) ∷ [] }

abbrev pub one_number : ℕ → Option ℕ
one_number zero = None
one_number (suc zero) = Some 0
one_number (suc (suc n)) = None

abbrev pub one_inner : End → Option End
one_inner (PartEnd zero zero) = Some (ResultEnd 0)
one_inner (PartEnd zero (suc h)) = None
one_inner (PartEnd (suc i) h) = None
one_inner (ImportEnd i h) = None
one_inner (ResultEnd h) = None

abbrev pub one_out : Cut
one_out = record { part = λ i. 1; number = one_number; outer = λ e. PartEnd 0 0; inner = one_inner }

-- the plan is made of it
abbrev pub OneIsWritten : Type 0
OneIsWritten = IsPortWrite 0 0 8 x_name one_out write_plan one_plan

-- the Lit doesn't write
abbrev pub LitDoesNotWrite : Type 0
LitDoesNotWrite = IsPortWrite 1 0 8 x_name one_out write_plan one_plan → ⊥

-- nor is it a write of seven bits
abbrev pub SevenBitsDoNotFit : Type 0
SevenBitsDoNotFit = IsPortWrite 0 0 7 x_name one_out write_plan one_plan → ⊥

-- without the joint at the variable nothing is written
abbrev pub UnjoinedDoesNotWrite : Type 0
UnjoinedDoesNotWrite =
    IsPortWrite 0 0 8 x_name one_out
    (record write_plan { joints = joint (ResultEnd 0) (PartEnd 0 2) ∷ joint (PartEnd 0 0) (PartEnd 1 0) ∷ [] })
    one_plan
    → ⊥
