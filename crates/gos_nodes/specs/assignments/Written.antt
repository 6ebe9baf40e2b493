-- The plan of a variable without the joint by which it is read, and the stage that it is where it is written.
--
-- Read first: Variables; Wirings, Realises of gos_realises.
use Rattle.std.specs.Prelude.{◌≡◌, ℕ, suc, ◌^◌, ◌<◌, List, [], ◌∷◌, Option, Some, None, All, length, nat_eq, nat_lt, if◌then◌else◌}
use Rattle.gos_types.specs.Types.{Type', Com, Exp, Var}
use Rattle.gos_model.specs.Terms.{Term, Assign, Lit}
use Rattle.gos_model.specs.Typing.{Typed}
use Rattle.gos_plan.specs.Plans.{End, PartEnd, ImportEnd, ResultEnd, Joint, Plan, same_end, IsRight}
use Rattle.gos_plan.specs.Tokens.{places_of}
use Rattle.gos_plan.specs.TokenBits.{LiteralFits}
use Rattle.gos_realises.specs.realises.Wirings.{writing}
use Rattle.gos_realises.specs.realises.Links.{IsJoined}
use Rattle.gos_realises.specs.realises.Regular.{IsRegular}
use Rattle.gos_realises.specs.realises.Realises.{Realises}
use Rattle.gos_joining.specs.webs.Cutting.{Cut}
use Rattle.gos_nodes.specs.windows.Regions.{IsLoyal}
use Rattle.gos_nodes.specs.windows.OneSession.{IsRegularAt, IsRestfulAt, IsLoyalAt}
use Rattle.gos_nodes.specs.assignments.Realised.{SessionIsRealised}
use Rattle.gos_nodes.specs.assignments.Variables.{IsLoneWrite}

-- without the joint of handshake 0 of the result
abbrev pub unread_joints : List Joint → List Joint
unread_joints [] = []
unread_joints (j ∷ js) = if same_end j.asking (ResultEnd 0) then unread_joints js else j ∷ unread_joints js

abbrev pub unread : Plan → Plan
unread p = record p { joints = unread_joints p.joints }

-- how it lies in the joining with an Assign and a Lit, which come after its own parts
abbrev pub if_there : Option End → End → Option End
if_there None e = None
if_there (Some a) e = Some e

abbrev pub written_outer : ℕ → End → End
written_outer n (PartEnd i h) = PartEnd i h
written_outer n (ImportEnd i h) = ImportEnd i h
written_outer n (ResultEnd h) = PartEnd n 1

abbrev pub written_inner : Plan → End → Option End
written_inner p (PartEnd i h) =
    if nat_eq i (length p.parts) then (if nat_eq h 1 then if_there (places_of p (ResultEnd 1)) (ResultEnd 1) else None) else None
written_inner p (ImportEnd i h) = if_there (places_of p (ImportEnd i h)) (ImportEnd i h)
written_inner p (ResultEnd h) = None

abbrev pub written_cut : Plan → Cut
written_cut p =
    record {
      part = λ i. i;
      number = λ i. if nat_lt i (length p.parts) then Some i else None;
      outer = written_outer (length p.parts);
      inner = written_inner p;
    }

-- Where the plan is regular, so is the plan without that joint in the sessions in which it is written; and a Share of it is loyal
-- there to whom it is loyal in the plan.
abbrev pub UnreadIsRegular : Type 0
UnreadIsRegular =
    (w : ℕ) (p : Plan)
    → IsRight p → p.outcome ≡ Var w → IsRegular p
    → IsRegularAt 1 (unread p) × ((i : ℕ) (t : Type') (side : ℕ) → IsLoyal i t side p → IsLoyalAt 1 i t side (unread p))

-- The joining is a lone write of the plan without that joint.
abbrev pub JoinedIsLoneWrite : Type 0
JoinedIsLoneWrite =
    (w k : ℕ) (p q : Plan) (m : Term)
    → Realises (Var w) p m → All LiteralFits p.parts → k < 2 ^ w → IsJoined (writing w k p) q
    → IsLoneWrite q (length p.parts) (suc (length p.parts)) w k (written_cut (unread p)) (unread p)

-- So where a plan realises the variable M, the plan without that joint is regular where it is written, rests after each write, and
-- does what `M := k` does where it is written with k: all that is asked of the stage of M, but how it lies in the whole.
abbrev pub VariableIsWritten : Type 0
VariableIsWritten =
    (w : ℕ) (p : Plan) (m : Term)
    → Realises (Var w) p m → All LiteralFits p.parts
    → IsRegularAt 1 (unread p) × IsRestfulAt 1 (unread p)
    × ((k : ℕ) → k < 2 ^ w → Typed p.imports [] (Assign m (Lit k w)) Com × SessionIsRealised (unread p) 1 k (Assign m (Lit k w)))

-- The same of a plan that realises the expression N: it is the stage of N as it is.
abbrev pub NumberIsAsked : Type 0
NumberIsAsked =
    (w : ℕ) (p : Plan) (n : Term)
    → Realises (Exp w) p n
    → IsRegularAt 0 p × IsRestfulAt 0 p × ((i : ℕ) (t : Type') (side : ℕ) → IsLoyal i t side p → IsLoyalAt 0 i t side p)
