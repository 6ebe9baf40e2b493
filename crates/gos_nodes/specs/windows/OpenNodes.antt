-- Nodes whose imports may have any types.
--
-- Read first: Nodes. At an import that is a function the surroundings ask, for its argument, while its result is open. So a stage
-- that has a part of such an import is asked there, and no other stage is.
use Rattle.std.specs.Prelude.{◌≡◌, ℕ, List, ◌⊎◌, Some, All, slice_get, Contains}
use Rattle.gos_types.specs.declared.shakes.Role.TheVariants.{Ask}
use Rattle.gos_types.specs.Types.{IsDone}
use Rattle.gos_plan.specs.Kinds.{Contact, Part}
use Rattle.gos_plan.specs.Firing.{Phase}
use Rattle.gos_plan.specs.Plans.{End, PartEnd, ImportEnd, ResultEnd, Plan, IsRight, contact_at}
use Rattle.gos_plan.specs.TokenBits.{LiteralFits}
use Rattle.gos_realises.specs.realises.Regular.{IsRegular}
use Rattle.gos_realises.specs.realises.Realises.{NamesDiffer}
use Rattle.gos_joining.specs.webs.Webs.{joint}
use Rattle.gos_joining.specs.webs.Cutting.{Cut, StandsIn}
use Rattle.gos_nodes.specs.sessions.Sessions.{Form, Session, own_part, own_type, run_shake, session_of}
use Rattle.gos_nodes.specs.windows.Nodes.{Stage, IsRestful, IsStage, IsOfStage, IsNode}

-- Where the region of c, in r, has one end of an import, it has each of those at which the surroundings ask and that stand in a
-- joint of the whole.
abbrev pub IsHeard : Cut → Plan → Plan → Type 0
IsHeard f r c =
    (i h n k : ℕ) (x : Contact)
    → StandsIn c (ImportEnd i h) → f.outer (ImportEnd i h) ≡ ImportEnd k h → contact_at c (ImportEnd i n) ≡ Some x → x.role ≡ Ask
    → (f.outer (ImportEnd i n) ≡ ImportEnd k n) × (StandsIn r (ImportEnd k n) → StandsIn c (ImportEnd i n))

-- a stage of the whole r, whose own part is number d, that is asked where an import of it asks
pub record IsOpenStage (r : Plan) (d : ℕ) (g : Stage) : Type 0 where
  pub stage : IsStage r d g
  pub heard : IsHeard g.cut r g.plan

-- a node, as `IsNode` has it, with imports of any types
pub record IsOpenNode (r : Plan) (d : ℕ) (f : Form) (gs : List Stage) : Type 0 where
  pub right : IsRight r
  pub own : slice_get r.parts d ≡ Some (own_part f)
  pub outcome : r.outcome ≡ own_type f
  pub done : IsDone (own_type f)
  pub literals : All LiteralFits r.parts
  pub names : NamesDiffer r.imports
  pub stages : (g : Stage) → Contains gs g → IsOpenStage r d g
  pub one : (g e : Stage) → Contains gs g → Contains gs e → g.asked_at ≡ e.asked_at → g ≡ e
  pub staged :
      (p : Phase) (n : ℕ) (e : Session) → session_of f p n ≡ Some e
      → (g : Stage) × Contains gs g × (g.asked_at ≡ e.asked_at) × (g.plan.outcome ≡ e.ty)
  pub result : Contains r.joints (joint (ResultEnd 0) (PartEnd d (run_shake (own_part f))))
  pub joints :
      (a b : End) → Contains r.joints (joint a b)
      → ((a ≡ ResultEnd 0) × (b ≡ PartEnd d (run_shake (own_part f)))) ⊎ IsOfStage gs a b
  pub parts :
      (i : ℕ) (k : Part) → slice_get r.parts i ≡ Some k
      → (i ≡ d) ⊎ ((g : Stage) × (j : ℕ) × Contains gs g × (g.cut.number i ≡ Some j))

-- At ground imports the surroundings don't ask.
abbrev pub GroundNodeIsOpen : Type 0
GroundNodeIsOpen = (r : Plan) (d : ℕ) (f : Form) (gs : List Stage) → IsNode r d f gs → IsOpenNode r d f gs

-- Its plan is regular, and rests after its answer.
abbrev pub OpenNodeIsRegular : Type 0
OpenNodeIsRegular = (r : Plan) (d : ℕ) (f : Form) (gs : List Stage) → IsOpenNode r d f gs → IsRegular r × IsRestful r
