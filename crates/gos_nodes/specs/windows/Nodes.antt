-- Nodes: a plan whose own part runs its children, one at a time; each child, joined to its supplies, is a region.
--
-- Read first: Regions; Sessions of sessions; Regular, Realises of gos_realises. Children may share supplies, by Shares.
use Rattle.std.specs.Prelude.{◌≡◌, ℕ, List, [], ◌∷◌, ◌++◌, ◌⊎◌, Some, None, All, slice_get, Contains}
use Rattle.gos_types.specs.Types.{IsDone}
use Rattle.gos_model.specs.Typing.{Imported}
use Rattle.gos_plan.specs.Kinds.{Part}
use Rattle.gos_plan.specs.Firing.{Phase}
use Rattle.gos_plan.specs.Plans.{End, PartEnd, ImportEnd, ResultEnd, Plan, IsRight}
use Rattle.gos_plan.specs.Tokens.{Tokens, Element, Out, Runs, IsIdle}
use Rattle.gos_plan.specs.TokenBits.{LiteralFits}
use Rattle.gos_realises.specs.realises.Regular.{InputsKeepTurns, OutputsKeepTurns, IsRegular}
use Rattle.gos_realises.specs.realises.Realises.{AllGround, NamesDiffer}
use Rattle.gos_joining.specs.webs.Webs.{joint}
use Rattle.gos_joining.specs.webs.Cutting.{Cut, lies_at, StandsIn}
use Rattle.gos_nodes.specs.sessions.Sessions.{Form, Session, own_part, own_type, run_shake, session_of}
use Rattle.gos_nodes.specs.windows.Regions.{Serving, IsRegion, IsLoyal}

-- A child joined to its supplies: how it lies in the whole, the Shares that serve in it, its plan, and the handshake at which
-- the own part runs it.
pub record Stage : Type 0 where
  pub cut : Cut
  pub sides : List Serving
  pub plan : Plan
  pub asked_at : ℕ

-- A plan rests after its answer: over every list from an idle state whose inputs keep turns and that ends with the answer of
-- its result, all is idle.
abbrev pub IsRestful : Plan → Type 0
IsRestful p =
    (s t : Tokens) (xs : List Element) (v : ℕ)
    → IsIdle p s → Runs p (xs ++ Out (ResultEnd 0) v ∷ []) s t → InputsKeepTurns p [] (xs ++ Out (ResultEnd 0) v ∷ []) → IsIdle p t

-- a stage of the whole r, whose own part is number d
pub record IsStage (r : Plan) (d : ℕ) (g : Stage) : Type 0 where
  pub region : IsRegion g.cut g.sides r g.plan
  pub outside : g.cut.number d ≡ None
  pub outcome : IsDone g.plan.outcome
  pub regular : IsRegular g.plan
  pub restful : IsRestful g.plan
  pub loyal : (n : Serving) (i : ℕ) → Contains g.sides n → g.cut.number n.part ≡ Some i → IsLoyal i n.ty n.side g.plan
  pub run_by : StandsIn g.plan (ResultEnd 0) → g.cut.outer (ResultEnd 0) ≡ PartEnd d g.asked_at
  pub imports : (i : Imported) → Contains g.plan.imports i → Contains r.imports i
  pub names : NamesDiffer g.plan.imports
  pub ports :
      (i h : ℕ) → StandsIn g.plan (ImportEnd i h)
      → (k : ℕ) × (g.cut.outer (ImportEnd i h) ≡ ImportEnd k h) × (slice_get r.imports k ≡ slice_get g.plan.imports i)

-- a joint of the whole that one of the stages has
abbrev pub IsOfStage : List Stage → End → End → Type 0
IsOfStage gs a b =
    (g : Stage) × (d : End) × (e : End) × Contains gs g × Contains g.plan.joints (joint d e) × (lies_at g.cut d ≡ a) × (lies_at g.cut e ≡ b)

-- The whole is the own part of a form and its stages: each session of the form's table has one, and each joint and each part of the
-- whole is of the own part or of a stage.
pub record IsNode (r : Plan) (d : ℕ) (f : Form) (gs : List Stage) : Type 0 where
  pub right : IsRight r
  pub own : slice_get r.parts d ≡ Some (own_part f)
  pub outcome : r.outcome ≡ own_type f
  pub done : IsDone (own_type f)
  pub literals : All LiteralFits r.parts
  pub ground : AllGround r.imports
  pub names : NamesDiffer r.imports
  pub stages : (g : Stage) → Contains gs g → IsStage r d g
  pub one : (g e : Stage) → Contains gs g → Contains gs e → g.asked_at ≡ e.asked_at → g ≡ e
  pub staged :
      (p : Phase) (n : ℕ) (e : Session) → session_of f p n ≡ Some e
      → (g : Stage) × Contains gs g × (g.asked_at ≡ e.asked_at) × (g.plan.outcome ≡ e.ty)
  pub result : Contains r.joints (joint (ResultEnd 0) (PartEnd d (run_shake (own_part f))))
  pub joints :
      (a b : End) → Contains r.joints (joint a b)
      → ((a ≡ ResultEnd 0) × (b ≡ PartEnd d (run_shake (own_part f)))) ⊎ IsOfStage gs a b
  pub parts :
      (i : ℕ) (k : Part) → slice_get r.parts i ≡ Some k
      → (i ≡ d) ⊎ ((g : Stage) × (j : ℕ) × Contains gs g × (g.cut.number i ≡ Some j))

-- the outputs of a plan keep turns, over every list from an idle state whose inputs do
abbrev pub OutputsInTurn : Plan → Type 0
OutputsInTurn p = (s t : Tokens) (xs : List Element) → IsIdle p s → Runs p xs s t → InputsKeepTurns p [] xs → OutputsKeepTurns p [] xs

-- So it is with a node, which rests after its answer.
abbrev pub NodeKeepsTurns : Type 0
NodeKeepsTurns = (r : Plan) (d : ℕ) (f : Form) (gs : List Stage) → IsNode r d f gs → OutputsInTurn r × IsRestful r

-- A node's plan is regular, and rests after its answer.
abbrev pub NodeIsRegular : Type 0
NodeIsRegular = (r : Plan) (d : ℕ) (f : Form) (gs : List Stage) → IsNode r d f gs → IsRegular r × IsRestful r
