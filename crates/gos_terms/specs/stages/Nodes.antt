-- A wired node of which each joint and each part is its own part's or a child's is a node of stages, with imports of any types.
--
-- Read first: Stages; Sessions of gos_nodes. What is left to be known of a form is that its children cover it.
use Rattle.std.specs.Prelude.{◌≡◌, ℕ, List, map, ◌⊎◌, Some, All, length, slice_get, Contains}
use Rattle.gos_types.specs.Types.{IsDone}
use Rattle.gos_plan.specs.Kinds.{Contact, Part}
use Rattle.gos_plan.specs.Firing.{Phase}
use Rattle.gos_plan.specs.Plans.{End, PartEnd, ResultEnd, Plan, contact_at}
use Rattle.gos_plan.specs.TokenBits.{LiteralFits}
use Rattle.gos_realises.specs.realises.Realises.{NamesDiffer}
use Rattle.gos_joining.specs.webs.Webs.{Dot, Tie, IsOfWeb, joint}
use Rattle.gos_nodes.specs.sessions.Sessions.{Form, Session, own_part, own_type, run_shake, session_of}
use Rattle.gos_nodes.specs.windows.Nodes.{Stage, IsStage}
use Rattle.gos_nodes.specs.windows.OpenNodes.{IsOpenNode}
use Rattle.gos_terms.specs.wired.Wired.{Placing, dot_at}
use Rattle.gos_terms.specs.stages.Folding.{Child, asked, child_back, child_cut, IsChild, IsLaid}
use Rattle.gos_terms.specs.stages.Regions.{HasParts, IsStaged}
use Rattle.gos_terms.specs.stages.Stages.{stage_of}

-- a child with its plan, and how that is numbered
pub record Cared : Type 0 where
  pub child : Child
  pub placing : Placing
  pub plan : Plan

abbrev pub stage : Placing → Plan → Cared → Stage
stage pl r e = stage_of e.child pl e.placing r e.plan

-- what is known of it: the node's parts are `own`, and number d is its own part
pub record IsCared (own : List Part) (ts : List Tie) (first : ℕ) (pl : Placing) (r : Plan) (d : ℕ) (e : Cared) : Type 0 where
  pub child : IsChild e.child ts
  pub parts : HasParts e.child own r.outcome
  pub laid : IsLaid own e.child.numbers e.child.env pl r
  pub staged : IsStaged e.child pl e.placing r e.plan
  pub stage : IsStage r d (stage pl r e)
  pub begins : e.child.first ≡ first

-- The children cover the node: each end is of one of them, but for those at which the node is run; so is each part but
-- for its own.
pub record AreCovering (f : Form) (first : ℕ) (pl : Placing) (r : Plan) (d : ℕ) (es : List Cared) : Type 0 where
  pub ends :
      (a : End) (k : Contact) → contact_at r a ≡ Some k
      → (a ≡ ResultEnd 0) ⊎ (a ≡ PartEnd d (run_shake (own_part f)))
      ⊎ ((e : Cared) × (x : Dot) × Contains es e × (child_back e.child (dot_at first pl a) ≡ Some x))
  pub parts :
      (i : ℕ) (y : Part) → slice_get r.parts i ≡ Some y
      → (i ≡ d) ⊎ ((e : Cared) × (j : ℕ) × Contains es e × ((child_cut e.child pl e.placing (length r.parts)).number i ≡ Some j))

-- what the node itself has to be
pub record IsFormed (f : Form) (r : Plan) (d : ℕ) : Type 0 where
  pub own : slice_get r.parts d ≡ Some (own_part f)
  pub outcome : r.outcome ≡ own_type f
  pub done : IsDone (own_type f)
  pub literals : All LiteralFits r.parts
  pub names : NamesDiffer r.imports
  pub result : Contains r.joints (joint (ResultEnd 0) (PartEnd d (run_shake (own_part f))))

abbrev pub StagesMakeNode : Type 0
StagesMakeNode =
    (f : Form) (own : List Part) (ts : List Tie) (first : ℕ) (pl : Placing) (r : Plan) (d : ℕ) (es : List Cared)
    → IsOfWeb (record { ties = ts; at = dot_at first pl }) r → IsFormed f r d
    → ((e : Cared) → Contains es e → IsCared own ts first pl r d e)
    → AreCovering f first pl r d es
    → ((e b : Cared) → Contains es e → Contains es b → asked e.child ≡ asked b.child → e ≡ b)
    → ((p : Phase) (n : ℕ) (s : Session) → session_of f p n ≡ Some s
    → (e : Cared) × Contains es e × (asked e.child ≡ s.asked_at) × (e.plan.outcome ≡ s.ty))
    → IsOpenNode r d f (map (stage pl r) es)
