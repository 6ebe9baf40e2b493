-- The plan of `M := N`: a part Assign, and the regions of N and of M, which run one after the other and may share supplies.
--
-- Read first: Regions, Nodes, OpenNodes and OneSession of windows; Tables of assign_part. N is asked for a number by handshake 0 of the Assign,
-- and M is written by handshake 1: it is the plan of a variable, of which the write alone is joined. Imports may have any types:
-- a stage that has a part of an import is asked where this asks.
use Rattle.std.specs.Prelude.{◌≡◌, ℕ, zero, suc, ◌<◌, List, ◌⊎◌, Option, Some, None, All, slice_get, Contains}
use Rattle.gos_types.specs.Types.{Type', Com, Exp, Var}
use Rattle.gos_model.specs.Typing.{Imported}
use Rattle.gos_plan.specs.Kinds.{Assign}
use Rattle.gos_plan.specs.Firing.{Phase, Value, Writing}
use Rattle.gos_plan.specs.Plans.{End, PartEnd, ImportEnd, ResultEnd, Plan, IsRight}
use Rattle.gos_plan.specs.TokenBits.{LiteralFits}
use Rattle.gos_realises.specs.realises.Regular.{IsRegular}
use Rattle.gos_realises.specs.realises.Realises.{NamesDiffer}
use Rattle.gos_joining.specs.webs.Webs.{joint}
use Rattle.gos_joining.specs.webs.Cutting.{StandsIn}
use Rattle.gos_nodes.specs.windows.Regions.{Serving, IsRegion}
use Rattle.gos_nodes.specs.windows.Nodes.{Stage, IsRestful, IsOfStage}
use Rattle.gos_nodes.specs.windows.OpenNodes.{IsHeard}
use Rattle.gos_nodes.specs.windows.OneSession.{IsRegularAt, IsRestfulAt, IsLoyalAt}

-- The result of which an Assign of w bits asks handshake h: of an expression its one handshake, of a variable the write.
-- The bits of the request, and those of the answer.
abbrev pub asked_type : ℕ → ℕ → Type'
asked_type zero w = Exp w
asked_type (suc h) w = Var w

abbrev pub request_bits : ℕ → ℕ → ℕ
request_bits zero w = 0
request_bits (suc h) w = w

abbrev pub answer_bits : ℕ → ℕ → ℕ
answer_bits zero w = w
answer_bits (suc h) w = 0

-- the handshake at which an Assign waits for an answer
abbrev pub waits_at : Phase → Option ℕ
waits_at Value = Some 0
waits_at Writing = Some 1
waits_at p = None

-- A stage of the whole r, whose part d is an Assign of w bits. It is asked by one handshake of its plan's result alone: no
-- other handshake of that stands in a joint.
pub record IsWriteStage (r : Plan) (d w : ℕ) (g : Stage) : Type 0 where
  pub region : IsRegion g.cut g.sides r g.plan
  pub outside : g.cut.number d ≡ None
  pub low : g.asked_at < 2
  pub outcome : g.plan.outcome ≡ asked_type g.asked_at w
  pub only : (h : ℕ) → StandsIn g.plan (ResultEnd h) → h ≡ g.asked_at
  pub regular : IsRegularAt g.asked_at g.plan
  pub loyal : (n : Serving) (i : ℕ) → Contains g.sides n → g.cut.number n.part ≡ Some i → IsLoyalAt g.asked_at i n.ty n.side g.plan
  pub run_by : StandsIn g.plan (ResultEnd g.asked_at) → g.cut.outer (ResultEnd g.asked_at) ≡ PartEnd d g.asked_at
  pub imports : (i : Imported) → Contains g.plan.imports i → Contains r.imports i
  pub names : NamesDiffer g.plan.imports
  pub ports :
      (i h : ℕ) → StandsIn g.plan (ImportEnd i h)
      → (k : ℕ) × (g.cut.outer (ImportEnd i h) ≡ ImportEnd k h) × (slice_get r.imports k ≡ slice_get g.plan.imports i)
  pub heard : IsHeard g.cut r g.plan

-- The whole has an Assign of w bits, its part d, and these are stages of it.
pub record HasStages (r : Plan) (d w : ℕ) (gs : List Stage) : Type 0 where
  pub right : IsRight r
  pub own : slice_get r.parts d ≡ Some (Assign w)
  pub literals : All LiteralFits r.parts
  pub names : NamesDiffer r.imports
  pub stages : (g : Stage) → Contains gs g → IsWriteStage r d w g

-- The whole is the Assign and its stages: that of N, which it asks at handshake 0, and that of M, which it writes at handshake 1.
-- Each joint of the whole is of the Assign or of a stage.
pub record IsWrite (r : Plan) (d w : ℕ) (gs : List Stage) : Type 0 where
  pub base : HasStages r d w gs
  pub outcome : r.outcome ≡ Com
  pub one : (g e : Stage) → Contains gs g → Contains gs e → g.asked_at ≡ e.asked_at → g ≡ e
  pub staged : (h : ℕ) → h < 2 → (g : Stage) × Contains gs g × (g.asked_at ≡ h)
  pub result : Contains r.joints (joint (ResultEnd 0) (PartEnd d 2))
  pub joints :
      (a b : End) → Contains r.joints (joint a b) → ((a ≡ ResultEnd 0) × (b ≡ PartEnd d 2)) ⊎ IsOfStage gs a b

-- each stage rests after the answer of a session
abbrev pub AreRestful : List Stage → Type 0
AreRestful gs = (g : Stage) → Contains gs g → IsRestfulAt g.asked_at g.plan

-- Such a plan is regular, and rests after its answer.
abbrev pub WriteIsRegular : Type 0
WriteIsRegular = (r : Plan) (d w : ℕ) (gs : List Stage) → IsWrite r d w gs → AreRestful gs → IsRegular r × IsRestful r
