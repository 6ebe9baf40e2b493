-- A part that runs stages, one at a time: what is asked of a stage, of the part's table, and of the whole.
use Rattle.std.specs.Prelude.{◌^◌, ◌<◌, All, slice_get, Contains, None}
use Rattle.std.proofs.Common.{◌≡◌, ℕ, List, [], ◌∷◌, ◌⊎◌, Some}
use Rattle.gos_types.specs.Types.{IsDone}
use Rattle.gos_model.specs.Typing.{Imported}
use Rattle.gos_plan.specs.Firing.{Rest, State, Slot, Req, Ans, Token, Row, at, put, firing}
use Rattle.gos_plan.specs.Plans.{End, PartEnd, ImportEnd, ResultEnd, Plan, IsRight}
use Rattle.gos_plan.specs.TokenBits.{LiteralFits}
use Rattle.gos_realises.specs.realises.Realises.{NamesDiffer}
use Rattle.gos_joining.specs.webs.Webs.{joint}
use Rattle.gos_joining.specs.webs.Cutting.{StandsIn}
use Rattle.gos_nodes.specs.windows.Regions.{Serving, IsRegion}
use Rattle.gos_nodes.specs.windows.Nodes.{Stage, IsOfStage}
use Rattle.gos_nodes.specs.windows.OpenNodes.{IsHeard}
use Rattle.gos_nodes.specs.windows.OneSession.{IsRegularAt, IsRestfulAt, IsLoyalAt}
use Rattle.gos_nodes.specs.windows.Windows.{Runner}
use Rattle.gos_nodes.proofs.windows.AskedLemmas.{IsAskedAt}

-- A stage of the whole r, which part d asks by one handshake of its result. No other handshake of that stands in a joint. It is
-- regular and loyal in lists of one session.
pub record IsAskedStage (r : Plan) (d : ℕ) (runner : Runner) (g : Stage) : Type 0 where
  pub region : IsRegion g.cut g.sides r g.plan
  pub outside : g.cut.number d ≡ None
  pub asked : IsAskedAt g.plan (runner.asked g) (runner.request_bits g) (runner.answer_bits g)
  pub only : (h : ℕ) → StandsIn g.plan (ResultEnd h) → h ≡ runner.asked g
  pub regular : IsRegularAt (runner.asked g) g.plan
  pub loyal : (n : Serving) (i : ℕ) → Contains g.sides n → g.cut.number n.part ≡ Some i → IsLoyalAt (runner.asked g) i n.ty n.side g.plan
  pub run_by : StandsIn g.plan (ResultEnd (runner.asked g)) → g.cut.outer (ResultEnd (runner.asked g)) ≡ PartEnd d g.asked_at
  pub imports : (i : Imported) → Contains g.plan.imports i → Contains r.imports i
  pub names : NamesDiffer g.plan.imports
  pub ports :
      (i h : ℕ) → StandsIn g.plan (ImportEnd i h)
      → (k : ℕ) × (g.cut.outer (ImportEnd i h) ≡ ImportEnd k h) × (slice_get r.imports k ≡ slice_get g.plan.imports i)
  pub heard : IsHeard g.cut r g.plan

-- the whole has the part, its number d, and these stages
pub record HasStages (r : Plan) (d : ℕ) (runner : Runner) (gs : List Stage) : Type 0 where
  pub right : IsRight r
  pub own : slice_get r.parts d ≡ Some runner.part
  pub literals : All LiteralFits r.parts
  pub names : NamesDiffer r.imports
  pub stages : (g : Stage) → Contains gs g → IsAskedStage r d runner g

-- what a firing of the part leads to: it asks a stage, with a number, or it answers
abbrev pub LeadsOn : Runner → List Stage → State → List Token → Type 0
LeadsOn runner gs q ts =
    ((g : Stage) × (n : ℕ) × Contains gs g × (runner.waits q ≡ Some g.asked_at) × (ts ≡ put (Req g.asked_at) n ∷ []) × (n < 2 ^ runner.request_bits g))
    ⊎ ((k : ℕ) × (q.phase ≡ Rest) × (ts ≡ put (Ans runner.run) k ∷ []))

-- The part's table: at rest it takes its request, and where it waits the answer, and nothing else.
pub record Table (runner : Runner) (gs : List Stage) : Type 0 where
  pub begins :
      (n : ℕ) (row : Row) → firing runner.part (at Rest n) (Req runner.run) ≡ Some row → LeadsOn runner gs (row.next 0) (row.puts 0)
  pub goes_on :
      (q : State) (g : Stage) (v : ℕ) (row : Row) → Contains gs g → runner.waits q ≡ Some g.asked_at → v < 2 ^ runner.answer_bits g
      → firing runner.part q (Ans g.asked_at) ≡ Some row → LeadsOn runner gs (row.next v) (row.puts v)
  pub no_other :
      (q : State) (slot : Slot) (row : Row) → firing runner.part q slot ≡ Some row
      → ((q.phase ≡ Rest) × (slot ≡ Req runner.run)) ⊎ ((h : ℕ) × (runner.waits q ≡ Some h) × (slot ≡ Ans h))
  pub takes_answer : (q : State) (h : ℕ) → runner.waits q ≡ Some h → (row : Row) × (firing runner.part q (Ans h) ≡ Some row)
  pub takes_request : (n : ℕ) → (row : Row) × (firing runner.part (at Rest n) (Req runner.run) ≡ Some row)
  pub none_at_rest : (q : State) (h : ℕ) → q.phase ≡ Rest → runner.waits q ≡ Some h → ⊥
  pub apart : (q : State) (h : ℕ) → runner.waits q ≡ Some h → h ≡ runner.run → ⊥

-- The whole is the part and its stages: each joint of it is of the part or of a stage.
pub record RunsStages (r : Plan) (d : ℕ) (runner : Runner) (gs : List Stage) : Type 0 where
  pub base : HasStages r d runner gs
  pub done : IsDone r.outcome
  pub table : Table runner gs
  pub one : (g e : Stage) → Contains gs g → Contains gs e → g.asked_at ≡ e.asked_at → g ≡ e
  pub result : Contains r.joints (joint (ResultEnd 0) (PartEnd d runner.run))
  pub joints :
      (a b : End) → Contains r.joints (joint a b) → ((a ≡ ResultEnd 0) × (b ≡ PartEnd d runner.run)) ⊎ IsOfStage gs a b

-- each stage rests after the answer of a session
abbrev pub AreRestful : Runner → List Stage → Type 0
AreRestful runner gs = (g : Stage) → Contains gs g → IsRestfulAt (runner.asked g) g.plan
