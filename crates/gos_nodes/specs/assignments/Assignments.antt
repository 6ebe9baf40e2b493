-- The whole law: the plan of `M := N` realises it, where the plans of the two sides realise theirs.
--
-- Read first: Written. Of the plans of the two sides only this is asked, and that their shared Shares are loyal.
use Rattle.std.specs.Prelude.{◌≡◌, ◌⊎◌, ℕ, [], ◌∷◌, None, Some, All, Contains, slice_get}
use Rattle.gos_types.specs.Types.{Com, Exp, Var}
use Rattle.gos_model.specs.Terms.{Term, Assign}
use Rattle.gos_model.specs.Typing.{Imported, Typed}
use Rattle.gos_plan.specs.Kinds as kinds
use Rattle.gos_plan.specs.Plans.{End, PartEnd, ImportEnd, ResultEnd, Plan, IsRight}
use Rattle.gos_plan.specs.TokenBits.{LiteralFits}
use Rattle.gos_realises.specs.realises.Realises.{AllPorts, NamesDiffer, Realises}
use Rattle.gos_joining.specs.webs.Webs.{joint}
use Rattle.gos_joining.specs.webs.Cutting.{StandsIn}
use Rattle.gos_nodes.specs.windows.Regions.{Serving, IsRegion, IsLoyal}
use Rattle.gos_nodes.specs.windows.Nodes.{Stage, IsRestful, IsOfStage}
use Rattle.gos_nodes.specs.windows.OpenNodes.{IsHeard}
use Rattle.gos_nodes.specs.assignments.Written.{unread}

-- How a stage lies in the whole r, whose part d asks it: its Shares are loyal in the plan p.
pub record IsLaid (r : Plan) (d : ℕ) (g : Stage) (p : Plan) : Type 0 where
  pub region : IsRegion g.cut g.sides r g.plan
  pub outside : g.cut.number d ≡ None
  pub loyal : (n : Serving) (i : ℕ) → Contains g.sides n → g.cut.number n.part ≡ Some i → IsLoyal i n.ty n.side p
  pub run_by : StandsIn g.plan (ResultEnd g.asked_at) → g.cut.outer (ResultEnd g.asked_at) ≡ PartEnd d g.asked_at
  pub imports : (i : Imported) → Contains g.plan.imports i → Contains r.imports i
  pub ports :
      (i h : ℕ) → StandsIn g.plan (ImportEnd i h)
      → (k : ℕ) × (g.cut.outer (ImportEnd i h) ≡ ImportEnd k h) × (slice_get r.imports k ≡ slice_get g.plan.imports i)

-- The whole r is an Assign of w bits, its part d, and two stages: N's, with the plan of N, and M's, with the plan p of M but for the
-- joint by which it is read. The stages are asked where imports of theirs ask.
pub record IsAssignment (r : Plan) (d w : ℕ) (number variable : Stage) (p : Plan) : Type 0 where
  pub right : IsRight r
  pub own : slice_get r.parts d ≡ Some (kinds.Assign w)
  pub outcome : r.outcome ≡ Com
  pub literals : All LiteralFits r.parts
  pub open_imports : AllPorts r.imports
  pub names : NamesDiffer r.imports
  pub asked : number.asked_at ≡ 0
  pub written : variable.asked_at ≡ 1
  pub plan : variable.plan ≡ unread p
  pub own_literals : All LiteralFits p.parts
  pub laid_number : IsLaid r d number number.plan
  pub laid_variable : IsLaid r d variable p
  pub number_heard : IsHeard number.cut r number.plan
  pub variable_heard : IsHeard variable.cut r variable.plan
  pub result : Contains r.joints (joint (ResultEnd 0) (PartEnd d 2))
  pub joints :
      (a b : End) → Contains r.joints (joint a b)
      → ((a ≡ ResultEnd 0) × (b ≡ PartEnd d 2)) ⊎ IsOfStage (number ∷ variable ∷ []) a b

-- The same with imports of any types, and of the two plans no more than their names.
pub record IsOpenAssignment (r : Plan) (d w : ℕ) (number variable : Stage) (p : Plan) : Type 0 where
  pub right : IsRight r
  pub own : slice_get r.parts d ≡ Some (kinds.Assign w)
  pub outcome : r.outcome ≡ Com
  pub literals : All LiteralFits r.parts
  pub names : NamesDiffer r.imports
  pub asked : number.asked_at ≡ 0
  pub written : variable.asked_at ≡ 1
  pub plan : variable.plan ≡ unread p
  pub laid_number : IsLaid r d number number.plan
  pub laid_variable : IsLaid r d variable p
  pub number_names : NamesDiffer number.plan.imports
  pub variable_names : NamesDiffer variable.plan.imports
  pub number_heard : IsHeard number.cut r number.plan
  pub variable_heard : IsHeard variable.cut r variable.plan
  pub result : Contains r.joints (joint (ResultEnd 0) (PartEnd d 2))
  pub joints :
      (a b : End) → Contains r.joints (joint a b)
      → ((a ≡ ResultEnd 0) × (b ≡ PartEnd d 2)) ⊎ IsOfStage (number ∷ variable ∷ []) a b

abbrev pub AssignmentIsRealised : Type 0
AssignmentIsRealised =
    (r : Plan) (d w : ℕ) (number variable : Stage) (p : Plan) (m n : Term)
    → IsAssignment r d w number variable p → Realises (Exp w) number.plan n → Realises (Var w) p m → Typed r.imports [] (Assign m n) Com
    → Realises Com r (Assign m n) × IsRestful r
