-- The plan of a variable as a stage that is written: what `M := k` does, the stage does in the session in which k is written.
--
-- Read first: Realised; Wirings of gos_realises. q is the plan of a variable joined to an Assign and a Lit of k, as `writing` wires
-- them.
use Rattle.std.specs.Prelude.{◌≡◌, ℕ, ◌^◌, ◌<◌, [], ◌∷◌, None, Some, Contains, slice_get}
use Rattle.gos_types.specs.Types.{Com}
use Rattle.gos_model.specs.Terms as terms
use Rattle.gos_model.specs.Terms.{Term}
use Rattle.gos_plan.specs.Kinds.{Lit}
use Rattle.gos_plan.specs.Plans.{PartEnd, ResultEnd, Plan}
use Rattle.gos_realises.specs.realises.Regular.{IsRegular}
use Rattle.gos_realises.specs.realises.Matched.{RealisesInTurn}
use Rattle.gos_joining.specs.webs.Webs.{joint}
use Rattle.gos_joining.specs.webs.Cutting.{Cut, StandsIn}
use Rattle.gos_nodes.specs.windows.Nodes.{Stage}
use Rattle.gos_nodes.specs.assignments.Writes.{HasStages}
use Rattle.gos_nodes.specs.assignments.Realised.{SessionIsRealised}

-- a stage that is written, and shares nothing
abbrev pub lone_stage : Cut → Plan → Stage
lone_stage f p = record { cut = f; sides = []; plan = p; asked_at = 1 }

-- q is the plan p with an Assign of w bits, its part d, and a Lit of k, its part l: the Assign is run by the result, asks the Lit for
-- the number, and writes p.
pub record IsLoneWrite (q : Plan) (d l w k : ℕ) (f : Cut) (p : Plan) : Type 0 where
  pub base : HasStages q d w (lone_stage f p ∷ [])
  pub outcome : q.outcome ≡ Com
  pub imports : q.imports ≡ p.imports
  pub lit : slice_get q.parts l ≡ Some (Lit w k)
  pub beside : f.number l ≡ None
  pub fits : k < 2 ^ w
  pub run : Contains q.joints (joint (ResultEnd 0) (PartEnd d 2))
  pub asks : Contains q.joints (joint (PartEnd d 0) (PartEnd l 0))
  pub written : StandsIn q (PartEnd d 1) → StandsIn p (ResultEnd 1)

-- Where q is regular and realises `M := k`, the session in which p is written with k is matched by `M := k`.
abbrev pub LoneWriteIsSession : Type 0
LoneWriteIsSession =
    (q : Plan) (d l w k : ℕ) (f : Cut) (p : Plan) (m : Term)
    → IsLoneWrite q d l w k f p → IsRegular q → RealisesInTurn q (terms.Assign m (terms.Lit k w)) → SessionIsRealised p 1 k (terms.Assign m (terms.Lit k w))
