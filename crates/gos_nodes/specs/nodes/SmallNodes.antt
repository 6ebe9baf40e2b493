-- `skip ; skip` as a node of two stages, and what is none.
--
-- Read first: Realised; SmallWebs of gos_joining, SmallNodes of windows. The plan is a Seq and two Skips.
use Rattle.std.specs.Prelude.{ℕ, List, [], ◌∷◌}
use Rattle.gos_model.specs.Terms as terms
use Rattle.gos_plan.specs.SmallPlans.{skip_plan}
use Rattle.gos_realises.specs.realises.Matched.{RealisesInTurn}
use Rattle.gos_joining.specs.webs.Cutting.{Cut}
use Rattle.gos_joining.specs.webs.SmallWebs.{twice_plan, first_out}
use Rattle.gos_nodes.specs.windows.Nodes.{Stage, IsNode}
use Rattle.gos_nodes.specs.windows.SmallNodes.{second_out, twice_form}
use Rattle.gos_nodes.specs.nodes.Realised.{AreRealised}

-- a Skip as a stage, by how it is cut out and where it is asked
abbrev pub skip_stage : Cut → ℕ → Stage
skip_stage f h = record { cut = f; sides = []; plan = skip_plan; asked_at = h }

abbrev pub twice_stages : List Stage
twice_stages = skip_stage first_out 0 ∷ skip_stage second_out 1 ∷ []

-- the Seq is the own part of a node with these stages
abbrev pub TwiceIsNode : Type 0
TwiceIsNode = IsNode twice_plan 0 twice_form twice_stages

-- with the first stage alone it is not
abbrev pub OneStageIsNot : Type 0
OneStageIsNot = IsNode twice_plan 0 twice_form (skip_stage first_out 0 ∷ []) → ⊥

-- the stages realise the sessions' terms, and with no stage nothing would
abbrev pub TwoSkipsAreRealised : Type 0
TwoSkipsAreRealised = AreRealised twice_form twice_stages × (AreRealised twice_form [] → ⊥)

-- so the plan realises `skip ; skip`
abbrev pub TwiceIsRealised : Type 0
TwiceIsRealised = RealisesInTurn twice_plan (terms.Seq terms.Skip terms.Skip)
