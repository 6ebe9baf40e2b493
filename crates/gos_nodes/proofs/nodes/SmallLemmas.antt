-- `skip ; skip` is a node of two stages, which realise the terms of its sessions.
use Rattle.std.specs.Prelude.{◌≡◌, ℕ, [], Some, Contains}
use Rattle.std.proofs.Common.{arith, refl, subst}
use Rattle.std.proofs.lemmas.Option.{none-some, same_Some}
use Rattle.gos_types.specs.Types.{Com}
use Rattle.gos_model.specs.Terms as terms
use Rattle.gos_model.specs.Typing.{Typed}
use Rattle.gos_plan.specs.Firing.{Phase, First, Second}
use Rattle.gos_plan.specs.SmallPlans.{skip_plan}
use Rattle.gos_realises.specs.realises.Matched.{RealisesInTurn}
use Rattle.gos_realises.proofs.realises.SkipLemmas.{skip_is_realised}
use Rattle.gos_joining.specs.webs.SmallWebs.{twice_plan, first_out}
use Rattle.gos_nodes.specs.sessions.Sessions.{Session, session, session_of}
use Rattle.gos_nodes.specs.windows.Nodes.{Stage}
use Rattle.gos_nodes.specs.windows.SmallNodes.{second_out, twice_form}
use Rattle.gos_nodes.proofs.windows.SmallNodeLemmas as small
use Rattle.gos_nodes.specs.nodes.SmallNodes.{skip_stage, twice_stages, TwiceIsNode, OneStageIsNot, TwoSkipsAreRealised, TwiceIsRealised}
use Rattle.gos_nodes.proofs.windows.OpenLemmas.{ground_node_is_open}
use Rattle.gos_nodes.proofs.nodes.MatchedLemmas.{node_realises}

-- each Skip realises its term
skip_realises : RealisesInTurn skip_plan terms.Skip
skip_realises = skip_is_realised.means

abbrev first_session : Session
first_session = session 0 terms.Skip Com (λ x. terms.Seq x terms.Skip)

abbrev second_session : Session
second_session = session 1 terms.Skip Com (λ x. x)

-- a stage for each session, which realises the session's term
abbrev HasStage : Session → Type 0
HasStage e =
    (g : Stage) × Contains twice_stages g × (g.asked_at ≡ e.asked_at) × (g.plan.outcome ≡ e.ty)
    × Typed g.plan.imports [] e.term e.ty × RealisesInTurn g.plan e.term

stage_of : (p : Phase) (n : ℕ) (e : Session) → session_of twice_form p n ≡ Some e → HasStage e
stage_of First n e h =
    subst (λ (x : Session). HasStage x) (same_Some first_session e h) (skip_stage first_out 0, (0, omega arith, refl), refl, refl, refl, skip_realises)
stage_of Second n e h =
    subst (λ (x : Session). HasStage x) (same_Some second_session e h) (skip_stage second_out 1, (1, omega arith, refl), refl, refl, refl, skip_realises)
stage_of p n e h = absurd (none-some e h)

pub twice_is_node : TwiceIsNode
twice_is_node = small.twice_is_node

-- the second session has no stage among the first alone
pub one_stage_is_not : OneStageIsNot
one_stage_is_not = small.one_is_missing

no_stage : (g : Stage) → Contains [] g → ⊥
no_stage g (k, less, e) = omega (arith, less)

pub two_skips_are_realised : TwoSkipsAreRealised
two_skips_are_realised = (stage_of, λ real. let s = real First 0 first_session refl in no_stage s.0 s.1)

pub twice_is_realised : TwiceIsRealised
twice_is_realised = node_realises twice_plan 0 twice_form twice_stages (ground_node_is_open twice_plan 0 twice_form twice_stages twice_is_node) stage_of
