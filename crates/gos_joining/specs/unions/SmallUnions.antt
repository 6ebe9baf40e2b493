-- Small unions and flat wirings.
--
-- Read first: Flat; SmallPlans of gos_plan; SmallWebs of webs. They show that these definitions can be met and can be
-- missed.
use Rattle.std.specs.Prelude.{◌≡◌, [], ◌∷◌, Some}
use Rattle.gos_types.specs.Types.{Com, Exp, Fun}
use Rattle.gos_plan.specs.Kinds.{Skip, Deref}
use Rattle.gos_plan.specs.Plans.{PartEnd, ResultEnd, Plan}
use Rattle.gos_plan.specs.Joining.{Wiring}
use Rattle.gos_plan.specs.SmallPlans.{skip_plan, same_plan, same_of_skip}
use Rattle.gos_realises.specs.realises.Wirings.{lone, link, side, applying}
use Rattle.gos_joining.specs.webs.Webs.{Web, IsOfWeb, own_web}
use Rattle.gos_joining.specs.unions.Unions.{union, LinksStand}
use Rattle.gos_joining.specs.unions.Flat.{flat, IsBare}

-- the plan of `skip` alone, and its web
abbrev pub alone : Wiring
alone = side 0 Com skip_plan

abbrev pub skip_web : Web
skip_web = union alone (own_web skip_plan ∷ [])

-- There is a plan of one Skip of that web, and it isn't the one without joints.
abbrev pub SkipHasUnion : Type 0
SkipHasUnion = (r : Plan) × IsOfWeb skip_web r × (r.parts ≡ (Skip ∷ []))

abbrev pub UnjoinedIsNoUnion : Type 0
UnjoinedIsNoUnion = IsOfWeb skip_web (record skip_plan { joints = [] }) → ⊥

-- a link to a plan beyond its wiring's doesn't stand
abbrev pub beyond : Wiring
beyond = record alone { links = link 0 (ResultEnd 0) 1 (ResultEnd 0) ∷ [] }

abbrev pub BeyondStandsNowhere : Type 0
BeyondStandsNowhere = LinksStand beyond → ⊥

-- The plan of `fun a . a` applied to the joining of that plan and the plan of `skip`: three plans, and two links.
abbrev pub twice_applied : Wiring
twice_applied = flat (applying Com Com same_plan skip_plan) (side 0 (Fun Com Com) same_plan ∷ same_of_skip ∷ [])

abbrev pub TwiceAppliedIs : Type 0
TwiceAppliedIs =
    twice_applied
    ≡ record {
      plans = same_plan ∷ same_plan ∷ skip_plan ∷ [];
      links = link 1 (ResultEnd 0) 2 (ResultEnd 0) ∷ link 0 (ResultEnd 0) 1 (ResultEnd 1) ∷ [];
      giver = 0;
      skipped = 1;
      outcome = Com;
    }

-- Two plans of `skip`, of which the second is the result. The first Skip's joint is none of the joining's, but it isn't bare.
abbrev pub hidden : Wiring
hidden = record { plans = skip_plan ∷ skip_plan ∷ []; links = []; giver = 1; skipped = 0; outcome = Com }

abbrev pub HiddenIsNotBare : Type 0
HiddenIsNotBare = IsBare (Some hidden) (PartEnd 0 0) → ⊥

-- the operand's end of a lone Deref is
abbrev pub LoneIsBare : Type 0
LoneIsBare = IsBare (Some (side 0 (Exp 8) (lone (Deref 8) 1 (Exp 8)))) (PartEnd 0 0)
