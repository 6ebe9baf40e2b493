-- The order of a linked plan's joints: that in which their asking ends stand in the joints of the instances' plans.
--
-- Read first: Joining of gos_plan; Order of gos_ties (joints that rise). The plans follow in the order of the instances, in each
-- plan its joints, and of each joint the end that asks and then the end that serves. In right plans an end is in one joint at most.
use Rattle.std.specs.Prelude.{ℕ, suc, ◌+◌, ◌&&◌, Bool, List, [], ◌∷◌, ◌++◌, nat_eq, if◌then◌else◌}
use Rattle.gos_plan.specs.Plans.{Joint, Plan, same_end}
use Rattle.gos_plan.specs.Joining.{Place, place, Wiring, origin}
use Rattle.gos_ties.specs.Order.{Rise}

-- the ends of joints of plan k, and of the joints of all plans, of which the first has number k
abbrev pub ends_in : ℕ → List Joint → List Place
ends_in k [] = []
ends_in k (j ∷ js) = place k j.asking ∷ place k j.serving ∷ ends_in k js

abbrev pub ends_from : ℕ → List Plan → List Place
ends_from k [] = []
ends_from k (p ∷ ps) = ends_in k p.joints ++ ends_from (k + 1) ps

-- whether two places are one
abbrev pub same_place : Place → Place → Bool
same_place a b = nat_eq a.plan b.plan && same_end a.end b.end

-- how many places stand before the first that is this one
abbrev pub position_in : List Place → Place → ℕ
position_in [] a = 0
position_in (b ∷ bs) a = if same_place a b then 0 else suc (position_in bs a)

-- the joints of a joining stand in the order in which their asking ends stand in the joints of the plans
abbrev pub AreInOrder : Wiring → List Joint → Type 0
AreInOrder w js = Rise (λ j. position_in (ends_from 0 w.plans) (origin w j.asking)) 0 js
