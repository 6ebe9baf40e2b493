-- Links that fit, links that do not, and a small plan that is slim.
--
-- Read first: Wirings, Slim; SmallPlans of gos_plan.
use Rattle.std.specs.Prelude.{[], ◌∷◌}
use Rattle.gos_types.specs.Types.{Com, Exp}
use Rattle.gos_plan.specs.Kinds.{Skip, Lit}
use Rattle.gos_plan.specs.Plans.{PartEnd, ResultEnd}
use Rattle.gos_plan.specs.Joining.{Link, Wiring}
use Rattle.gos_plan.specs.SmallPlans.{skip_plan, same_plan, same_of_skip}
use Rattle.gos_realises.specs.realises.Links.{LinksFit}
use Rattle.gos_realises.specs.realises.Wirings.{lone, link, applying}
use Rattle.gos_realises.specs.realises.Slim.{IsSlim}

-- the links of `fun a : com . a` and its argument `skip` fit
abbrev pub SameFits : Type 0
SameFits = LinksFit same_of_skip

-- a number is no argument for it: the answers have other bits
abbrev pub NumberDoesNotFit : Type 0
NumberDoesNotFit = LinksFit (applying Com Com same_plan (lone (Lit 8 1) 0 (Exp 8))) → ⊥

-- the argument's handshake, linked to the plan of `skip`
abbrev pub argument_link : Link
argument_link = link 0 (ResultEnd 0) 1 (ResultEnd 0)

-- no end is linked twice
abbrev pub twice_linked : Wiring
twice_linked = record same_of_skip { links = argument_link ∷ argument_link ∷ [] }

abbrev pub TwiceDoesNotFit : Type 0
TwiceDoesNotFit = LinksFit twice_linked → ⊥

-- an end of a part that stands in a joint of its own plan is not linked besides
abbrev pub part_linked : Wiring
part_linked = record same_of_skip { links = link 0 (ResultEnd 0) 1 (PartEnd 0 0) ∷ [] }

abbrev pub PartDoesNotFit : Type 0
PartDoesNotFit = LinksFit part_linked → ⊥

-- an end that is not there is not linked
abbrev pub nowhere_linked : Wiring
nowhere_linked = record same_of_skip { links = link 0 (ResultEnd 0) 1 (PartEnd 1 0) ∷ [] }

abbrev pub NowhereDoesNotFit : Type 0
NowhereDoesNotFit = LinksFit nowhere_linked → ⊥

-- the plan of `skip` is slim, and would not be without its weight
abbrev pub SkipIsSlim : Type 0
SkipIsSlim = IsSlim skip_plan

abbrev pub WeightIsNeeded : Type 0
WeightIsNeeded = IsSlim (lone Skip 0 Com) → ⊥
