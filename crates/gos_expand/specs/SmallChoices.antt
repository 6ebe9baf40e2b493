-- Which directions keep their registers, where few do: of the plan of `skip`, and of a plan with a ring.
--
-- Read first: Choices; SmallNets; SmallPlans of gos_plan.
use Rattle.std.specs.Prelude.{true, false, [], ◌∷◌}
use Rattle.gos_plan.specs.SmallPlans.{skip_plan}
use Rattle.gos_expand.specs.Starts.{keep_all, chosen}
use Rattle.gos_expand.specs.Choices.{KeepsFew}
use Rattle.gos_expand.specs.SmallNets.{ring_plan}

-- no direction of the joint of `skip` needs a register
abbrev pub SkipKeepsNone : Type 0
SkipKeepsNone = KeepsFew skip_plan (chosen (false ∷ false ∷ []))

abbrev pub AllAreTooMany : Type 0
AllAreTooMany = KeepsFew skip_plan keep_all → ⊥

-- where the sequence's request comes back to it, the request needs one, and the answer none
abbrev pub RingKeepsOne : Type 0
RingKeepsOne = KeepsFew ring_plan (chosen (true ∷ false ∷ []))

abbrev pub NoneAreTooFew : Type 0
NoneAreTooFew = KeepsFew ring_plan (chosen (false ∷ false ∷ [])) → ⊥
