-- The plan of `skip` and the sides of a small pair.
--
-- Read first: Pairs; SmallPlans of gos_plan.
use Rattle.gos_types.specs.Types.{Com}
use Rattle.gos_model.specs.Terms.{Skip, Lit, Both, Fst, Snd}
use Rattle.gos_plan.specs.SmallPlans.{skip_plan}
use Rattle.gos_realises.specs.realises.Realises.{Realises}

-- it realises the first side of `(skip, 0)`
abbrev pub SideIsSkip : Type 0
SideIsSkip = Realises Com skip_plan (Fst (Both Skip (Lit 0 1)))

-- but not the second
abbrev pub SideIsNumber : Type 0
SideIsNumber = Realises Com skip_plan (Snd (Both Skip (Lit 0 1))) → ⊥
