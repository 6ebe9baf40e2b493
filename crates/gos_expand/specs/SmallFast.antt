-- The fast circuit of the plan of `skip`, and depths that are none.
--
-- Read first: Fast; SmallNets; SmallPlans of gos_plan.
use Rattle.std.specs.Prelude.{ℕ, zero, false, [], ◌∷◌, codes}
use Rattle.gos_plan.specs.Plans.{End, PartEnd, ResultEnd}
use Rattle.gos_plan.specs.SmallPlans.{skip_plan}
use Rattle.gos_expand.specs.Starts.{Laying, chosen}
use Rattle.gos_expand.specs.Fast.{by_number, AreDepths, IsFastOf}
use Rattle.gos_expand.specs.SmallNets.{skip_netlist, skip_straight}

-- It has no register in its joint. The netlist with both isn't fast.
abbrev pub SkipIsFast : Type 0
SkipIsFast = IsFastOf skip_plan (codes "main") skip_straight

abbrev pub RegistersAreNotFast : Type 0
RegistersAreNotFast = IsFastOf skip_plan (codes "main") skip_netlist → ⊥

-- What comes in at the part has depth 1, and what its answer is at the result 2: so it is if no register is between.
abbrev pub straight : Laying
straight = by_number skip_plan (chosen (false ∷ false ∷ []))

abbrev pub skip_depth : End → ℕ
skip_depth (PartEnd zero zero) = 1
skip_depth (ResultEnd zero) = 2
skip_depth e = 0

abbrev pub SkipHasDepths : Type 0
SkipHasDepths = AreDepths straight skip_plan skip_depth

-- all of them 1 are none, nor are all 0
abbrev pub OneIsNoDepth : Type 0
OneIsNoDepth = AreDepths straight skip_plan (λ e. 1) → ⊥

abbrev pub NoneIsNoDepth : Type 0
NoneIsNoDepth = AreDepths straight skip_plan (λ e. 0) → ⊥
