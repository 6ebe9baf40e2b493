-- A split of `skip`, and what is none.
--
-- Read first: Inside; SmallBuffers of gos_sharing. They show that these definitions can be met and can be missed.
use Rattle.std.specs.Prelude.{◌≡◌, List, [], ◌∷◌}
use Rattle.gos_types.specs.Types.{Com}
use Rattle.gos_model.specs.Terms as terms
use Rattle.gos_check.specs.declared.linear.Split.{Split}
use Rattle.gos_compile.specs.Wiring.{Types}
use Rattle.gos_plan.specs.SmallPlans.{skip_plan}
use Rattle.gos_realises.specs.realises.OtherPlans.{empty_plan}
use Rattle.gos_terms.specs.wired.Wired.{Supplies, AreRealised}
use Rattle.gos_sharing.specs.buffers.SmallBuffers.{shared_skip}
use Rattle.gos_sharing.specs.behind.Behind.{passing}
use Rattle.gos_terms.specs.stages.Inside.{inside_supplies, AreSplit}

-- every number is a command, and stands for `skip`
abbrev pub commands : Types
commands n = Com

abbrev pub skips : Supplies
skips n = record { plan = skip_plan; term = terms.Skip }

abbrev pub nothings : Supplies
nothings n = record { plan = empty_plan; term = terms.Skip }

-- number 0 is split into 1 and 2, and 1 into 3 and 4
abbrev pub one_split : List Split
one_split = record { of = 0; left = 1; right = 2 } ∷ []

abbrev pub two_splits : List Split
two_splits = record { of = 0; left = 1; right = 2 } ∷ record { of = 1; left = 3; right = 4 } ∷ []

-- Its first side stands for `skip` behind the first caller, and the second side of that one for it behind two Shares.
abbrev pub BothHaveShares : Type 0
BothHaveShares =
    ((inside_supplies commands one_split skips 1).plan ≡ shared_skip)
    × ((inside_supplies commands one_split skips 2).plan ≡ passing Com 1 skip_plan)
    × ((inside_supplies commands two_splits skips 4).plan ≡ passing Com 1 (passing Com 0 skip_plan))

-- a number for which nothing stands isn't split
abbrev pub UnboundIsNotSplit : Type 0
UnboundIsNotSplit = AreSplit one_split (1 ∷ []) → ⊥

-- what has no joints is no supply
abbrev pub EmptyIsNone : Type 0
EmptyIsNone = AreRealised commands nothings (0 ∷ []) → ⊥
