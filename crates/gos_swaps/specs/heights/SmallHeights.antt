-- Small terms with their heights.
--
-- Read first: Heights.
use Rattle.std.specs.Prelude.{◌≡◌, ◌+◌}
use Rattle.gos_types.specs.Types.{Com}
use Rattle.gos_model.specs.Terms.{Term, Bound, Import, Lam, App, Both, Fst, Seq}
use Rattle.gos_model.specs.Substitution.{instantiate}
use Rattle.gos_model.specs.SmallPrograms.{c, d}
use Rattle.gos_swaps.specs.heights.Heights.{height}

-- `fst (c, d)` has height 1 and unfolds to c of height 0, and what stands in a sequence counts nothing
abbrev pub PairIsHigher : Type 0
PairIsHigher =
    (height (Fst (Both (Import c) (Import d))) ≡ 1) × (height (Import c) ≡ 0)
    × (height (Seq (Fst (Both (Import c) (Import d))) (Import d)) ≡ 0)

-- `x x`, of which a function takes both: not apart, and putting (`x x`) in adds more than its height
abbrev pub self_applied : Term
self_applied = App (Bound 0) (Bound 0)

abbrev pub CopiesMayRise : Type 0
CopiesMayRise =
    (height self_applied ≡ 1) × (height (instantiate self_applied (Lam Com self_applied)) ≡ 3)
    × (height self_applied + height (Lam Com self_applied) ≡ 2)
