-- Unfolding at one place ends, with no word of types.
--
-- Read first: Proper. The height counts applications and pairs along what may become a head. Of a pair only the higher
-- side counts; a form that is no head counts nothing, since unfolding stops there. A variable stands in at most one part
-- of an application, so the height of `M[N]` is at most that of M and that of N together.
use Rattle.std.specs.Prelude.{◌≤◌, ◌<◌, ◌+◌, ℕ, suc, max}
use Rattle.gos_model.specs.Terms.{Term, Lam, App, Both, Fst, Snd}
use Rattle.gos_model.specs.Substitution.{put_at}
use Rattle.gos_model.specs.Reach.{Under, Rewrites}
use Rattle.gos_swaps.specs.proper.Proper.{PartsApart}

abbrev pub height : Term → ℕ
height (Lam a m) = height m
height (App m n) = suc (height m + height n)
height (Both m n) = suc (max (height m) (height n))
height (Fst m) = height m
height (Snd m) = height m
height m = 0

-- no more than the heights of both
abbrev pub PuttingAdds : Type 0
PuttingAdds = (d : ℕ) (n m : Term) → PartsApart m → height (put_at d n m) ≤ height m + height n

-- at a head itself
abbrev pub UnfoldingLowers : Type 0
UnfoldingLowers = (m t : Term) → PartsApart m → Rewrites m t → height t < height m

-- and at a head under it
abbrev pub UnfoldingUnderLowers : Type 0
UnfoldingUnderLowers = (m t : Term) → PartsApart m → Under Rewrites m t → height t < height m
