-- Small seats.
use Rattle.std.specs.Prelude.{◌≡◌, ℕ, zero, suc, Some, slice_get}
use Rattle.std.proofs.Common.{refl}
use Rattle.gos_plan.specs.Kinds.{Skip}
use Rattle.gos_sharing.specs.behind.SmallBehind.{FirstIsBehind, shared_same}
use Rattle.gos_plan.specs.SmallPlans.{same_plan}
use Rattle.gos_types.specs.Types.{Com, Fun}
use Rattle.gos_sharing.specs.loyal.SmallSeats.{SameIsSeated, SkipIsNotSeated}
use Rattle.gos_sharing.proofs.loyal.SeatLemmas.{behind_is_seated}

pub same_is_seated : FirstIsBehind → SameIsSeated
same_is_seated first = behind_is_seated 0 (Fun Com Com) 0 shared_same same_plan first

pub skip_is_not_seated : SkipIsNotSeated
skip_is_not_seated g is = by_number (g.part 0) (is.parts 0 Skip refl).0
  where
    by_number : (n : ℕ) → slice_get shared_same.parts n ≡ Some Skip → ⊥
    by_number zero e = cc e
    by_number (suc n) e = cc e
