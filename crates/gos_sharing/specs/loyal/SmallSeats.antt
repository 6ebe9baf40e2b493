-- Small seats.
--
-- Read first: Seats; SmallBehind of behind. They show that the definition can be met and can be missed.
use Rattle.gos_sharing.specs.behind.SmallBehind.{shared_same}
use Rattle.gos_plan.specs.SmallPlans.{same_plan, skip_plan}
use Rattle.gos_sharing.specs.loyal.Seats.{Seat, same_seat, IsSeated}

-- the plan of `fun a : com . a` lies so in itself behind a Share, and that of `skip` doesn't
abbrev pub SameIsSeated : Type 0
SameIsSeated = IsSeated (same_seat same_plan) shared_same same_plan

abbrev pub SkipIsNotSeated : Type 0
SkipIsNotSeated = (g : Seat) → IsSeated g shared_same skip_plan → ⊥
