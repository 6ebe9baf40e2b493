-- What a plan that realises a program has to have.
--
-- Read first: Progress; Realises of gos_realises, Cutting of gos_joining.
use Rattle.std.specs.Prelude.{ℕ, ◌<◌}
use Rattle.gos_types.specs.Types.{Type', IsDone}
use Rattle.gos_model.specs.Terms.{Term}
use Rattle.gos_plan.specs.Plans.{Plan, ResultEnd}
use Rattle.gos_realises.specs.realises.Regular.{count}
use Rattle.gos_realises.specs.realises.Realises.{Realises}
use Rattle.gos_joining.specs.webs.Cutting.{StandsIn}

-- A plan that realises a command or an expression has a joint at its result. Else its request would be lost, and the
-- plan quiet, where the program isn't stalled.
abbrev pub RealisersAreJoined : Type 0
RealisersAreJoined = (t : Type') (p : Plan) (m : Term) → IsDone t → Realises t p m → (j : ℕ) → j < count p.outcome → StandsIn p (ResultEnd j)
