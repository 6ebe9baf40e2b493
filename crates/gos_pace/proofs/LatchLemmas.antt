-- The pulses of the latch.
use Rattle.std.specs.Prelude.{[], ◌∷◌}
use Rattle.std.proofs.Common.{refl}
use Rattle.gos_pace.specs.SmallPace.{LatchFlattens}

pub latch_flattens : LatchFlattens
latch_flattens = (
  ([], (_ ∷ []), refl, ([], [], refl, refl), refl),
  (
    ((_ ∷ []), [], ([], [], refl, refl), refl, refl),
    (((_ ∷ []), [], ([], [], refl, refl), refl, refl), tt),
  ),
)
