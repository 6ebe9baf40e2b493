-- An access that takes either of two events.
use Rattle.std.specs.Prelude.{◌≡◌, ◌⊎◌, ℕ, true, false, IsFalse}
use Rattle.std.proofs.Common.{arith, refl, inl, inr}
use Rattle.gos_model.specs.Terms.{Import}
use Rattle.gos_model.specs.ArrayPorts.{a, b}
use Rattle.gos_swaps.specs.doings.SmallDoings.{ArrayTakesEither}

one_not_three : ◌≡◌ {A = ℕ} 1 3 → ⊥
one_not_three e = omega (arith, e)

two_not_three : ◌≡◌ {A = ℕ} 2 3 → ⊥
two_not_three e = omega (arith, e)

other_sorts : ◌≡◌ {A = ℕ} 2 3 ⊎ (IsFalse true × IsFalse false) → ⊥
other_sorts (inl e) = two_not_three e
other_sorts (inr h) = absurd (cc h.0)

pub array_takes_either : ArrayTakesEither
array_takes_either = (
  (inr (a, refl, (1, 8, Import b, Import b, refl, refl, inl (refl, refl, refl))), refl),
  (inr (a, refl, (1, 8, Import b, Import b, refl, refl, inr (refl, omega arith, refl))), refl),
  (refl, inr (refl, refl)),
  λ same. one_not_three same.1,
  λ same. other_sorts same.1,
)
