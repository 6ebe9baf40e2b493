-- Small terms, and how many waits stand in them.
use Rattle.gos_model.specs.Terms.{Arr, Wait}
use Rattle.std.specs.Prelude.{◌≡◌, ◌+◌, ℕ, true, false}
use Rattle.std.proofs.Common.{arith, refl, sym, inl, inr}
use Rattle.gos_model.specs.SmallPrograms.{c}
use Rattle.gos_programs.specs.variables.SmallVariables.{OneWaits, WaitIsReached, IndexWaitsToo, LabelsAreCounted, AnswersAreNotActive}

not_false : true ≡ false → ⊥
not_false e = cc e

pub one_waits : OneWaits
one_waits = ((tt, tt), λ h. not_false h.0)

pub wait_is_reached : WaitIsReached
wait_is_reached = ((1, 0, refl, refl, refl), none, λ h. not_false h.1)
  where
    none : (j : ℕ) × (k : ℕ) × (0 ≡ j + k) × (j ≡ 1) × (k ≡ 0) → ⊥
    none (j, k, e, one, zero) = omega (arith, e, one)

zero_not_one : ◌≡◌ {A = ℕ} 1 0 → ⊥
zero_not_one e = omega (arith, e)

pub index_waits_too : IndexWaitsToo
index_waits_too = (
  inr (inl ((c, refl), refl, tt, refl)),
  λ h. elim h [ inl g ↦ zero_not_one g.0 | inr g ↦ elim g [ inl k ↦ zero_not_one (cc k.0.1) | inr k ↦ no_array k.0.0 k.0.1 ] ],
)
  where
    no_array : (l : ℕ) → Wait c 1 ≡ Arr l → ⊥
    no_array l e = cc e

pub labels_are_counted : LabelsAreCounted
labels_are_counted = (refl, refl, refl)

pub answers_are_not_active : AnswersAreNotActive
answers_are_not_active = (tt, refl, λ h. not_false (sym h))
