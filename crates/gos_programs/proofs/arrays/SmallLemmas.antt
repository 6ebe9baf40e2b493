-- Small terms with an array.
use Rattle.std.specs.Prelude.{◌≡◌, ◌+◌, ℕ, [], ◌∷◌, Option, Some, None}
use Rattle.std.proofs.Common.{arith, refl, ap, inl, inr}
use Rattle.gos_model.specs.Terms.{Lit, Import}
use Rattle.gos_model.specs.Stores.{Entry, number_in}
use Rattle.gos_programs.proofs.contexts.StoreLemmas.{later_at}
use Rattle.gos_programs.specs.arrays.LocalArray.{numbers_at}
use Rattle.gos_model.specs.ArrayPorts.{a, b}
use Rattle.gos_programs.specs.arrays.Stages.{Clear, Begun, Asked, Told}
use Rattle.gos_programs.specs.arrays.SmallLocalArrays.{StagesAreTold, OneStands, LocationIsPut, HomesAreApart, AskedIsAnswered}
use Rattle.gos_programs.proofs.arrays.ArrayLabelLemmas.{at_own}

pub stages_are_told : StagesAreTold
stages_are_told = (
  inr (inl (inl (1, refl, (refl, refl, refl), tt))),
  inr (inl (inl (0, refl, (refl, refl, refl), tt))),
  inr (inl (inl (1, refl, (refl, refl, 2, refl), tt))),
  λ h. let w = at_own a (Begun None) None 1 (Import b) (Lit 3 2) h in no_import w.0.2,
  λ h. let w = at_own a (Begun None) None 0 (Import b) (Import b) h in let bad : 0 ≡ 1 = w.0.1 in omega (arith, bad),
  λ h. let w = at_own a (Told None 3) None 1 (Import b) (Import b) h in no_number w.0.2 w.0.3,
)
  where
    no_import : Lit 3 2 ≡ Import b → ⊥
    no_import e = cc e

    no_number : (i : ℕ) → Import b ≡ Lit 3 i → ⊥
    no_number i e = cc e

pub one_stands : OneStands
one_stands = (
  inl (inr (inl (inl (0, refl, (refl, refl, tt), tt))), inl (refl, (tt, tt))),
  λ h. elim h [
    | inl g ↦ (at_own a Clear None 0 (Import b) (Import b) g.1).0
    | inr g ↦ (at_own a Clear None 0 (Import b) (Import b) g.0).0
  ],
  λ h. (let w = at_own a (Asked (Some 5)) None 0 (Import b) (Import b) h in no_write w.0.0),
)
  where
    no_write : ◌≡◌ {A = Option ℕ} (Some 5) None → ⊥
    no_write e = cc e

pub location_is_put : LocationIsPut
location_is_put = (refl, refl, refl)

pub homes_are_apart : HomesAreApart
homes_are_apart = (
  record {
    injective = λ k l h. omega (arith, h);
    free = λ l. later_at (numbers_at 0 8 (4 ∷ 5 ∷ [])) [] (1 + l) (λ h. omega (arith, h));
    apart = λ l h. omega (arith, h);
    entry = refl;
  },
  λ h. h.apart 0 refl,
  λ h. let numbers = ap (λ (o : Option Entry). number_in o 0) h.entry in let bad : ◌≡◌ {A = ℕ} 4 5 = cc numbers in omega (arith, bad),
)

pub asked_is_answered : AskedIsAnswered
asked_is_answered = (tt, tt, λ h. h, λ h. h)
