-- Small running terms and stores.
use Rattle.std.specs.Prelude.{◌≡◌, ◌^◌, ◌<◌, ℕ, [], ◌∷◌, Some, length}
use Rattle.std.proofs.Common.{arith, refl, sym, ap, subst, inl, inr, ◌∙◌}
use Rattle.std.proofs.lemmas.Option.{none-some, same_Some}
use Rattle.gos_types.specs.Types.{Com, Exp, Var, Fun, Type', Pair}
use Rattle.gos_types.proofs.TypeLemmas.{same_expression_width, same_variable_width}
use Rattle.gos_model.specs.Terms.{Skip, Lit, Deref, Arr}
use Rattle.gos_model.specs.Typing.{Named, index_width}
use Rattle.gos_model.specs.Stores.{Entry, variable_at, entry_at}
use Rattle.gos_model.specs.SmallPrograms.{c}
use Rattle.gos_model.proofs.NumberLemmas.{number_cases}
use Rattle.gos_programs.proofs.contexts.StoreLemmas.{later_at}
use Rattle.gos_programs.specs.results.SmallResults.{one_entry, two_numbers, WritesFit, NoLocation, WaitsHaveTypes, AccessesHaveTypes, SharingIsNotAsked, OneBitFits, SomeResults}
use Rattle.gos_programs.specs.results.HasTypes.{EntryFits, HasType, widths_of}
use Rattle.gos_programs.proofs.results.StepLemmas.{variable_fits}

pub writes_fit : WritesFit
writes_fit = (
  (2, refl, omega arith, (2, refl, (variable_at 0 2 0, refl, refl, refl))),
  λ h.
      let one : 1 ≡ h.0 =
      ap (λ x. x.width) (same_Some (variable_at 0 1 0) h.3.2.0 h.3.2.1) ∙ (h.3.2.2 ∙ sym (same_variable_width h.0 h.3.0 h.3.1)) in
      let small : 3 < 2 ^ 1 = subst (λ (x : ℕ). 3 < 2 ^ x) (sym one) h.2 in
      omega (arith, small),
)

-- two numbers are not one
not_one : (e d : Entry) → Some e ≡ Some d → length e.numbers ≡ 2 → length d.numbers ≡ 1 → ⊥
not_one e d here two one =
    let same = ap (λ (x : Entry). length x.numbers) (same_Some e d here) in omega (arith, same, two, one)

pub no_location : NoLocation
no_location = (
  λ t h. none-some h.2.0 h.2.1,
  λ t h. not_one (record { place = 0; width = 8; numbers = 1 ∷ 2 ∷ [] }) h.2.0 h.2.1 refl h.2.3,
)

pub waits_have_types : WaitsHaveTypes
waits_have_types = (refl, λ t h. h)

no_variable : (a : Type') (w v : ℕ) → Var v ≡ Fun a (Var w) → ⊥
no_variable a w v e = cc e

pub accesses_have_types : AccessesHaveTypes
accesses_have_types = (
  (8, refl, (Pair (Exp 1) (Exp 1), refl, (Exp 1, Exp 1, refl, (refl, omega arith), (refl, omega arith)))),
  λ t h. no_variable (Pair (Exp 1) (Exp 1)) 8 h.0 h.2,
  (8, refl, (Exp 1, (2, 8, refl, inl refl, (record { place = 0; width = 8; numbers = 1 ∷ 2 ∷ [] }, refl, refl, refl)), (refl, omega arith))),
  alone,
)
  where
    alone : (t : Type') → HasType (widths_of (two_numbers 8 1 2)) [] [] (Deref (Arr 0)) t → ⊥
    alone t (w, e, (n, v, array, long, at)) = no_variable (Exp (index_width n)) v w array

pub sharing_is_not_asked : SharingIsNotAsked
sharing_is_not_asked = ((refl, refl, refl), λ h. h.3 (Named c) (0, omega arith, refl) (0, omega arith, refl))

fits_one : (l : ℕ) (e : Entry) → entry_at (one_entry 1 1) l ≡ Some e → EntryFits e
fits_one l e at =
    let d : Entry = variable_at 0 1 1 in
    number_cases 0 l
    (λ same yes.
    let here : Some d ≡ Some e = subst (λ (y : ℕ). entry_at (one_entry 1 1) y ≡ Some e) (sym same) at in
    subst EntryFits (same_Some d e here) (variable_fits 0 1 1 (omega arith)))
    (λ other no. absurd (none-some e (sym (later_at d [] l other) ∙ at)))

pub one_bit_fits : OneBitFits
one_bit_fits = (
  fits_one,
  λ f. let two : 2 < 2 ^ 1 = (f 0 (variable_at 0 1 2) refl).1 0 2 refl in omega (arith, two),
  λ f. let two : 2 < 2 ^ 1 = (f 0 (record { place = 0; width = 1; numbers = 1 ∷ 2 ∷ [] }) refl).1 1 2 refl in omega (arith, two),
  λ f. let some = (f 0 (record { place = 0; width = 1; numbers = [] }) refl).0 in omega (arith, some),
)

pub some_results : SomeResults
some_results = (
  inr (2, refl, refl, omega arith),
  λ h. elim h [
    | inl (e, v, k) ↦ is_com e
    | inr (w, e, v, fits) ↦ let small : 3 < 2 ^ 1 = subst (λ (x : ℕ). 3 < 2 ^ x) (sym (same_expression_width 1 w e)) fits in omega (arith, small)
  ],
  λ h. elim h [ inl (e, v, k) ↦ is_skip v | inr (w, e, v, fits) ↦ com_is w e ],
)
  where
    is_com : Exp 1 ≡ Com → ⊥
    is_com e = cc e

    com_is : (w : ℕ) → Com ≡ Exp w → ⊥
    com_is w e = cc e

    is_skip : Lit 0 1 ≡ Skip → ⊥
    is_skip e = cc e
