-- Small terms under fewer imports, and with supplies.
use Rattle.std.specs.Prelude.{◌≡◌, zero, suc, Bool, true, false, [], ◌∷◌, ◌⊎◌, Some, None, if◌then◌else◌}
use Rattle.std.specs.Str.{bytes_eq}
use Rattle.std.proofs.Common.{refl, sym, ◌∙◌, ap, subst, arith, inl, inr}
use Rattle.gos_types.specs.Types.{Type', Com}
use Rattle.gos_types.proofs.BytesLemmas.{bytes_eq_same}
use Rattle.gos_model.specs.Terms.{Name, Term, Import}
use Rattle.gos_model.specs.Typing.{import_type, Named, Apart, Typed}
use Rattle.gos_model.specs.SmallPrograms.{c, d, two_commands}
use Rattle.gos_supplies.specs.typing.SmallTypings.{OneIsEnough, OneIsTooFew, changed, ChangedAreTyped, ChangedShareNothing, SharedAreTyped, SharedAreShared, SharedHasNoType}

pub one_is_enough : OneIsEnough
one_is_enough x (zero, small, at) = let same : c ≡ x = (let e : Named c ≡ Named x = at in cc e) in subst (λ (y : Name). import_type (record { name = c; ty = Com } ∷ []) y ≡ import_type two_commands y) same refl
one_is_enough x (suc k, small, at) = absurd (omega (arith, small))

pub one_is_too_few : OneIsTooFew
one_is_too_few agree =
    let no : None ≡ Some Com = agree d (1, omega arith, refl) in cc no

-- each of the two names is c or d
abbrev IsOne : Name → Type' → Type 0
IsOne x t = ((x ≡ c) ⊎ (x ≡ d)) × (t ≡ Com)

two_names : (x : Name) (t : Type') → import_type two_commands x ≡ Some t → IsOne x t
two_names x t e = by_first (bytes_eq c x) refl e
  where
    by_second : (b : Bool) → bytes_eq d x ≡ b → (if b then Some Com else None) ≡ Some t → IsOne x t
    by_second true test h = (inr (sym (bytes_eq_same d x test)), (let same : Com ≡ t = cc h in sym same))
    by_second false test h = absurd (cc h)

    by_first : (b : Bool) → bytes_eq c x ≡ b → (if b then Some Com else if bytes_eq d x then Some Com else None) ≡ Some t → IsOne x t
    by_first true test h = (inl (sym (bytes_eq_same c x test)), (let same : Com ≡ t = cc h in sym same))
    by_first false test h = by_second (bytes_eq d x) refl h

not_one : c ≡ d → ⊥
not_one e = let no : false ≡ true = ap (bytes_eq c) (sym e) in cc no

at_c : (x : Name) → x ≡ c → changed x ≡ Some (Import d)
at_c x e = ap changed e

at_d : (x : Name) → x ≡ d → changed x ≡ Some (Import c)
at_d x e = ap changed e

pub changed_are_typed : ChangedAreTyped
changed_are_typed x t e = by_name (two_names x t e)
  where
    by_name : IsOne x t → (n : Term) × (changed x ≡ Some n) × Typed two_commands [] n t
    by_name (inl name, same) = (Import d, at_c x name, sym (ap Some same))
    by_name (inr name, same) = (Import c, at_d x name, sym (ap Some same))

apart : (x y : Name) → (x ≡ y → ⊥) → Apart (Import x) (Import y)
apart x y other z (zero, small, at) (zero, less, here) =
    let both : Named x ≡ Named y = at ∙ sym here in
    let same : x ≡ y = cc both in other same
apart x y other z (zero, small, at) (suc k, less, here) = omega (arith, less)
apart x y other z (suc k, small, at) in_y = omega (arith, small)

pub changed_share_nothing : ChangedShareNothing
changed_share_nothing x y t u m n of_x of_y term_x term_y differ = by_names (two_names x t of_x).0 (two_names y u of_y).0
  where
    is_term : (v : Name) (k l : Term) → changed v ≡ Some k → changed v ≡ Some l → k ≡ l
    is_term v k l one two = let same : Some k ≡ Some l = sym one ∙ two in cc same

    by_names : (x ≡ c) ⊎ (x ≡ d) → (y ≡ c) ⊎ (y ≡ d) → Apart m n
    by_names (inl e) (inl f) = absurd (differ (e ∙ sym f))
    by_names (inl e) (inr f) =
        subst (λ (k : Term). Apart k n) (is_term x (Import d) m (at_c x e) term_x)
        (subst (λ (k : Term). Apart (Import d) k) (is_term y (Import c) n (at_d y f) term_y) (apart d c (λ g. not_one (sym g))))
    by_names (inr e) (inl f) =
        subst (λ (k : Term). Apart k n) (is_term x (Import c) m (at_d x e) term_x)
        (subst (λ (k : Term). Apart (Import c) k) (is_term y (Import d) n (at_c y f) term_y) (apart c d not_one))
    by_names (inr e) (inr f) = absurd (differ (e ∙ sym f))

pub shared_are_typed : SharedAreTyped
shared_are_typed x t e = (Import c, refl, sym (ap Some (two_names x t e).1))

pub shared_are_shared : SharedAreShared
shared_are_shared h =
    h c d Com Com (Import c) (Import c) refl refl refl refl not_one (Named c) (0, omega arith, refl) (0, omega arith, refl)

pub shared_has_no_type : SharedHasNoType
shared_has_no_type (e, h, k, apart) = apart (Named c) (0, omega arith, refl) (0, omega arith, refl)
