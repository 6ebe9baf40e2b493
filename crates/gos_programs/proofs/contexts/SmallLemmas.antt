-- Small terms and stores.
use Rattle.std.specs.Prelude.{◌≡◌, ◌⊎◌, ℕ, zero, suc, [], ◌∷◌, true, false, Some, None}
use Rattle.std.specs.Str.{bytes_eq}
use Rattle.std.proofs.Common.{arith, refl, sym, ap, subst, inl, inr, ◌∙◌}
use Rattle.std.proofs.lemmas.Option.{none-some}
use Rattle.gos_types.specs.Types.{Com, Var}
use Rattle.gos_types.proofs.BytesLemmas.{same_bytes_eq}
use Rattle.gos_model.specs.Stores.{Entry, variable_at, entry_at}
use Rattle.gos_model.specs.Terms.{Name, Arr, Wait}
use Rattle.gos_model.specs.Typing.{import_type}
use Rattle.gos_model.specs.Labels.{Port, Given, Taken}
use Rattle.gos_model.specs.SmallPrograms.{c}
use Rattle.gos_model.proofs.NumberLemmas.{number_cases}
use Rattle.gos_programs.specs.contexts.Renaming.{IsInjective}
use Rattle.gos_programs.proofs.contexts.StoreLemmas.{first_at, later_at}
use Rattle.gos_programs.proofs.contexts.PlacedLemmas.{name_cases}
use Rattle.gos_programs.specs.contexts.SmallContexts.{one_at, one_variable, SidesAreNotAlone, RequestsAreNotInner, BlocksOpenInPlace, BlocksOpenInIndex, IndexIsNotAlone, StoresKeepScopes, LocationsStand, LocationsAreScoped, BlocksDiffer, BlockIsRenamed, RenamingsTellApart, ZeroIsFree, NoneAreAmongSome, NamesAreKnown, EntriesInAnyOrder, StoresAreApart, StoreIsHeld, LocationIsPlaced, OthersAreLeft, HomeIsApart, LabelsElsewhere}

there_some : {A : Type 0} (a : A) → Some a ≡ None → ⊥
there_some a e = cc e

pub sides_are_not_alone : SidesAreNotAlone
sides_are_not_alone = (tt, λ h. h)

pub requests_are_not_inner : RequestsAreNotInner
requests_are_not_inner = ((λ e. cc e, tt), λ h. h.0 refl)

pub blocks_open_in_place : BlocksOpenInPlace
blocks_open_in_place = ((inl tt, tt), λ h. h.1, λ h. h)

one_not_zero : ◌≡◌ {A = ℕ} 1 0 → ⊥
one_not_zero e = omega (arith, e)

pub blocks_open_in_index : BlocksOpenInIndex
blocks_open_in_index = (
  inr (inl ((c, refl), tt, inl tt)),
  λ h. elim h [
    | inl g ↦ g.1.1
    | inr g ↦ elim g [ inl k ↦ one_not_zero (cc k.0.1) | inr k ↦ no_array k.0.0 k.0.1 ]
  ],
  inr (inr ((0, refl), inl tt)),
)
  where
    no_array : (l : ℕ) → Wait c 1 ≡ Arr l → ⊥
    no_array l e = cc e

pub index_is_not_alone : IndexIsNotAlone
index_is_not_alone = (λ h. h, tt)

-- what a store of one entry has
only_at : (k l : ℕ) → (k ≡ l → ⊥) → entry_at (one_at k) l ≡ None
only_at k l other = later_at (variable_at k 1 0) [] l other

none_next : (l : ℕ) → entry_at (one_at 0) (suc l) ≡ None
none_next l = only_at 0 (suc l) (λ h. omega (arith, h))

at_home : (l : ℕ) (e : Entry) → entry_at (one_at 0) l ≡ Some e → 0 ≡ l
at_home zero e h = refl
at_home (suc l) e h = absurd (none-some e (sym (none_next l) ∙ h))

pub stores_keep_scopes : StoresKeepScopes
stores_keep_scopes = ((inl tt, λ l e h. inl (at_home l e h)), λ h. h.1 0 (variable_at 0 1 0) refl)

pub locations_stand : LocationsStand
locations_stand = (((variable_at 0 1 0, refl), (variable_at 0 1 0, refl)), λ h. none-some h.0.0 h.0.1)

pub locations_are_scoped : LocationsAreScoped
locations_are_scoped = (inl refl, λ h. h.1)

pub blocks_differ : BlocksDiffer
blocks_differ = (
  ((λ h. h, tt), (λ h. h, tt), λ l a b. elim a [ inl x ↦ (elim b [ inl y ↦ omega (arith, x, y) | inr y ↦ y ]) | inr x ↦ x ]),
  λ h. h.2 0 (inl refl) (inl refl),
)

pub block_is_renamed : BlockIsRenamed
block_is_renamed = refl

next_apart : IsInjective suc
next_apart k l h = omega (arith, h)

pub renamings_tell_apart : RenamingsTellApart
renamings_tell_apart = (next_apart, λ h. let e : 0 ≡ 1 = h 0 1 refl in omega (arith, e))

pub zero_is_free : ZeroIsFree
zero_is_free = (none_next, λ h. there_some (variable_at 1 1 0) (h 0))

pub none_are_among_some : NoneAreAmongSome
none_are_among_some = (λ x t h. absurd (none-some t h), λ h. none-some Com (h c Com refl))

pub names_are_known : NamesAreKnown
names_are_known = ((Com, refl), λ h. none-some h.0 h.1)

zero_first : (l : ℕ) → entry_at (variable_at 0 1 0 ∷ one_at 1) l
    ≡ entry_at (variable_at 1 1 0 ∷ one_at 0) l
zero_first l =
    number_cases 0 l
    (λ here t. subst (λ (k : ℕ). entry_at (variable_at 0 1 0 ∷ one_at 1) k
    ≡ entry_at (variable_at 1 1 0 ∷ one_at 0) k) here refl)
    (λ other f.
    later_at (variable_at 0 1 0) (one_at 1) l other
    ∙ sym (number_cases 1 l
    (λ here t. first_at (variable_at 1 1 0) (one_at 0) l here
    ∙ sym (first_at (variable_at 1 1 0) [] l here))
    (λ apart g. later_at (variable_at 1 1 0) (one_at 0) l apart ∙ (only_at 0 l other ∙ sym (only_at 1 l apart)))))

pub entries_in_any_order : EntriesInAnyOrder
entries_in_any_order = (zero_first, λ h. there_some (variable_at 0 1 0) (h 0))

apart : (l : ℕ) → (entry_at (one_at 0) l ≡ None) ⊎ (entry_at (one_at 1) l ≡ None)
apart zero = inr refl
apart (suc l) = inl (none_next l)

pub stores_are_apart : StoresAreApart
stores_are_apart = (apart, λ h. both (h 0))
  where
    both : (entry_at (one_at 0) 0 ≡ None) ⊎ (entry_at (one_at 0) 0 ≡ None) → ⊥
    both (inl e) = there_some (variable_at 0 1 0) e
    both (inr e) = there_some (variable_at 0 1 0) e

pub store_is_held : StoreIsHeld
store_is_held = ((next_apart, (λ l. refl), λ l. refl), λ h. there_some (variable_at 0 1 0) (h.2 0))

pub location_is_placed : LocationIsPlaced
location_is_placed = (refl, refl)

pub others_are_left : OthersAreLeft
others_are_left = (left, λ h. none-some (Var 1) (h c refl))
  where
    left : (x : Name) → bytes_eq x c ≡ false → import_type [] x ≡ import_type one_variable x
    left x other = name_cases c x (λ same t. let bad : true ≡ false = sym (same_bytes_eq x c (sym same)) ∙ other in absurd (cc bad)) (λ f. rw f refl)

pub home_is_apart : HomeIsApart
home_is_apart = (
  record { injective = next_apart; free = none_next; apart = λ l h. omega (arith, h); entry = refl },
  λ h. h.apart 0 refl,
)

-- the first byte of a port's name
abbrev first_byte : Name → ℕ
first_byte [] = 0
first_byte (b ∷ bs) = b

abbrev first_of : Port → ℕ
first_of Given = 0
first_of (Taken x) = first_byte x

differ : (k n : ℕ) → k ≡ 99 → n ≡ 100 → k ≡ n → ⊥
differ k n a b e = omega (arith, a, b, e)

pub labels_elsewhere : LabelsElsewhere
labels_elsewhere = (λ e. differ (first_byte c) 100 refl refl (ap first_of e), λ h. h refl)
