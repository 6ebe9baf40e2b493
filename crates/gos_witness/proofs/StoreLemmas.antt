-- Stores as lists of entries, entry by entry.
use Rattle.std.proofs.Common.{◌≡◌, ◌<◌, ℕ, zero, suc, Bool, true, false, not, nat_eq, List, [], ◌∷◌, ◌++◌, length, take, drop, refl, ap, arith, append-nil, ◌∙◌}
use Rattle.std.specs.Prelude.{get_or, set, slice_set}
use Rattle.std.specs.List.{filter}
use Rattle.std.proofs.lemmas.List.{drop_all, take_all}
use Rattle.gos_model.specs.Stores.{Store, store_put, without}
use Rattle.gos_witness.specs.declared.store.Entry.{Entry}
use Rattle.gos_witness.specs.inner.Rows.{entry_of, entries_of, AreNarrow}

-- another number at an index of an entry
abbrev pub IsPut : Entry → ℕ → ℕ → Entry → Type 0
IsPut e i k new = (new.place ≡ e.place) × (new.width ≡ e.width) × (new.numbers.items ≡ set e.numbers.items i k)

entry_put : (e : Entry) (i k : ℕ) (new : Entry) → IsPut e i k new → entry_of new ≡ record (entry_of e) { numbers = set e.numbers.items i k }
entry_put e i k new (place, width, numbers) = λ x. record { place = place x; width = width x; numbers = numbers x }

-- an entry that there is
pub get_any : (s : List Entry) (i : ℕ) (d d' : Entry) → i < length s → get_or s i d ≡ get_or s i d'
get_any [] i d d' h = absurd (omega (arith, h))
get_any (e ∷ s) zero d d' h = refl
get_any (e ∷ s) (suc i) d d' h = get_any s i d d' (omega (arith, h))

-- a number is written at the first entry with its location
pub put_here : (s : List Entry) (at p i k : ℕ) (d new : Entry) → at < length s → nat_eq (get_or s at d).place p ≡ true → IsPut (get_or s at d) i k new
    → entries_of (slice_set s at new) ≡ entries_of (take at s) ++ store_put (entries_of (drop at s)) p i k
put_here [] at p i k d new h here is = absurd (omega (arith, h))
put_here (e ∷ s) zero p i k d new h here is = rw here (λ x. entry_put e i k new is x ∷ entries_of s)
put_here (e ∷ s) (suc at) p i k d new h here is = ap (λ (r : Store). entry_of e ∷ r) (put_here s at p i k d new (omega (arith, h)) here is)

pub narrow_here : (s : List Entry) (at : ℕ) (d new : Entry) → new.width ≡ (get_or s at d).width → AreNarrow s → AreNarrow (slice_set s at new)
narrow_here [] at d new same are = tt
narrow_here (e ∷ s) zero d new same are = (omega (arith, same, are.0), are.1)
narrow_here (e ∷ s) (suc at) d new same are = (are.0, narrow_here s at d new same are.1)

-- the entries of other locations
abbrev pub is_other : ℕ → Entry → Bool
is_other p e = not (nat_eq e.place p)

pub filter_without : (p : ℕ) (s : List Entry) → entries_of (filter (is_other p) s) ≡ without (entries_of s) p
filter_without p [] = refl
filter_without p (e ∷ s) = by (nat_eq e.place p) refl (filter_without p s)
  where
    by : (b : Bool) → nat_eq e.place p ≡ b → entries_of (filter (is_other p) s) ≡ without (entries_of s) p
        → entries_of (filter (is_other p) (e ∷ s)) ≡ without (entries_of (e ∷ s)) p
    by true h rest = rw h rest
    by false h rest = rw h (λ x. entry_of e ∷ rest x)

pub filter_narrow : (p : ℕ) (s : List Entry) → AreNarrow s → AreNarrow (filter (is_other p) s)
filter_narrow p [] are = tt
filter_narrow p (e ∷ s) are = by (nat_eq e.place p) refl (filter_narrow p s are.1)
  where
    by : (b : Bool) → nat_eq e.place p ≡ b → AreNarrow (filter (is_other p) s) → AreNarrow (filter (is_other p) (e ∷ s))
    by true h rest = rw h rest
    by false h rest = rw h (are.0, rest)

-- what a slice of the whole list leaves
pub whole_after : (n : ℕ) (new old : List Entry) → length new ≡ length old → n ≡ length old → take n (new ++ drop (length new) old) ≡ new
whole_after n new old same count =
    ap (λ (xs : List Entry). take n (new ++ xs)) (drop_all (length new) old (omega (arith, same))) ∙ (ap (λ (xs : List Entry). take n xs) (append-nil new)
    ∙ take_all n new (omega (arith, same, count)))
