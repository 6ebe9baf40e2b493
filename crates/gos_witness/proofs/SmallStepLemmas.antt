-- Small computation steps, and what they make of stores.
use Rattle.std.proofs.Common.{◌≡◌, ◌≢◌, ◌<◌, ℕ, zero, suc, List, [], ◌∷◌, None, refl, ap, arith, inl, inr}
use Rattle.std.specs.Prelude.{get_or}
use Rattle.gos_model.specs.Terms.{Skip, Lit, Deref, Loc, Scope, Put}
use Rattle.gos_model.specs.Stores.{Entry, variable_at, array_at, Store, entry_at}
use Rattle.gos_model.specs.SmallStores.{three_numbers}
use Rattle.gos_model.specs.SmallArrays.{at_index}
use Rattle.gos_model.specs.Moves.{Config, Idle, Running}
use Rattle.gos_model.proofs.StoreLemmas.{absent_is_not_read, absent_is_not_written}
use Rattle.gos_witness.specs.declared.moves.Line.TheVariants.{Step}
use Rattle.gos_witness.specs.Lines.{Stand, Makes, IsLeastNew}
use Rattle.gos_witness.specs.SmallLines.{skips}
use Rattle.gos_witness.specs.SmallSteps.{running, StepsWith, no_number, FirstIsRead, FirstIsWritten, gap, LeastIsTaken, IndexIsRead, IndexIsWritten, waits_for, IndexIsReached}
use Rattle.gos_witness.proofs.OneWayLemmas.{makes_one}

-- what tells one stand from another
abbrev literal_in : Config → ℕ
literal_in (Running (Lit k w) s) = k
literal_in c = 0

abbrev second_in : Config → ℕ
second_in (Running m (e ∷ s)) = get_or e.numbers 1 0
second_in c = 0

abbrev place_in : List Entry → ℕ
place_in [] = 0
place_in (e ∷ s) = e.place

abbrev newest_in : Config → ℕ
newest_in Idle = 0
newest_in (Running m s) = place_in s

abbrev three : Entry
three = record { place = 0; width = 8; numbers = 5 ∷ 6 ∷ 7 ∷ [] }

reads_three : StepsWith (three_numbers 6) (Deref (Loc 0)) (three_numbers 6) (Lit 5 8)
reads_three = (Lit 5 8, three_numbers 6, ((three, 0, 5, inl (refl, refl), refl, refl, refl, refl), tt), refl)

pub first_is_read : FirstIsRead
first_is_read = (
  (Lit 5 8, variable_at 0 8 5 ∷ [], ((variable_at 0 8 5, 0, 5, inl (refl, refl), refl, refl, refl, refl), tt), refl),
  reads_three,
  λ h.
      let start = running (Deref (Loc 0)) (three_numbers 6) in
      let same = makes_one skips (Step []) start (running (Lit 5 8) (three_numbers 6)) (running (Lit 6 8) (three_numbers 6)) reads_three h in
      let bad : 5 ≡ 6 = ap (λ (a : Stand). literal_in a.config) same in
      absurd (omega (arith, bad)),
  λ b makes. absent_is_not_read (three_numbers 6) makes.1 (Loc 1) makes.0 1 0 (inl (refl, refl)) refl makes.2.0,
  λ b makes. absent_is_not_read no_number makes.1 (Loc 0) makes.0 0 0 (inl (refl, refl)) refl makes.2.0,
)

-- the three numbers with the first one written
abbrev nine : Store
nine = record { place = 0; width = 8; numbers = 9 ∷ 6 ∷ 7 ∷ [] } ∷ []

writes_three : StepsWith (three_numbers 6) (Put (Loc 0) 9) nine Skip
writes_three = (Skip, nine, ((three, 0, 5, inl (refl, refl), refl, refl, refl, refl), tt), refl)

pub first_is_written : FirstIsWritten
first_is_written = (
  (Skip, variable_at 0 8 9 ∷ [], ((variable_at 0 8 5, 0, 5, inl (refl, refl), refl, refl, refl, refl), tt), refl),
  writes_three,
  λ h.
      let start = running (Put (Loc 0) 9) (three_numbers 6) in
      let same = makes_one skips (Step []) start (running Skip nine) (running Skip (three_numbers 9)) writes_three h in
      let bad : 6 ≡ 9 = ap (λ (a : Stand). second_in a.config) same in
      absurd (omega (arith, bad)),
  λ b makes. absent_is_not_written (three_numbers 6) makes.1 (Loc 1) makes.0 1 0 9 (inl (refl, refl)) refl makes.2.0,
  λ b makes. absent_is_not_written no_number makes.1 (Loc 0) makes.0 0 0 9 (inl (refl, refl)) refl makes.2.0,
)

has_zero : (k : ℕ) → k < 1 → entry_at gap k ≢ None
has_zero zero less e = cc e
has_zero (suc k) less e = absurd (omega (arith, less))

one_is_least : IsLeastNew gap 1
one_is_least = record {
  new = refl;
  least = has_zero;
}

pub least_is_taken : LeastIsTaken
least_is_taken = (
  (Scope 1 Skip, variable_at 1 8 0 ∷ gap, ((1, refl, refl, refl), (1, one_is_least, refl)), refl),
  λ (t, s', (does, (k, least, taken)), is).
      let here : 3 ≡ place_in s' = ap (λ (a : Stand). newest_in a.config) is in
      let there : place_in s' ≡ k = ap place_in taken in
      let less : 1 < k = omega (arith, here, there) in
      least.least 1 less refl,
  (Scope 1 Skip, array_at 1 8 2 ∷ gap, ((1, refl, refl, refl), (1, one_is_least, refl)), refl),
  λ (t, s', (does, (k, least, taken)), is).
      let here : 3 ≡ place_in s' = ap (λ (a : Stand). newest_in a.config) is in
      let there : place_in s' ≡ k = ap place_in taken in
      let less : 1 < k = omega (arith, here, there) in
      least.least 1 less refl,
)

reads_one : StepsWith (three_numbers 6) (Deref (at_index 0 1 2)) (three_numbers 6) (Lit 6 8)
reads_one = (Lit 6 8, three_numbers 6, ((three, 1, 6, inr (2, refl), refl, refl, refl, refl), tt), refl)

pub index_is_read : IndexIsRead
index_is_read = (
  reads_one,
  λ h.
      let start = running (Deref (at_index 0 1 2)) (three_numbers 6) in
      let same = makes_one skips (Step []) start (running (Lit 6 8) (three_numbers 6)) (running (Lit 5 8) (three_numbers 6)) reads_one h in
      let bad : 6 ≡ 5 = ap (λ (a : Stand). literal_in a.config) same in
      absurd (omega (arith, bad)),
  λ b makes. absent_is_not_read (three_numbers 6) makes.1 (at_index 0 3 2) makes.0 0 3 (inr (2, refl)) refl makes.2.0,
)

writes_one : StepsWith (three_numbers 6) (Put (at_index 0 1 2) 9) (three_numbers 9) Skip
writes_one = (Skip, three_numbers 9, ((three, 1, 6, inr (2, refl), refl, refl, refl, refl), tt), refl)

pub index_is_written : IndexIsWritten
index_is_written = (
  writes_one,
  λ h.
      let start = running (Put (at_index 0 1 2) 9) (three_numbers 6) in
      let same = makes_one skips (Step []) start (running Skip (three_numbers 9)) (running Skip (three_numbers 6)) writes_one h in
      let bad : 9 ≡ 6 = ap (λ (a : Stand). second_in a.config) same in
      absurd (omega (arith, bad)),
  λ b makes. absent_is_not_written (three_numbers 6) makes.1 (at_index 0 3 2) makes.0 0 3 9 (inr (2, refl)) refl makes.2.0,
)

-- only an array's index is reached
not_reached : (b : Stand) → Makes skips (Step (0 ∷ 1 ∷ [])) (running (waits_for (Loc 0)) (three_numbers 6)) b → ⊥
not_reached b (t, s', (m, e, inl h), is) = absurd h
not_reached b (t, s', (m, e, inr ((l, place), n, f, h)), is) = absurd (cc place)

pub index_is_reached : IndexIsReached
index_is_reached = (
  (
    Deref (at_index 0 2 2),
    three_numbers 6,
    (at_index 0 2 2, refl, inr ((0, refl), Lit 2 2, refl, ((1, 2, refl, refl, refl), tt))),
    refl,
  ),
  not_reached,
)
