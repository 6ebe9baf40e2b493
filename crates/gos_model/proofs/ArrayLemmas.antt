-- Blocks with an array: their zeros, their steps at an index, and a small one move by move.
use Rattle.std.specs.Prelude.{◌≡◌, ◌^◌, ◌<◌, ◌≤◌, ℕ, zero, suc, [], ◌∷◌, replicate, Option, Some, None, slice_get}
use Rattle.std.proofs.Common.{arith, refl, sym, ap, subst, inl, inr, ◌∙◌}
use Rattle.gos_types.specs.Types.{Com, Exp}
use Rattle.gos_types.specs.Widths.{IsWidth}
use Rattle.gos_model.specs.Terms.{Term, Skip, Lit, Bound, Import, App, Seq, Assign, Deref, NewArray, Bin, Add, Arr, Scope, Wait, Held, Put}
use Rattle.gos_model.specs.Substitution.{instantiate}
use Rattle.gos_model.specs.Typing.{IsLength, index_width, array_type, Variable, Apart, Typed}
use Rattle.gos_model.specs.Stores.{Entry, array_at, Store, entry_at, number_in, number_at, store_put}
use Rattle.gos_model.specs.Reach.{Unfolds}
use Rattle.gos_model.specs.Steps.{Locates, Steps}
use Rattle.gos_model.specs.Labels.{given, taken}
use Rattle.gos_model.specs.Moves.{Computing, Showing, Idle, Running, Acts, Unfoldings, ActsTo}
use Rattle.gos_model.specs.SmallArrays.{LengthIsPower, ArrayIsZeros, at_index, WriteIsAtIndex, OutsideHasNoStep, b, r, two_numbers, ReadWaits, WriteWaits, four, FourAnswers, FourHasType, FourWeighs, ThreeHasNoType, NestedHasNoType}
use Rattle.gos_model.proofs.TypingLemmas.{node_has_type}
use Rattle.gos_model.proofs.StoreLemmas.{first_at, one_number, reads_what_is_written, other_index_stays, absent_is_not_written, absent_is_not_read}

-- the number of an index' values
abbrev Fits : ℕ → Type 0
Fits k = (k ≡ 2 ^ index_width k) × (1 ≤ index_width k) × (index_width k ≤ 4)

pub length_is_power : LengthIsPower
length_is_power n is = each is
  where
    each : IsLength n → Fits n
    each (inl e) = subst Fits (sym e) (refl, omega arith, omega arith)
    each (inr (inl e)) = subst Fits (sym e) (refl, omega arith, omega arith)
    each (inr (inr (inl e))) = subst Fits (sym e) (refl, omega arith, omega arith)
    each (inr (inr (inr e))) = subst Fits (sym e) (refl, omega arith, omega arith)

-- the numbers of a new array
zero_at : (n j : ℕ) → j < n → slice_get {X = ℕ} (replicate n 0) j ≡ Some 0
zero_at zero j h = absurd (omega (arith, h))
zero_at (suc n) zero h = refl
zero_at (suc n) (suc j) h = zero_at n j (omega (arith, h))

none_at : (n j : ℕ) → n ≤ j → slice_get {X = ℕ} (replicate n 0) j ≡ None
none_at zero j h = refl
none_at (suc n) zero h = absurd (omega (arith, h))
none_at (suc n) (suc j) h = none_at n j (omega (arith, h))

unfolds_none : (n w : ℕ) (m u : Term) → Unfolds (NewArray n w m) u → ⊥
unfolds_none n w m u h = grind (arith, h)

no_unfolding : (k n w : ℕ) (m u : Term) → Unfoldings k (NewArray n w m) u → NewArray n w m ≡ u
no_unfolding zero n w m u h = h
no_unfolding (suc k) n w m u h = absurd (unfolds_none n w m h.0 h.1)

starts : (n w : ℕ) (m t : Term) (s : Store) → ActsTo [] Computing [] (NewArray n w m) (Running t s)
    → (l : ℕ) × (t ≡ Scope l (instantiate m (Arr l))) × (s ≡ array_at l w n ∷ [])
starts n w m t s (inl (l, _, e, f)) = (l, e, f)
starts n w m t s (inr h) = absurd h

pub array_is_zeros : ArrayIsZeros
array_is_zeros n w m t s (k, u, us, h) =
    let (l, e, f) = starts n w m t s (subst (λ v. ActsTo [] Computing [] v (Running t s)) (sym (no_unfolding k n w m u us)) h) in
    let has : entry_at s l ≡ Some (array_at l w n) = ap (λ (x : Store). entry_at x l) f ∙ first_at (array_at l w n) [] l refl in
    let at : (j : ℕ) → number_at s l j ≡ slice_get (replicate n 0) j = λ j. ap (λ (o : Option Entry). number_in o j) has in
    (l, e, f, λ j below. at j ∙ zero_at n j below, λ j above. at j ∙ none_at n j above)

pub write_is_at_index : WriteIsAtIndex
write_is_at_index s s' l j i k t (e, h, n, place, has, is, left, now) =
    let (one, at) = one_number (at_index l j i) l j e.place h (inr (i, refl)) place in
    let put : s' ≡ store_put s l j k = now ∙ (ap (λ (x : ℕ). store_put s x h k) (sym one) ∙ ap (λ (x : ℕ). store_put s l x k) (sym at)) in
    let old : number_at s l j ≡ Some n = ap (λ (x : ℕ). number_at s x j) one ∙ (ap (number_at s e.place) at ∙ (ap (λ (o : Option Entry). number_in o h) has ∙ is)) in (
      ap (λ (x : Store). number_at x l j) put ∙ reads_what_is_written s l j k n old,
      λ d other. ap (λ (x : Store). number_at x l d) put ∙ other_index_stays s l j d k other,
    )

pub outside_has_no_step : OutsideHasNoStep
outside_has_no_step s s' l j i k t none = (no_read, no_write)
  where
    no_read : Steps s s' (Deref (at_index l j i)) t → ⊥
    no_read (inl h) = absent_is_not_read s s' (at_index l j i) t l j (inr (i, refl)) none h
    no_read (inr (m', e, inl h)) = h
    no_read (inr (m', e, inr (place, n', f, inl h))) = h
    no_read (inr (m', e, inr (place, n', f, inr h))) = h

    no_write : Steps s s' (Put (at_index l j i) k) t → ⊥
    no_write (inl h) = absent_is_not_written s s' (at_index l j i) t l j k (inr (i, refl)) none h
    no_write (inr (m', e, inl h)) = h
    no_write (inr (m', e, inr (place, n', f, inl h))) = h
    no_write (inr (m', e, inr (place, n', f, inr h))) = h

-- an index that isn't a number stands for none
not_yet : (l i : ℕ) → Locates (App (Arr 0) (Import b)) l i → ⊥
not_yet l i (inl (e, z)) = cc e
not_yet l i (inr (w, e)) = cc e

pub read_waits : ReadWaits
read_waits s s' t = (none, (inr (App (Arr 0) (Wait b 1), refl, inr ((0, refl), Wait b 1, refl, inl (inl (inr (1, refl, refl, refl))))), refl))
  where
    none : Steps s s' (Deref (App (Arr 0) (Import b))) t → ⊥
    none (inl (e, i, j, place, has, is, left, now)) = not_yet e.place i place
    none (inr (m', e, inl h)) = h
    none (inr (m', e, inr (place, n', f, inl h))) = h
    none (inr (m', e, inr (place, n', f, inr h))) = h

pub write_waits : WriteWaits
write_waits s s' t k = (right_first, none, (inr (App (Arr 0) (Wait b 1), refl, inr ((0, refl), Wait b 1, refl, inl (inl (inr (1, refl, refl, refl))))), refl))
  where
    right_first : Acts two_numbers (Showing (taken b 0 0)) s s' (Assign (App (Arr 0) (Import b)) (Import r)) t → ⊥
    right_first h = grind (arith, h)

    none : Steps s s' (Put (App (Arr 0) (Import b)) k) t → ⊥
    none (inl (e, i, j, place, has, is, left, now)) = not_yet e.place i place
    none (inr (m', e, inl h)) = h
    none (inr (m', e, inr (place, n', f, inl h))) = h
    none (inr (m', e, inr (place, n', f, inr h))) = h

-- the store of the array, before the write and after it
abbrev first : Store
first = array_at 0 8 4 ∷ []

abbrev second : Entry
second = record { place = 0; width = 8; numbers = 0 ∷ 7 ∷ 0 ∷ 0 ∷ [] }

-- the two reads, and what is left of a term within the block, before the sum
abbrev one_read : Term
one_read = Deref (at_index 0 1 2)

abbrev other_read : Term
other_read = Deref (at_index 0 0 2)

abbrev sum : Term
sum = Bin Add one_read other_read

abbrev then_sum : Term → Term
then_sum m = Seq m sum

pub four_answers : FourAnswers
four_answers = (
  Showing (given 0 0) ∷ Computing ∷ Computing ∷ Computing ∷ Computing ∷ Computing ∷ Computing ∷ Computing ∷ Computing ∷ Computing ∷ Showing (given 1 7) ∷ [],
  Idle,
  (
    Running four.body [],
    (refl, refl),
    (
      Running (Scope 0 (then_sum (Assign (at_index 0 1 2) (Lit 7 8)))) first,
      (0, four.body, refl, inl (0, refl, refl, refl)),
      (
        Running (Scope 0 (then_sum (Put (at_index 0 1 2) 7))) first,
        (0, Scope 0 (then_sum (Assign (at_index 0 1 2) (Lit 7 8))), refl, inr (then_sum (Put (at_index 0 1 2) 7), refl, inr (Put (at_index 0 1 2) 7, refl, inl (7, 8, refl, refl, refl)))),
        (
          Running (Scope 0 (then_sum Skip)) (second ∷ []),
          (0, Scope 0 (then_sum (Put (at_index 0 1 2) 7)), refl, inr (then_sum Skip, refl, inr (Skip, refl, inl (array_at 0 8 4, 1, 0, inr (2, refl), refl, refl, refl, refl)))),
          (
            Running (Scope 0 sum) (second ∷ []),
            (0, Scope 0 (then_sum Skip), refl, inr (sum, refl, inl (refl, refl, refl))),
            (
              Running (Scope 0 (Bin Add (Lit 7 8) other_read)) (second ∷ []),
              (0, Scope 0 sum, refl, inr (Bin Add (Lit 7 8) other_read, refl, inr (Lit 7 8, refl, inl (second, 1, 7, inr (2, refl), refl, refl, refl, refl)))),
              (
                Running (Scope 0 (Held 7 Add other_read)) (second ∷ []),
                (0, Scope 0 (Bin Add (Lit 7 8) other_read), refl, inr (Held 7 Add other_read, refl, inl (7, 8, refl, refl, refl))),
                (
                  Running (Scope 0 (Held 7 Add (Lit 0 8))) (second ∷ []),
                  (0, Scope 0 (Held 7 Add other_read), refl, inr (Held 7 Add (Lit 0 8), refl, inr (Lit 0 8, refl, inl (second, 0, 0, inr (2, refl), refl, refl, refl, refl)))),
                  (
                    Running (Scope 0 (Lit 7 8)) (second ∷ []),
                    (0, Scope 0 (Held 7 Add (Lit 0 8)), refl, inr (Lit 7 8, refl, inl (0, 8, refl, refl, refl))),
                    (
                      Running (Lit 7 8) [],
                      (0, Scope 0 (Lit 7 8), refl, inl (inr (7, 8, refl), refl, refl)),
                      (Idle, (0, Lit 7 8, refl, inr (7, 8, refl, refl)), refl),
                    ),
                  ),
                ),
              ),
            ),
          ),
        ),
      ),
    ),
  ),
  refl,
)

w8 : IsWidth 8
w8 = (omega arith, omega arith)

w2 : IsWidth 2
w2 = (omega arith, omega arith)

-- a literal shares nothing
apart : (i k w : ℕ) → Apart (Bound i) (Lit k w)
apart i k w t h (n, l, e) = omega (arith, l)

pub four_has_type : FourHasType
four_has_type = ((tt, inr (inl refl), w8, (tt, written, summed)), not_two)
  where
    written : Typed [] (array_type 4 8 ∷ []) (Assign (App (Bound 0) (Lit 1 2)) (Lit 7 8)) Com
    written = (8, refl, (Exp 2, refl, (refl, w2, omega arith), apart 0 1 2), (refl, w8, omega arith))

    summed : Typed [] (array_type 4 8 ∷ []) (Bin Add (Deref (App (Bound 0) (Lit 1 2))) (Deref (App (Bound 0) (Lit 0 2)))) (Exp 8)
    summed = (
      8,
      refl,
      (8, refl, (Exp 2, refl, (refl, w2, omega arith), apart 0 1 2)),
      (8, refl, (Exp 2, refl, (refl, w2, omega arith), apart 0 0 2)),
    )

    not_two : Typed [] [] four.body (Exp 2) → ⊥
    not_two h = let bad : Exp 8 ≡ Exp 2 = node_has_type [] [] four.body (Exp 2) h in two_not_eight bad
      where
        two_not_eight : Exp 8 ≡ Exp 2 → ⊥
        two_not_eight e = grind (arith, e)

pub four_weighs : FourWeighs
four_weighs = refl

pub three_has_no_type : ThreeHasNoType
three_has_no_type i m w = (λ h. no_length h.1, λ h. h.0)
  where
    no_length : IsLength 3 → ⊥
    no_length (inl e) = omega (arith, e)
    no_length (inr (inl e)) = omega (arith, e)
    no_length (inr (inr (inl e))) = omega (arith, e)
    no_length (inr (inr (inr e))) = omega (arith, e)

pub nested_has_no_type : NestedHasNoType
nested_has_no_type w (v, e, (a, f, n, apart')) = apart' (Variable 0) (0, omega arith, refl) (0, omega arith, refl)
