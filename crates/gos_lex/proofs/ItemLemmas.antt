-- Items of a text: where one breaks off, none reaches past.
use Rattle.std.proofs.Common.{◌≡◌, ◌≢◌, inl, inr, ℕ, suc, ◌+◌, ◌<◌, ◌≤◌, List, [], ◌∷◌, ◌++◌, length, take, drop, get_or, sym, ◌∙◌, ap, subst, arith, append_assoc, drop-cons}
use Rattle.std.specs.List.{slice_range}
use Rattle.std.proofs.lemmas.Bool.{cases_lt}
use Rattle.std.proofs.lemmas.List.{append_cancel_left, take-append-drop}
use Rattle.gos_lex.specs.Items.{IsJust, Begins, StopsAt, Misses, BreaksOffOnce}
use Rattle.gos_lex.proofs.PlaceLemmas.{length_slice, slice_split, slice_snoc}

-- no item reaches past the place where one breaks off
pub stops_bound : (IsItem : List ℕ → Type 0) (text : List ℕ) (at place end : ℕ) → StopsAt IsItem text at place → end ≤ length text → IsItem (slice_range text at end) → end ≤ place
stops_bound IsItem text at place end stops within item =
    elim (cases_lt place end) [
      | inl past ↦ absurd (stops.stops (omega arith) (slice_range text (place + 1) end, subst IsItem (slice_split text at (place + 1) end (omega (arith, stops.after)) (omega (arith, past))) item))
      | inr within ↦ within
    ]

-- the bytes differ at `i`, or the text ends there
pub word_misses : (text : List ℕ) (at : ℕ) (bytes : List ℕ) (i : ℕ) → i < length bytes → at + i ≤ length text → slice_range text at (at + i) ≡ take i bytes → (at + i < length text → get_or text (at + i) 0 ≢ get_or bytes i 0) → Misses (IsJust bytes) text at (at + i)
word_misses text at bytes i inside within same differs =
    let stopped : StopsAt (IsJust bytes) text at (at + i) =
    record {
      after = omega arith;
      within = within;
      before = (drop i bytes, ap (λ front. front ++ drop i bytes) same ∙ take-append-drop i bytes);
      stops = λ some longer. differs some (first_differs some longer.0 longer.1);
    } in
    record {
      stops = stopped;
      none = λ end after ends is.
          let bound = stops_bound (IsJust bytes) text at (at + i) end stopped ends is in
          absurd (omega (arith, bound, length_slice text at end ends, ap length is, inside, after));
    }
  where
    first_differs : at + i < length text → (more : List ℕ) → slice_range text at (at + i + 1) ++ more ≡ bytes → get_or text (at + i) 0 ≡ get_or bytes i 0
    first_differs some more is =
        let byte : List ℕ = get_or text (at + i) 0 ∷ [] in
        let longer : slice_range text at (at + i + 1) ≡ take i bytes ++ get_or text (at + i) 0 ∷ [] =
        slice_snoc text at (at + i) (omega arith) some ∙ ap (λ front. front ++ get_or text (at + i) 0 ∷ []) same in
        let whole : take i bytes ++ (get_or text (at + i) 0 ∷ more) ≡ take i bytes ++ drop i bytes =
        sym (append_assoc (take i bytes) (get_or text (at + i) 0 ∷ []) more) ∙ (ap (λ front. front ++ more) (sym longer) ∙ (is ∙ sym (take-append-drop i bytes))) in
        let rest : get_or text (at + i) 0 ∷ more ≡ drop i bytes = append_cancel_left (take i bytes) (get_or text (at + i) 0 ∷ more) (drop i bytes) whole in
        let head : drop i bytes ≡ get_or bytes i 0 ∷ drop (suc i) bytes = drop-cons bytes i 0 inside in
        cc (rest, head)

-- a part and the byte after it, where the part is known
pub part_more : (text : List ℕ) (at i : ℕ) (far : List ℕ) → at ≤ i → i < length text → slice_range text at i ≡ far → slice_range text at (i + 1) ≡ far ++ get_or text i 0 ∷ []
part_more text at i far after inside same = slice_snoc text at i after inside ∙ ap (λ front. front ++ get_or text i 0 ∷ []) same

-- an item breaks off at a byte with which none goes on
pub stops_here : (IsItem : List ℕ → Type 0) (text : List ℕ) (at i : ℕ) (far : List ℕ) → at ≤ i → i < length text → slice_range text at i ≡ far → Begins IsItem far → (Begins IsItem (far ++ get_or text i 0 ∷ []) → ⊥) → StopsAt IsItem text at i
stops_here IsItem text at i far after inside same begins stops =
    record {
      after = after;
      within = omega arith;
      before = subst (Begins IsItem) (sym same) begins;
      stops = λ _ longer. stops (subst (Begins IsItem) (part_more text at i far after inside same) longer);
    }

-- what stands before the place where an item breaks off begins one, and so does each part of it
not_before : (IsItem : List ℕ → Type 0) (text : List ℕ) (at place other : ℕ) → StopsAt IsItem text at place → StopsAt IsItem text at other → other ≤ place
not_before IsItem text at place other one two =
    elim (cases_lt place other) [
      | inl past ↦
          let split = slice_split text at (place + 1) other (omega (arith, one.after)) (omega (arith, past)) in
          let front : List ℕ = slice_range text at (place + 1) in
          let rest : List ℕ = slice_range text (place + 1) other in
          let whole : slice_range text at other ++ two.before.0 ≡ front ++ (rest ++ two.before.0) =
          ap (λ part. part ++ two.before.0) split ∙ append_assoc front rest two.before.0 in
          absurd (one.stops (omega (arith, past, two.within)) (rest ++ two.before.0, subst IsItem whole two.before.1))
      | inr before ↦ before
    ]

pub breaks_off_once : (IsItem : List ℕ → Type 0) → BreaksOffOnce IsItem
breaks_off_once IsItem text at place other one two =
    omega (arith, not_before IsItem text at place other one two, not_before IsItem text at other place two one)
