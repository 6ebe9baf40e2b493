-- A name and the byte behind it, which no name has.
use Rattle.std.proofs.Common.{◌≡◌, inl, inr, ℕ, ◌+◌, ◌-◌, ◌<◌, ◌≤◌, true, false, true≢false, List, [], ◌∷◌, ◌++◌, length, get_or, refl, sym, ◌∙◌, ap, subst, arith, append-nil}
use Rattle.std.specs.List.{list_all, slice_range}
use Rattle.std.proofs.lemmas.Bool.{and_parts, cases_lt}
use Rattle.std.proofs.lemmas.List.Folds.{list_all-append}
use Rattle.gos_lex.specs.Bytes.{begins_name, continues_name}
use Rattle.gos_lex.specs.Names.{IsSpelled, IsNameOrWord}
use Rattle.gos_lex.specs.Items.{IsJust, Passes, StopsAt, Misses}
use Rattle.gos_lex.proofs.PlaceLemmas.{length_slice, slice_split, slice_cons}
use Rattle.gos_lex.specs.ItemTexts.{IsTextOf, ended}
use Rattle.gos_lex.proofs.SequenceLemmas.{Lacks, IsCode, ended_misses, ended_code}
use Rattle.gos_lex.proofs.NumberTextLemmas.{byte_missed}

-- a front of a spelled name is spelled, if it has a byte
pub front_spelled : (bytes more : List ℕ) → 0 < length bytes → IsSpelled (bytes ++ more) → IsSpelled bytes
front_spelled [] more some spelled = absurd (omega (arith, some))
front_spelled (b ∷ front) more some spelled =
    let parts = and_parts (begins_name b) (list_all continues_name (front ++ more)) spelled in
    let inner = and_parts (list_all continues_name front) (list_all continues_name more) (sym (list_all-append continues_name front more) ∙ parts.1) in
    rw (parts.0, inner.0) refl

stops_of : (text : List ℕ) (at place : ℕ) → StopsAt IsNameOrWord text at place → StopsAt (IsTextOf (List ℕ) IsNameOrWord (λ name. name)) text at place
stops_of text at place stops =
    record {
      after = stops.after;
      within = stops.within;
      before = (stops.before.0, (slice_range text at place ++ stops.before.0, stops.before.1, refl));
      stops = λ some longer. stops.stops some (longer.0, subst IsNameOrWord (sym longer.1.2) longer.1.1);
    }

module _ (end : ℕ) (ends : continues_name end ≡ false) where
  -- what goes on as a name has no such byte
  pub none_inside : (front more : List ℕ) → list_all continues_name (front ++ end ∷ more) ≡ true → ⊥
  none_inside front more all =
      let parts = and_parts (list_all continues_name front) (list_all continues_name (end ∷ more)) (sym (list_all-append continues_name front (end ∷ more)) ∙ all) in
      let byte = and_parts (continues_name end) (list_all continues_name more) parts.1 in
      true≢false (sym byte.0 ∙ ends)

  none_spelled : (front more : List ℕ) → IsSpelled (front ++ end ∷ more) → ⊥
  none_spelled [] more spelled =
      let byte = and_parts (begins_name end) (list_all continues_name more) spelled in
      let goes_on : continues_name end ≡ true = rw byte.0 refl in
      true≢false (sym goes_on ∙ ends)
  none_spelled (b ∷ front) more spelled = none_inside front more (and_parts (begins_name b) (list_all continues_name (front ++ end ∷ more)) spelled).1

  name_lacks : Lacks (IsTextOf (List ℕ) IsNameOrWord (λ name. name)) end
  name_lacks front more item = none_spelled front more (subst IsSpelled (sym item.2) item.1.spelled)

  pub name_code : IsCode (List ℕ) IsNameOrWord (ended end)
  name_code = ended_code (List ℕ) IsNameOrWord (λ name. name) end name_lacks (λ v w is_v is_w same. same)

  -- no name stands, or one that is too long
  pub no_name : (text : List ℕ) (at place : ℕ) → StopsAt IsNameOrWord text at place → ((to : ℕ) → Passes IsSpelled text at to → 255 < to - at)
      → Misses (IsTextOf (List ℕ) IsNameOrWord (ended end)) text at place
  no_name text at place stops long =
      ended_misses (List ℕ) IsNameOrWord (λ name. name) end text at place name_lacks not_whole (stops_of text at place stops)
    where
      longest : get_or text place 0 ≡ end → (to : ℕ) → to ≤ length text → IsSpelled (slice_range text at to) → to ≤ place
      longest byte to within spelled =
          elim (cases_lt place to) [
            | inl past ↦
                let split = slice_split text at place to stops.after (omega (arith, past)) in
                let there : slice_range text place to ≡ end ∷ slice_range text (place + 1) to =
                slice_cons text place to past within ∙ ap (λ b. b ∷ slice_range text (place + 1) to) byte in
                absurd (none_spelled (slice_range text at place) (slice_range text (place + 1) to) (subst IsSpelled (split ∙ ap (λ part. slice_range text at place ++ part) there) spelled))
            | inr inside ↦ inside
          ]

      not_whole : place < length text → get_or text place 0 ≡ end → IsTextOf (List ℕ) IsNameOrWord (λ name. name) (slice_range text at place) → ⊥
      not_whole some byte item =
          let passes : Passes IsSpelled text at place =
          record {
            after = stops.after;
            within = stops.within;
            item = subst IsSpelled (sym item.2) item.1.spelled;
            longest = longest byte;
          } in
          let bound = long place passes in
          omega (arith, bound, item.1.short, ap length item.2, length_slice text at place stops.within)

  -- a name stands, but the byte isn't behind it
  pub name_not_ended : (text : List ℕ) (at to place : ℕ) → Passes IsSpelled text at to → IsNameOrWord (slice_range text at to)
      → Misses (IsJust (end ∷ [])) text to place → Misses (IsTextOf (List ℕ) IsNameOrWord (ended end)) text at place
  name_not_ended text at to place passes name misses =
      let known = byte_missed text to place end misses in
      subst (Misses (IsTextOf (List ℕ) IsNameOrWord (ended end)) text at) (sym known.0)
      (ended_misses (List ℕ) IsNameOrWord (λ name. name) end text at to name_lacks (λ some byte item. known.1 some byte) (stops_of text at to stops))
    where
      stops : StopsAt IsNameOrWord text at to
      stops =
          record {
            after = passes.after;
            within = passes.within;
            before = ([], subst IsNameOrWord (sym (append-nil (slice_range text at to))) name);
            stops = λ some longer.
                let size = length_slice text at (to + 1) (omega (arith, some)) in
                let spelled = front_spelled (slice_range text at (to + 1)) longer.0 (omega (arith, size, passes.after)) longer.1.spelled in
                let bound = passes.longest (to + 1) (omega (arith, some)) spelled in
                omega (arith, bound);
          }
