-- Where a name breaks off: at the first byte, or at the 256th.
use Rattle.std.proofs.Common.{◌≡◌, ℕ, ◌+◌, ◌-◌, ◌<◌, ◌≤◌, List, [], ◌∷◌, ◌++◌, length, take, drop, codes, refl, sym, ◌∙◌, subst, arith, append-nil, length-append, length-drop}
use Rattle.std.specs.List.{slice_range, list_all}
use Rattle.std.proofs.lemmas.Bool.{and_parts}
use Rattle.std.proofs.lemmas.List.Folds.{list_all-append}
use Rattle.gos_lex.specs.Bytes.{begins_name, continues_name}
use Rattle.gos_lex.specs.Names.{IsSpelled, IsNameOrWord}
use Rattle.gos_lex.specs.Items.{Passes, StopsAt}
use Rattle.gos_lex.proofs.PlaceLemmas.{rest_whole, slice_nothing, length_slice, slice_split}

-- what begins a name is spelled as one
spelled_front : (bytes more : List ℕ) → 0 < length bytes → IsSpelled (bytes ++ more) → IsSpelled bytes
spelled_front [] more some spelled = absurd (omega (arith, some))
spelled_front (b ∷ bytes) more some spelled =
    let first = and_parts (begins_name b) (list_all continues_name (bytes ++ more)) spelled in
    let rest = and_parts (list_all continues_name bytes) (list_all continues_name more) (sym (list_all-append continues_name bytes more) ∙ first.1) in
    rw (first.0, rest.0) refl

-- the longest name at the front of the rest, as the code takes it
abbrev pub IsLongestName : List ℕ → ℕ → ℕ → Type 0
IsLongestName text at len =
    (n : ℕ) → n ≤ length (take (length text - at) (drop at text)) → IsSpelled (take n (take (length text - at) (drop at text))) → n ≤ len

-- no part is longer
longest_part : (text : List ℕ) (at len end : ℕ) → IsLongestName text at len → end ≤ length text → IsSpelled (slice_range text at end) → end - at ≤ len
longest_part text at len end longest within spelled =
    let whole = rest_whole text at in
    let most : (n : ℕ) → n ≤ length (drop at text) → IsSpelled (take n (drop at text)) → n ≤ len = rw whole at longest in
    most (end - at) (omega (arith, length-drop at text, within)) spelled

-- no name begins
pub name_misses : (text : List ℕ) (at len : ℕ) → at ≤ length text → len ≡ 0 → IsLongestName text at len → StopsAt IsNameOrWord text at at
name_misses text at len within none longest =
    let size : at + 1 - at ≡ 1 = omega arith in
    record {
      after = omega arith;
      within = within;
      before = (codes "a", rw (slice_nothing text at) (record { spelled = refl; short = omega arith }));
      stops = λ some longer.
          let long : 0 < length (slice_range text at (at + 1)) = omega (arith, length_slice text at (at + 1) (omega arith)) in
          let spelled = spelled_front (slice_range text at (at + 1)) longer.0 long longer.1.spelled in
          let bound = longest_part text at len (at + 1) longest (omega arith) spelled in
          absurd (omega (arith, bound, size, none));
    }

-- a name is too long
pub name_too_long : (text : List ℕ) (at len : ℕ) → at ≤ length text → 255 < len → len ≤ length (take (length text - at) (drop at text)) → IsSpelled (take len (take (length text - at) (drop at text))) → StopsAt IsNameOrWord text at (at + 255)
name_too_long text at len within long fits spelled =
    let whole = rest_whole text at in
    let size : at + len - at ≡ len = omega arith in
    let inside : len ≤ length (drop at text) = rw whole at fits in
    let end : at + len ≤ length text = omega (arith, inside, length-drop at text, within) in
    let front : IsSpelled (take len (drop at text)) = rw whole at spelled in
    let all : IsSpelled (slice_range text at (at + len)) = rw size front in
    let split = slice_split text at (at + 255) (at + len) (omega arith) (omega arith) in
    let short : length (slice_range text at (at + 255)) ≡ at + 255 - at = length_slice text at (at + 255) (omega arith) in
    let first : IsSpelled (slice_range text at (at + 255)) = spelled_front (slice_range text at (at + 255)) (slice_range text (at + 255) (at + len)) (omega (arith, short)) (subst IsSpelled split all) in
    record {
      after = omega arith;
      within = omega arith;
      before = ([], rw (append-nil (slice_range text at (at + 255))) (record { spelled = first; short = omega (arith, short) }));
      stops = λ some longer.
          let most : length (slice_range text at (at + 255 + 1) ++ longer.0) ≤ 255 = longer.1.short in
          absurd (omega (arith, most, length-append (slice_range text at (at + 255 + 1)) longer.0, length_slice text at (at + 255 + 1) (omega arith)));
    }

-- a run of more than 255 bytes is no shorter where it is read again
pub long_name : (text : List ℕ) (at len : ℕ) → at ≤ length text → 255 < len → len ≤ length (take (length text - at) (drop at text)) → IsSpelled (take len (take (length text - at) (drop at text))) → (to : ℕ) → Passes IsSpelled text at to → 255 < to - at
long_name text at len within long fits spelled to passes =
    let whole = rest_whole text at in
    let size : at + len - at ≡ len = omega arith in
    let inside : len ≤ length (drop at text) = rw whole at fits in
    let end : at + len ≤ length text = omega (arith, inside, length-drop at text, within) in
    let front : IsSpelled (take len (drop at text)) = rw whole at spelled in
    let all : IsSpelled (slice_range text at (at + len)) = rw size front in
    omega (arith, passes.longest (at + len) end all)
