-- Lines one behind the other, so many of them.
use Rattle.std.proofs.Common.{◌≡◌, ℕ, suc, zero, ◌+◌, ◌≤◌, List, [], ◌∷◌, ◌++◌, length, refl, sym, ◌∙◌, ap, subst, arith, append_assoc, append-nil, length-append}
use Rattle.std.specs.List.{AllByRecursion, flat_map, slice_range}
use Rattle.std.proofs.lemmas.Grind.{flat_map-append}
use Rattle.gos_lex.specs.Items.{TextAt, Misses}
use Rattle.gos_lex.specs.ItemTexts.{IsTextOf, Passed}
use Rattle.gos_netlist.specs.inner.NetLines.{AreSo, IsLinesText}
use Rattle.gos_lex.proofs.SequenceLemmas.{Then, IsCode, misses_as, then_first, then_rest}
use Rattle.gos_lex.proofs.PassedLemmas.{passed_both, passed_as}

-- a value as often as it is wanted
pub repeated : (V : Type 0) (Is : V → Type 0) (text : V → List ℕ) (v : V) → Is v → (k : ℕ) → (bytes : List ℕ) × IsLinesText V Is text k bytes
repeated V Is text v is zero = ([], ([], (refl, tt), refl))
repeated V Is text v is (suc k) =
    let rest = repeated V Is text v is k in
    (text v ++ rest.0, (v ∷ rest.1.0, (ap suc rest.1.1.0, (is, rest.1.1.1)), ap (λ part. text v ++ part) rest.1.2))

joined : (V : Type 0) (Is : V → Type 0) (text : V → List ℕ) (left : ℕ) (bytes : List ℕ) → Then V Is text (λ v. IsLinesText V Is text left) bytes → IsLinesText V Is text (suc left) bytes
joined V Is text left bytes (v, rest, is, (vs, are, part), whole) = (v ∷ vs, (ap suc are.0, (is, are.1)), whole ∙ ap (λ more. text v ++ more) part)

cut : (V : Type 0) (Is : V → Type 0) (text : V → List ℕ) (left : ℕ) (bytes : List ℕ) → IsLinesText V Is text (suc left) bytes → Then V Is text (λ v. IsLinesText V Is text left) bytes
cut V Is text left bytes ([], are, whole) = absurd (omega (arith, are.0))
cut V Is text left bytes (v ∷ vs, are, whole) = (v, flat_map text vs, are.1.0, (vs, (omega (arith, are.0), are.1.1), refl), whole)

lines_first : (V : Type 0) (Is : V → Type 0) (text : V → List ℕ) (left : ℕ) (source : List ℕ) (at place : ℕ) → Misses (IsTextOf V Is text) source at place → Misses (IsLinesText V Is text (suc left)) source at place
lines_first V Is text left source at place misses =
    misses_as (Then V Is text (λ v. IsLinesText V Is text left)) (IsLinesText V Is text (suc left)) source at place (joined V Is text left) (cut V Is text left)
    (then_first V Is text (λ v. IsLinesText V Is text left) source at place (λ v is. repeated V Is text v is left) misses)

lines_rest : (V : Type 0) (Is : V → Type 0) (text : V → List ℕ) → IsCode V Is text → (left : ℕ) (v : V) (source : List ℕ) (at mid place : ℕ) → Is v → at ≤ mid → mid ≤ length source
    → slice_range source at mid ≡ text v → Misses (IsLinesText V Is text left) source mid place → Misses (IsLinesText V Is text (suc left)) source at place
lines_rest V Is text code left v source at mid place is after within first misses =
    misses_as (Then V Is text (λ v. IsLinesText V Is text left)) (IsLinesText V Is text (suc left)) source at place (joined V Is text left) (cut V Is text left)
    (then_rest V Is text (λ v. IsLinesText V Is text left) source at mid place v code is after within first misses)

-- some lines are read, so many are left
pub record LinesSoFar (V : Type 0) (Is : V → Type 0) (text : V → List ℕ) (count : ℕ) (old now : TextAt) (vs : List V) (left : ℕ) : Type 0 where
  pub passed : Passed old now (flat_map text vs)
  pub counted : length vs + left ≡ count
  pub all : AllByRecursion Is vs
  pub breaks : (place : ℕ) → Misses (IsLinesText V Is text left) old.text now.at place → Misses (IsLinesText V Is text count) old.text old.at place

all_more : (V : Type 0) (Is : V → Type 0) (vs : List V) (v : V) → AllByRecursion Is vs → Is v → AllByRecursion Is (vs ++ v ∷ [])
all_more V Is [] v all is = (is, tt)
all_more V Is (u ∷ vs) v all is = (all.0, all_more V Is vs v all.1 is)

pub one_line_more : (V : Type 0) (Is : V → Type 0) (text : V → List ℕ) → IsCode V Is text → (count : ℕ) (old mid new : TextAt) (vs : List V) (before left : ℕ) (v : V) → before ≡ suc left
    → LinesSoFar V Is text count old mid vs before → Is v → Passed mid new (text v) → LinesSoFar V Is text count old new (vs ++ v ∷ []) left
one_line_more V Is text code count old mid new vs before left v fewer far is passed =
    let within : new.at ≤ length old.text = subst (λ (source : List ℕ). new.at ≤ length source) far.passed.text passed.within in
    let part : slice_range old.text mid.at new.at ≡ text v = subst (λ (source : List ℕ). slice_range source mid.at new.at ≡ text v) far.passed.text passed.is in
    record {
      passed = passed_as old new (flat_map text vs ++ text v) (flat_map text (vs ++ v ∷ [])) (ap (λ more. flat_map text vs ++ more) (sym (append-nil (text v))) ∙ sym (flat_map-append text vs (v ∷ []))) (passed_both old mid new (flat_map text vs) (text v) far.passed passed);
      counted = omega (arith, far.counted, length-append vs (v ∷ []), fewer);
      all = all_more V Is vs v far.all is;
      breaks = λ place misses.
          far.breaks place (subst (λ (k : ℕ). Misses (IsLinesText V Is text k) old.text mid.at place) (sym fewer) (lines_rest V Is text code left v old.text mid.at new.at place is passed.after within part misses));
    }

-- where a line breaks off, the lines do
pub no_line_more : (V : Type 0) (Is : V → Type 0) (text : V → List ℕ) (count : ℕ) (old mid : TextAt) (vs : List V) (before left place : ℕ) → before ≡ suc left
    → LinesSoFar V Is text count old mid vs before → Misses (IsTextOf V Is text) mid.text mid.at place → Misses (IsLinesText V Is text count) old.text old.at place
no_line_more V Is text count old mid vs before left place fewer far misses =
    let here = subst (λ (source : List ℕ). Misses (IsTextOf V Is text) source mid.at place) far.passed.text misses in
    far.breaks place (subst (λ (k : ℕ). Misses (IsLinesText V Is text k) old.text mid.at place) (sym fewer) (lines_first V Is text left old.text mid.at place here))

-- lists of lines that are as long don't begin one another
pub lines_code : (V : Type 0) (Is : V → Type 0) (text : V → List ℕ) → IsCode V Is text → (k : ℕ) → IsCode (List V) (AreSo V Is k) (flat_map text)
lines_code V Is text code zero [] [] x y is_v is_w same = (refl, same)
lines_code V Is text code zero (v ∷ vs) ws x y is_v is_w same = absurd (omega (arith, is_v.0))
lines_code V Is text code zero [] (w ∷ ws) x y is_v is_w same = absurd (omega (arith, is_w.0))
lines_code V Is text code (suc k) [] ws x y is_v is_w same = absurd (omega (arith, is_v.0))
lines_code V Is text code (suc k) (v ∷ vs) [] x y is_v is_w same = absurd (omega (arith, is_w.0))
lines_code V Is text code (suc k) (v ∷ vs) (w ∷ ws) x y is_v is_w same =
    let first = code v w (flat_map text vs ++ x) (flat_map text ws ++ y) is_v.1.0 is_w.1.0 (sym (append_assoc (text v) (flat_map text vs) x) ∙ (same ∙ append_assoc (text w) (flat_map text ws) y)) in
    let rest = lines_code V Is text code k vs ws x y (omega (arith, is_v.0), is_v.1.1) (omega (arith, is_w.0), is_w.1.1) first.1 in
    ((λ i. first.0 i ∷ rest.0 i), rest.1)
