-- Items one behind the other: where one breaks off, all of them do.
use Rattle.std.proofs.Common.{◌≡◌, ℕ, ◌≤◌, List, [], ◌∷◌, ◌++◌, length, refl, sym, ◌∙◌, ap, subst, arith, append_assoc, append-nil}
use Rattle.std.specs.List.{AllByRecursion, slice_range}
use Rattle.gos_lex.specs.Items.{TextAt, Misses}
use Rattle.gos_lex.proofs.PlaceLemmas.{slice_nothing, slice_split}
use Rattle.gos_lex.specs.ItemTexts.{IsTextOf, Passed}
use Rattle.gos_lex.proofs.SequenceLemmas.{Then, IsCode, misses_as, then_first, then_rest}
use Rattle.gos_verilog.specs.inner.Runs.{Fit, run_text, IsRun}

-- each context has a value
abbrev pub Some : (C V : Type 0) → (C → V → Type 0) → List C → Type 0
Some C V Is = AllByRecursion (λ c. (v : V) × Is c v)

-- no text of a context begins another one
abbrev pub Codes : (C V : Type 0) → (C → V → Type 0) → (C → V → List ℕ) → List C → Type 0
Codes C V Is text = AllByRecursion (λ c. IsCode V (Is c) (text c))

pub some_run : (C V : Type 0) (Is : C → V → Type 0) (text : C → V → List ℕ) (cs : List C) → Some C V Is cs → (bytes : List ℕ) × IsRun C V Is text cs bytes
some_run C V Is text [] some = ([], ([], tt, refl))
some_run C V Is text (c ∷ cs) some =
    let rest = some_run C V Is text cs some.1 in
    (text c some.0.0 ++ rest.0, (some.0.0 ∷ rest.1.0, (some.0.1, rest.1.1), ap (λ part. text c some.0.0 ++ part) rest.1.2))

joined : (C V : Type 0) (Is : C → V → Type 0) (text : C → V → List ℕ) (c : C) (cs : List C) (bytes : List ℕ) → Then V (Is c) (text c) (λ _. IsRun C V Is text cs) bytes → IsRun C V Is text (c ∷ cs) bytes
joined C V Is text c cs bytes (v, rest, is, (vs, are, part), whole) = (v ∷ vs, (is, are), whole ∙ ap (λ more. text c v ++ more) part)

cut : (C V : Type 0) (Is : C → V → Type 0) (text : C → V → List ℕ) (c : C) (cs : List C) (bytes : List ℕ) → IsRun C V Is text (c ∷ cs) bytes → Then V (Is c) (text c) (λ _. IsRun C V Is text cs) bytes
cut C V Is text c cs bytes ([], are, whole) = absurd are
cut C V Is text c cs bytes (v ∷ vs, are, whole) = (v, run_text C V text cs vs, are.0, (vs, are.1, refl), whole)

run_first : (C V : Type 0) (Is : C → V → Type 0) (text : C → V → List ℕ) (c : C) (cs : List C) (source : List ℕ) (at place : ℕ) → Some C V Is cs
    → Misses (IsTextOf V (Is c) (text c)) source at place → Misses (IsRun C V Is text (c ∷ cs)) source at place
run_first C V Is text c cs source at place some misses =
    misses_as (Then V (Is c) (text c) (λ _. IsRun C V Is text cs)) (IsRun C V Is text (c ∷ cs)) source at place (joined C V Is text c cs) (cut C V Is text c cs)
    (then_first V (Is c) (text c) (λ _. IsRun C V Is text cs) source at place (λ v is. some_run C V Is text cs some) misses)

run_rest : (C V : Type 0) (Is : C → V → Type 0) (text : C → V → List ℕ) (c : C) (cs : List C) (source : List ℕ) (at mid place : ℕ) (v : V) → IsCode V (Is c) (text c) → Is c v
    → at ≤ mid → mid ≤ length source → slice_range source at mid ≡ text c v → Misses (IsRun C V Is text cs) source mid place → Misses (IsRun C V Is text (c ∷ cs)) source at place
run_rest C V Is text c cs source at mid place v code is after within first misses =
    misses_as (Then V (Is c) (text c) (λ _. IsRun C V Is text cs)) (IsRun C V Is text (c ∷ cs)) source at place (joined C V Is text c cs) (cut C V Is text c cs)
    (then_rest V (Is c) (text c) (λ _. IsRun C V Is text cs) source at mid place v code is after within first misses)

-- some items are read, those of the contexts `left` are left
pub record RunSoFar (C V : Type 0) (Is : C → V → Type 0) (text : C → V → List ℕ) (cs : List C) (old now : TextAt) (vs : List V) (left : List C) : Type 0 where
  pub same : now.text ≡ old.text
  pub after : old.at ≤ now.at
  pub within : now.at ≤ length old.text
  pub fits : (more : List V) → Fit C V Is left more → Fit C V Is cs (vs ++ more)
  pub reads : (more : List V) → Fit C V Is left more → slice_range old.text old.at now.at ++ run_text C V text left more ≡ run_text C V text cs (vs ++ more)
  pub breaks : (place : ℕ) → Misses (IsRun C V Is text left) old.text now.at place → Misses (IsRun C V Is text cs) old.text old.at place

pub none_yet : (C V : Type 0) (Is : C → V → Type 0) (text : C → V → List ℕ) (cs : List C) (old : TextAt) → old.at ≤ length old.text → RunSoFar C V Is text cs old old [] cs
none_yet C V Is text cs old within =
    record {
      same = refl;
      after = omega arith;
      within = within;
      fits = λ more fit. fit;
      reads = λ more fit. ap (λ part. part ++ run_text C V text cs more) (slice_nothing old.text old.at);
      breaks = λ place misses. misses;
    }

pub one_more : (C V : Type 0) (Is : C → V → Type 0) (text : C → V → List ℕ) (cs : List C) (old mid new : TextAt) (vs : List V) (c : C) (left : List C) (v : V)
    → IsCode V (Is c) (text c) → RunSoFar C V Is text cs old mid vs (c ∷ left) → Is c v → Passed mid new (text c v) → RunSoFar C V Is text cs old new (vs ++ v ∷ []) left
one_more C V Is text cs old mid new vs c left v code far is passed =
    let within : new.at ≤ length old.text = subst (λ (source : List ℕ). new.at ≤ length source) far.same passed.within in
    let part : slice_range old.text mid.at new.at ≡ text c v = subst (λ (source : List ℕ). slice_range source mid.at new.at ≡ text c v) far.same passed.is in
    record {
      same = passed.text ∙ far.same;
      after = omega (arith, far.after, passed.after);
      within = within;
      fits = λ more fit. subst (Fit C V Is cs) (sym (append_assoc vs (v ∷ []) more)) (far.fits (v ∷ more) (is, fit));
      reads = λ more fit.
          ap (λ bytes. bytes ++ run_text C V text left more) (slice_split old.text old.at mid.at new.at far.after passed.after ∙ ap (λ bytes. slice_range old.text old.at mid.at ++ bytes) part)
          ∙ (append_assoc (slice_range old.text old.at mid.at) (text c v) (run_text C V text left more)
          ∙ (far.reads (v ∷ more) (is, fit) ∙ ap (run_text C V text cs) (sym (append_assoc vs (v ∷ []) more))));
      breaks = λ place misses. far.breaks place (run_rest C V Is text c left old.text mid.at new.at place v code is passed.after within part misses);
    }

-- where an item breaks off, all do
pub no_more : (C V : Type 0) (Is : C → V → Type 0) (text : C → V → List ℕ) (cs : List C) (old mid : TextAt) (vs : List V) (c : C) (left : List C) (place : ℕ)
    → Some C V Is left → RunSoFar C V Is text cs old mid vs (c ∷ left) → Misses (IsTextOf V (Is c) (text c)) mid.text mid.at place → Misses (IsRun C V Is text cs) old.text old.at place
no_more C V Is text cs old mid vs c left place some far misses =
    far.breaks place (run_first C V Is text c left old.text mid.at place some (subst (λ (source : List ℕ). Misses (IsTextOf V (Is c) (text c)) source mid.at place) far.same misses))

-- all are read
pub all_fit : (C V : Type 0) (Is : C → V → Type 0) (text : C → V → List ℕ) (cs : List C) (old new : TextAt) (vs : List V) → RunSoFar C V Is text cs old new vs [] → Fit C V Is cs vs
all_fit C V Is text cs old new vs far = subst (Fit C V Is cs) (append-nil vs) (far.fits [] tt)

pub all_passed : (C V : Type 0) (Is : C → V → Type 0) (text : C → V → List ℕ) (cs : List C) (old new : TextAt) (vs : List V) → RunSoFar C V Is text cs old new vs [] → Passed old new (run_text C V text cs vs)
all_passed C V Is text cs old new vs far =
    record {
      text = far.same;
      after = far.after;
      within = far.within;
      is = sym (append-nil (slice_range old.text old.at new.at)) ∙ (far.reads [] tt ∙ ap (run_text C V text cs) (append-nil vs));
    }

-- no run of these contexts begins another one
pub run_code : (C V : Type 0) (Is : C → V → Type 0) (text : C → V → List ℕ) (cs : List C) → Codes C V Is text cs → IsCode (List V) (Fit C V Is cs) (run_text C V text cs)
run_code C V Is text [] codes [] [] x y is_v is_w same = (refl, same)
run_code C V Is text [] codes (v ∷ vs) ws x y is_v is_w same = absurd is_v
run_code C V Is text [] codes [] (w ∷ ws) x y is_v is_w same = absurd is_w
run_code C V Is text (c ∷ cs) codes [] ws x y is_v is_w same = absurd is_v
run_code C V Is text (c ∷ cs) codes (v ∷ vs) [] x y is_v is_w same = absurd is_w
run_code C V Is text (c ∷ cs) codes (v ∷ vs) (w ∷ ws) x y is_v is_w same =
    let first = codes.0 v w (run_text C V text cs vs ++ x) (run_text C V text cs ws ++ y) is_v.0 is_w.0
    (sym (append_assoc (text c v) (run_text C V text cs vs) x) ∙ (same ∙ append_assoc (text c w) (run_text C V text cs ws) y)) in
    let rest = run_code C V Is text cs codes.1 vs ws x y is_v.1 is_w.1 first.1 in
    ((λ i. first.0 i ∷ rest.0 i), rest.1)
