-- The numbers of a path, one behind another, and its end: none of their texts begins another one.
use Rattle.std.proofs.Common.{◌≡◌, ℕ, zero, suc, ◌+◌, ◌-◌, ◌<◌, ◌≤◌, Bool, true, false, List, [], ◌∷◌, ◌++◌, length, get_or, Option, Some, None, refl, sym, ◌∙◌, ap, subst, arith, append_assoc, append-nil}
use Rattle.std.specs.Prelude.{codes}
use Rattle.std.specs.Fmt.{decimal}
use Rattle.std.proofs.lemmas.Fmt.{decimal_digit}
use Rattle.gos_netlist.specs.NetText.{line}
use Rattle.gos_lex.specs.Items.{TextAt, Misses}
use Rattle.gos_lex.specs.ItemTexts.{IsAmong, Passed}
use Rattle.gos_lex.proofs.PlaceLemmas.{length_slice}
use Rattle.gos_lex.proofs.SequenceLemmas.{IsCode, misses_as}
use Rattle.gos_witness.specs.Paths.{IsChild}
use Rattle.gos_witness.specs.MovesText.{dotted}
use Rattle.gos_witness.specs.inner.Left.{HasLeft, Behind, End, Leads}
use Rattle.gos_witness.specs.inner.Parts.{IsStep, step_at, step_text, IsStepText, IsPath, IsPathText, path_line, PathLeft, StepLeft, is_first}
use Rattle.gos_witness.proofs.LeftLemmas.{Stage, item_passed, item_missed, stands, leads_on, breaks_on, passed_end}

-- the words of steps, by their places
abbrev pub step_words : Bool → List (List ℕ)
step_words true = codes ".\n" ∷ codes "0" ∷ codes "1" ∷ codes "2" ∷ []
step_words false = codes "\n" ∷ codes ".0" ∷ codes ".1" ∷ codes ".2" ∷ []

-- a number of one digit
one_digit : (i : ℕ) → i < 10 → (48 + i) ∷ [] ≡ decimal i
one_digit i small = sym (decimal_digit i small)

step_word : (first : Bool) (k : ℕ) → k < 4 → get_or (step_words first) k [] ≡ step_text first (step_at k)
step_word true zero inside = refl
step_word true (suc zero) inside = one_digit 0 (omega arith)
step_word true (suc (suc zero)) inside = one_digit 1 (omega arith)
step_word true (suc (suc (suc zero))) inside = one_digit 2 (omega arith)
step_word true (suc (suc (suc (suc k)))) inside = absurd (omega (arith, inside))
step_word false zero inside = refl
step_word false (suc zero) inside = ap (λ digits. codes "." ++ digits) (one_digit 0 (omega arith))
step_word false (suc (suc zero)) inside = ap (λ digits. codes "." ++ digits) (one_digit 1 (omega arith))
step_word false (suc (suc (suc zero))) inside = ap (λ digits. codes "." ++ digits) (one_digit 2 (omega arith))
step_word false (suc (suc (suc (suc k)))) inside = absurd (omega (arith, inside))

words_long : (first : Bool) → length (step_words first) ≡ 4
words_long true = refl
words_long false = refl

pub step_is : (k : ℕ) → k < 4 → IsStep (step_at k)
step_is zero inside = tt
step_is (suc i) inside = omega (arith, inside)

step_place : (u : Option ℕ) → IsStep u → (k : ℕ) × (k < 4) × (step_at k ≡ u)
step_place None is = (0, omega arith, refl)
step_place (Some i) is = (suc i, omega (arith, is), refl)

-- the word at a place is the text of its step
pub word_of_step : (first : Bool) (words : List (List ℕ)) (k : ℕ) → words ≡ step_words first → k < 4 → get_or words k [] ≡ step_text first (step_at k)
word_of_step first words k same inside = ap (λ (table : List (List ℕ)). get_or table k []) same ∙ step_word first k inside

-- where none of the words stands, no step does
pub no_step : (first : Bool) (words : List (List ℕ)) → words ≡ step_words first → (source : List ℕ) (at place : ℕ) → Misses (IsAmong words) source at place → Misses (IsStepText first) source at place
no_step first words same source at place misses =
    misses_as (IsAmong (step_words first)) (IsStepText first) source at place
    (λ bytes item.
    let inside : item.0 < 4 = omega (arith, item.1, words_long first) in
    (step_at item.0, step_is item.0 inside, item.2 ∙ step_word first item.0 inside))
    (λ bytes item.
    let known = step_place item.0 item.1 in
    (known.0, omega (arith, known.1, words_long first), item.2 ∙ (ap (step_text first) (sym known.2) ∙ sym (step_word first known.0 known.1))))
    (subst (λ (table : List (List ℕ)). Misses (IsAmong table) source at place) same misses)

-- a number is one byte
digit : (i : ℕ) → IsChild i → decimal i ≡ (48 + i) ∷ []
digit i is = decimal_digit i (omega (arith, is))

number_text : (i : ℕ) (x : List ℕ) → IsChild i → decimal i ++ x ≡ (48 + i) ∷ x
number_text i x is = ap (λ bytes. bytes ++ x) (digit i is)

step_code : (first : Bool) → IsCode (Option ℕ) IsStep (step_text first)
step_code true None None x y is_v is_w same = let rest : x ≡ y = cc same in (refl, rest)
step_code true None (Some j) x y is_v is_w same =
    let whole : 46 ∷ 10 ∷ x ≡ (48 + j) ∷ y = same ∙ number_text j y is_w in
    let byte : 46 ≡ 48 + j = cc whole in
    absurd (omega (arith, byte))
step_code true (Some i) None x y is_v is_w same =
    let whole : (48 + i) ∷ x ≡ 46 ∷ 10 ∷ y = sym (number_text i x is_v) ∙ same in
    let byte : 48 + i ≡ 46 = cc whole in
    absurd (omega (arith, byte))
step_code true (Some i) (Some j) x y is_v is_w same =
    let whole : (48 + i) ∷ x ≡ (48 + j) ∷ y = sym (number_text i x is_v) ∙ (same ∙ number_text j y is_w) in
    let byte : 48 + i ≡ 48 + j = cc whole in
    let rest : x ≡ y = cc whole in
    let number : i ≡ j = omega (arith, byte) in
    (ap (λ (n : ℕ). Some n) number, rest)
step_code false None None x y is_v is_w same = let rest : x ≡ y = cc same in (refl, rest)
step_code false None (Some j) x y is_v is_w same =
    let byte : 10 ≡ 46 = ap (λ bytes. get_or bytes 0 0) same in
    absurd (omega (arith, byte))
step_code false (Some i) None x y is_v is_w same =
    let byte : 46 ≡ 10 = ap (λ bytes. get_or bytes 0 0) same in
    absurd (omega (arith, byte))
step_code false (Some i) (Some j) x y is_v is_w same =
    let behind : decimal i ++ x ≡ decimal j ++ y = cc same in
    let whole : (48 + i) ∷ x ≡ (48 + j) ∷ y = sym (number_text i x is_v) ∙ (behind ∙ number_text j y is_w) in
    let byte : 48 + i ≡ 48 + j = cc whole in
    let rest : x ≡ y = cc whole in
    let number : i ≡ j = omega (arith, byte) in
    (ap (λ (n : ℕ). Some n) number, rest)

-- a path's line is its first step and what is left
first_text : (i : ℕ) (path : List ℕ) → path_line (i ∷ path) ≡ step_text true (Some i) ++ line (dotted path)
first_text i path = append_assoc (decimal i) (dotted path) (10 ∷ [])

later_text : (i : ℕ) (path : List ℕ) → line (dotted (i ∷ path)) ≡ step_text false (Some i) ++ line (dotted path)
later_text i path = append_assoc (codes "." ++ decimal i) (dotted path) (10 ∷ [])

-- what is left of paths doesn't begin one another
left_code : IsCode (List ℕ) IsPath (λ path. line (dotted path))
left_code [] [] x y is_v is_w same = let rest : x ≡ y = cc same in (refl, rest)
left_code [] (j ∷ q) x y is_v is_w same =
    let known = step_code false None (Some j) x (line (dotted q) ++ y) tt is_w.0 (same ∙ (ap (λ bytes. bytes ++ y) (later_text j q) ∙ append_assoc (step_text false (Some j)) (line (dotted q)) y)) in
    absurd (cc (known.0))
left_code (i ∷ p) [] x y is_v is_w same =
    let known = step_code false (Some i) None (line (dotted p) ++ x) y is_v.0 tt (sym (ap (λ bytes. bytes ++ x) (later_text i p) ∙ append_assoc (step_text false (Some i)) (line (dotted p)) x) ∙ same) in
    absurd (cc (known.0))
left_code (i ∷ p) (j ∷ q) x y is_v is_w same =
    let one = ap (λ bytes. bytes ++ x) (later_text i p) ∙ append_assoc (step_text false (Some i)) (line (dotted p)) x in
    let other = ap (λ bytes. bytes ++ y) (later_text j q) ∙ append_assoc (step_text false (Some j)) (line (dotted q)) y in
    let known = step_code false (Some i) (Some j) (line (dotted p) ++ x) (line (dotted q) ++ y) is_v.0 is_w.0 (sym one ∙ (same ∙ other)) in
    let number : i ≡ j = cc (known.0) in
    let rest = left_code p q x y is_v.1 is_w.1 known.1 in
    ((λ k. number k ∷ rest.0 k), rest.1)

-- nor do the lines of paths
pub path_code : IsCode (List ℕ) IsPath path_line
path_code [] [] x y is_v is_w same = let rest : x ≡ y = cc same in (refl, rest)
path_code [] (j ∷ q) x y is_v is_w same =
    let known = step_code true None (Some j) x (line (dotted q) ++ y) tt is_w.0 (same ∙ (ap (λ bytes. bytes ++ y) (first_text j q) ∙ append_assoc (step_text true (Some j)) (line (dotted q)) y)) in
    absurd (cc (known.0))
path_code (i ∷ p) [] x y is_v is_w same =
    let known = step_code true (Some i) None (line (dotted p) ++ x) y is_v.0 tt (sym (ap (λ bytes. bytes ++ x) (first_text i p) ∙ append_assoc (step_text true (Some i)) (line (dotted p)) x) ∙ same) in
    absurd (cc (known.0))
path_code (i ∷ p) (j ∷ q) x y is_v is_w same =
    let one = ap (λ bytes. bytes ++ x) (first_text i p) ∙ append_assoc (step_text true (Some i)) (line (dotted p)) x in
    let other = ap (λ bytes. bytes ++ y) (first_text j q) ∙ append_assoc (step_text true (Some j)) (line (dotted q)) y in
    let known = step_code true (Some i) (Some j) (line (dotted p) ++ x) (line (dotted q) ++ y) is_v.0 is_w.0 (sym one ∙ (same ∙ other)) in
    let number : i ≡ j = cc (known.0) in
    let rest = left_code p q x y is_v.1 is_w.1 known.1 in
    ((λ k. number k ∷ rest.0 k), rest.1)

-- what is left of a path begins with a step
left_to : (done v bytes : List ℕ) → PathLeft done v bytes → Behind (List ℕ) (Option ℕ) IsStep (step_text (is_first done)) (StepLeft done) v bytes
left_to [] [] bytes (is, same) = (None, [], tt, (refl, refl), same)
left_to [] (i ∷ path) bytes (is, same) = (Some i, line (dotted path), is.0, (path, is.1, refl, refl), same ∙ first_text i path)
left_to (d ∷ ds) v bytes ([], is, whole, same) = (None, [], tt, (whole ∙ append-nil (d ∷ ds), refl), same)
left_to (d ∷ ds) v bytes (i ∷ rest, is, whole, same) = (
  Some i,
  line (dotted rest),
  is.0,
  (rest, is.1, whole ∙ sym (append_assoc (d ∷ ds) (i ∷ []) rest), refl),
  same ∙ later_text i rest,
)

left_from : (done v bytes : List ℕ) → Behind (List ℕ) (Option ℕ) IsStep (step_text (is_first done)) (StepLeft done) v bytes → PathLeft done v bytes
left_from [] v bytes (None, more, is, (none, nothing), same) =
    (subst IsPath (sym none) tt, same ∙ (ap (λ rest. step_text true None ++ rest) nothing ∙ ap path_line (sym none)))
left_from [] v bytes (Some i, more, is, (rest, is_rest, whole, left), same) = (
  subst IsPath (sym whole) (is, is_rest),
  same ∙ (ap (λ part. step_text true (Some i) ++ part) left ∙ (sym (first_text i rest) ∙ ap path_line (sym whole))),
)
left_from (d ∷ ds) v bytes (None, more, is, (none, nothing), same) =
    ([], tt, none ∙ sym (append-nil (d ∷ ds)), same ∙ ap (λ rest. step_text false None ++ rest) nothing)
left_from (d ∷ ds) v bytes (Some i, more, is, (rest, is_rest, whole, left), same) = (
  i ∷ rest,
  (is, is_rest),
  whole ∙ append_assoc (d ∷ ds) (i ∷ []) rest,
  same ∙ (ap (λ part. step_text false (Some i) ++ part) left ∙ sym (later_text i rest)),
)

some_left : (done : List ℕ) (u : Option ℕ) → IsStep u → (bytes : List ℕ) × HasLeft (List ℕ) (StepLeft done u) bytes
some_left done None is = ([], (done, (refl, refl)))
some_left [] (Some i) is = (line (dotted []), (i ∷ [], ([], tt, refl, refl)))
some_left (d ∷ ds) (Some i) is = (line (dotted []), ((d ∷ ds) ++ i ∷ [], ([], tt, sym (append-nil ((d ∷ ds) ++ i ∷ [])), refl)))

path_stage : (done : List ℕ) → Stage (List ℕ) (Option ℕ) (PathLeft done) IsStep (step_text (is_first done)) (StepLeft done)
path_stage done =
    record { to = left_to done; from = left_from done; code = step_code (is_first done); completes = some_left done }

-- one step more is passed
pub step_passed : (old mid new : TextAt) (done : List ℕ) (u : Option ℕ) → Leads (List ℕ) (PathLeft []) (PathLeft done) old mid → IsStep u → Passed mid new (step_text (is_first done) u)
    → Leads (List ℕ) (PathLeft []) (StepLeft done u) old new
step_passed old mid new done u far is passed =
    leads_on (List ℕ) (PathLeft []) (PathLeft done) (StepLeft done u) old mid new far
    (item_passed (List ℕ) (Option ℕ) (PathLeft done) IsStep (step_text (is_first done)) (StepLeft done) (path_stage done) mid new u is passed)

-- a step breaks off
pub step_missed : (old mid : TextAt) (done : List ℕ) (place : ℕ) → Leads (List ℕ) (PathLeft []) (PathLeft done) old mid → Misses (IsStepText (is_first done)) mid.text mid.at place
    → Misses IsPathText old.text old.at place
step_missed old mid done place far misses =
    misses_as (HasLeft (List ℕ) (PathLeft [])) IsPathText old.text old.at place (λ bytes item. (item.0, item.1.0, item.1.1)) (λ bytes item. (item.0, (item.1, item.2)))
    (breaks_on (List ℕ) (PathLeft []) (PathLeft done) old mid place far
    (item_missed (List ℕ) (Option ℕ) (PathLeft done) IsStep (step_text (is_first done)) (StepLeft done) (path_stage done) mid place misses))

-- a path is passed
pub path_passed : (old new : TextAt) (path : List ℕ) → Leads (List ℕ) (PathLeft []) (End (List ℕ) path) old new → Passed old new (path_line path)
path_passed old new path leads = passed_end (List ℕ) (PathLeft []) path_line old new path leads (λ bytes left. left.1)

-- all numbers of a path and one more
pub path_more : (done : List ℕ) (i : ℕ) → IsPath done → IsChild i → IsPath (done ++ i ∷ [])
path_more [] i all is = (is, tt)
path_more (d ∷ ds) i all is = (all.0, path_more ds i all.1 is)

-- each step takes a byte
pub step_long : (first : Bool) (u : Option ℕ) → IsStep u → 0 < length (step_text first u)
step_long true None is = omega arith
step_long true (Some i) is = omega (arith, ap length (digit i is))
step_long false None is = omega arith
step_long false (Some i) is = omega arith

-- The turns of the reader of a path.

pub step_breaks : (old mid : TextAt) (done : List ℕ) (first : Bool) (place : ℕ) → first ≡ is_first done → Leads (List ℕ) (PathLeft []) (PathLeft done) old mid → Misses (IsStepText first) mid.text mid.at place
    → Misses IsPathText old.text old.at place
step_breaks old mid done first place same far misses =
    step_missed old mid done place far (subst (λ (b : Bool). Misses (IsStepText b) mid.text mid.at place) same misses)

pub step_more : (old mid new : TextAt) (done : List ℕ) (first : Bool) (u : Option ℕ) (i : ℕ) → first ≡ is_first done → u ≡ Some i → Leads (List ℕ) (PathLeft []) (PathLeft done) old mid → IsPath done → IsStep u
    → Passed mid new (step_text first u) → Leads (List ℕ) (PathLeft []) (PathLeft (done ++ i ∷ [])) old new × IsPath (done ++ i ∷ [])
step_more old mid new done first u i same some far all is passed =
    let here = subst (λ (b : Bool). Passed mid new (step_text b u)) same passed in
    let leads = step_passed old mid new done u far is here in
    let child : IsChild i = subst IsStep some is in
    (subst (λ (s : Option ℕ). Leads (List ℕ) (PathLeft []) (StepLeft done s) old new) some leads, path_more done i all child)

pub step_end : (old mid new : TextAt) (done : List ℕ) (first : Bool) (u : Option ℕ) → first ≡ is_first done → u ≡ None → Leads (List ℕ) (PathLeft []) (PathLeft done) old mid → IsStep u → Passed mid new (step_text first u)
    → Passed old new (path_line done)
step_end old mid new done first u same none far is passed =
    let here = subst (λ (b : Bool). Passed mid new (step_text b u)) same passed in
    let leads = step_passed old mid new done u far is here in
    path_passed old new done (subst (λ (s : Option ℕ). Leads (List ℕ) (PathLeft []) (StepLeft done s) old new) none leads)

pub step_shorter : (old mid new : TextAt) (done : List ℕ) (first : Bool) (u : Option ℕ) → Leads (List ℕ) (PathLeft []) (PathLeft done) old mid → IsStep u → Passed mid new (step_text first u)
    → length old.text - new.at < length old.text - mid.at
step_shorter old mid new done first u far is passed =
    let within : new.at ≤ length old.text = subst (λ (text : List ℕ). new.at ≤ length text) far.text passed.within in
    let size = length_slice mid.text mid.at new.at passed.within in
    omega (arith, within, size, ap length passed.is, step_long first u is, passed.after)

pub path_starts : (old : TextAt) → old.at ≤ length old.text → Leads (List ℕ) (PathLeft []) (PathLeft []) old old
path_starts old within = stands (List ℕ) (PathLeft []) old within
