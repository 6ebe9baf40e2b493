-- The lines of moves: how each begins, and the path behind.
use Rattle.std.proofs.Common.{◌≡◌, ◌≢◌, ℕ, zero, suc, ◌<◌, List, [], ◌∷◌, ◌++◌, length, get_or, Some, refl, sym, ◌∙◌, ap, subst, arith, append_assoc}
use Rattle.std.specs.Prelude.{codes}
use Rattle.gos_lex.specs.Items.{TextAt, Misses}
use Rattle.gos_lex.specs.ItemTexts.{IsTextOf, IsAmong, Passed}
use Rattle.gos_lex.proofs.SequenceLemmas.{Then, IsCode, misses_as, then_first, then_rest, same_fronts}
use Rattle.gos_netlist.proofs.WordLemmas.{found, same_value}
use Rattle.gos_lex.proofs.PassedLemmas.{passed_both, passed_as}
use Rattle.gos_witness.specs.declared.fault.ExplainFault.{ExplainFault}
use Rattle.gos_witness.specs.declared.fault.ExplainFault.TheVariants as faults
use Rattle.gos_witness.specs.declared.move_line.Verb.{Verb}
use Rattle.gos_witness.specs.declared.move_line.Verb.TheVariants as verbs
use Rattle.gos_witness.specs.declared.moves.Line.{Line}
use Rattle.gos_witness.specs.declared.moves.Line.TheVariants.{Unfold, Step, Label, Root}
use Rattle.gos_witness.specs.MovesText.{line_text, HasPath}
use Rattle.gos_witness.specs.inner.Parts.{BreaksOff, IsPathText, path_line, verb_text, VerbRest, IsLineText}
use Rattle.gos_witness.proofs.PathLemmas.{path_code}

abbrev IsVerb : Verb → Type 0
IsVerb verb = Unit {0}

abbrev all_verbs : List Verb
all_verbs = verbs.Unfold ∷ verbs.Step ∷ verbs.Label ∷ verbs.Root ∷ []

-- the ways in which lines begin
abbrev pub verb_words : List (List ℕ)
verb_words = verb_text verbs.Unfold ∷ verb_text verbs.Step ∷ verb_text verbs.Label ∷ verb_text verbs.Root ∷ []

verb_at : (k : ℕ) → k < 4 → (verb : Verb) × (get_or verb_words k [] ≡ verb_text verb)
verb_at zero inside = (verbs.Unfold, refl)
verb_at (suc zero) inside = (verbs.Step, refl)
verb_at (suc (suc zero)) inside = (verbs.Label, refl)
verb_at (suc (suc (suc zero))) inside = (verbs.Root, refl)
verb_at (suc (suc (suc (suc k)))) inside = absurd (omega (arith, inside))

place_of : (verb : Verb) → (k : ℕ) × (k < 4) × (get_or verb_words k [] ≡ verb_text verb)
place_of verbs.Unfold = (0, omega arith, refl)
place_of verbs.Step = (1, omega arith, refl)
place_of verbs.Label = (2, omega arith, refl)
place_of verbs.Root = (3, omega arith, refl)

verb_length : (verb : Verb) → length (verb_text verb) ≡ 2
verb_length verbs.Unfold = refl
verb_length verbs.Step = refl
verb_length verbs.Label = refl
verb_length verbs.Root = refl

verb_found : (verb : Verb) → found Verb verb_text all_verbs (verb_text verb) ≡ Some verb
verb_found verbs.Unfold = refl
verb_found verbs.Step = refl
verb_found verbs.Label = refl
verb_found verbs.Root = refl

verb_code : IsCode Verb IsVerb verb_text
verb_code v w x y is_v is_w same =
    let fronts = same_fronts (verb_text v) x (verb_text w) y same (verb_length v ∙ sym (verb_length w)) in
    (same_value Verb verb_text all_verbs verb_found v w fronts.0, fronts.1)

-- a line is how it begins, and what stands behind
abbrev Parts : List ℕ → Type 0
Parts = Then Verb IsVerb verb_text VerbRest

joined : (bytes : List ℕ) → Parts bytes → IsLineText bytes
joined bytes (verbs.Unfold, rest, is, (path, is_path, left), same) = (Unfold path, is_path, same ∙ ap (λ more. codes "u " ++ more) left)
joined bytes (verbs.Step, rest, is, (path, is_path, left), same) = (Step path, is_path, same ∙ ap (λ more. codes "s " ++ more) left)
joined bytes (verbs.Label, rest, is, (path, is_path, left), same) = (Label path, is_path, same ∙ ap (λ more. codes "l " ++ more) left)
joined bytes (verbs.Root, rest, is, left, same) = (Root, tt, same ∙ ap (λ more. codes "r\n" ++ more) left)

cut : (bytes : List ℕ) → IsLineText bytes → Parts bytes
cut bytes (Unfold path, is, same) = (verbs.Unfold, path_line path, tt, (path, is, refl), same)
cut bytes (Step path, is, same) = (verbs.Step, path_line path, tt, (path, is, refl), same)
cut bytes (Label path, is, same) = (verbs.Label, path_line path, tt, (path, is, refl), same)
cut bytes (Root, is, same) = (verbs.Root, [], tt, refl, same)

some_rest : (verb : Verb) → IsVerb verb → (rest : List ℕ) × VerbRest verb rest
some_rest verbs.Unfold is = (path_line [], ([], tt, refl))
some_rest verbs.Step is = (path_line [], ([], tt, refl))
some_rest verbs.Label is = (path_line [], ([], tt, refl))
some_rest verbs.Root is = ([], refl)

-- no line begins there
pub no_verb : (words : List (List ℕ)) → words ≡ verb_words → (source : List ℕ) (at place : ℕ) → Misses (IsAmong words) source at place → Misses IsLineText source at place
no_verb words same source at place misses =
    misses_as Parts IsLineText source at place joined cut
    (then_first Verb IsVerb verb_text VerbRest source at place some_rest
    (misses_as (IsAmong verb_words) (IsTextOf Verb IsVerb verb_text) source at place
    (λ bytes item. let known = verb_at item.0 item.1 in (known.0, tt, item.2 ∙ known.1))
    (λ bytes item. let known = place_of item.0 in (known.0, known.1, item.2 ∙ sym known.2))
    (subst (λ (table : List (List ℕ)). Misses (IsAmong table) source at place) same misses)))

-- the path breaks off
pub no_path : (verb : Verb) (old mid : TextAt) (fault : ExplainFault) → verb ≢ verbs.Root → Passed old mid (verb_text verb) → BreaksOff IsPathText mid fault → BreaksOff IsLineText old fault
no_path verb old mid (faults.Form place) other passed misses =
    misses_as Parts IsLineText old.text old.at place joined cut
    (then_rest Verb IsVerb verb_text VerbRest old.text old.at mid.at place verb verb_code tt passed.after passed.within passed.is
    (subst (λ (text : List ℕ). Misses (VerbRest verb) text mid.at place) passed.text (by verb other misses)))
  where
    by : (verb : Verb) → verb ≢ verbs.Root → Misses IsPathText mid.text mid.at place → Misses (VerbRest verb) mid.text mid.at place
    by verbs.Unfold other misses = misses
    by verbs.Step other misses = misses
    by verbs.Label other misses = misses
    by verbs.Root other misses = absurd (other refl)
no_path verb old mid faults.NoMemory other passed any = tt
no_path verb old mid (faults.Wrong n) other passed none = absurd none
no_path verb old mid (faults.Labels n) other passed none = absurd none
no_path verb old mid (faults.NotTrace n) other passed none = absurd none
no_path verb old mid (faults.Spent n) other passed none = absurd none
no_path verb old mid faults.Taken other passed none = absurd none
no_path verb old mid (faults.Nodes n) other passed none = absurd none

-- a line with a path is passed
pub line_passed : (verb : Verb) (line : Line) (old mid new : TextAt) (path : List ℕ) → line_text line ≡ verb_text verb ++ path_line path → Passed old mid (verb_text verb) → Passed mid new (path_line path) → Passed old new (line_text line)
line_passed verb line old mid new path same first second =
    passed_as old new (verb_text verb ++ path_line path) (line_text line) (sym same) (passed_both old mid new (verb_text verb) (path_line path) first second)

-- the root's line is
pub root_passed : (verb : Verb) (old new : TextAt) → verb ≡ verbs.Root → Passed old new (verb_text verb) → Passed old new (line_text Root)
root_passed verb old new same passed = subst (λ (v : Verb). Passed old new (verb_text v)) same passed

-- a line by how it begins
abbrev verb_of : Line → Verb
verb_of (Unfold p) = verbs.Unfold
verb_of (Step p) = verbs.Step
verb_of (Label p) = verbs.Label
verb_of Root = verbs.Root

abbrev rest_of : Line → List ℕ
rest_of (Unfold p) = path_line p
rest_of (Step p) = path_line p
rest_of (Label p) = path_line p
rest_of Root = []

line_parts : (v : Line) → line_text v ≡ verb_text (verb_of v) ++ rest_of v
line_parts (Unfold p) = refl
line_parts (Step p) = refl
line_parts (Label p) = refl
line_parts Root = refl

-- lines don't begin one another
pub line_code : IsCode Line HasPath line_text
line_code v w x y is_v is_w same =
    let one = ap (λ bytes. bytes ++ x) (line_parts v) ∙ append_assoc (verb_text (verb_of v)) (rest_of v) x in
    let other = ap (λ bytes. bytes ++ y) (line_parts w) ∙ append_assoc (verb_text (verb_of w)) (rest_of w) y in
    let known = verb_code (verb_of v) (verb_of w) (rest_of v ++ x) (rest_of w ++ y) tt tt (sym one ∙ (same ∙ other)) in
    by v w is_v is_w known.0 known.1
  where
    by : (v w : Line) → HasPath v → HasPath w → verb_of v ≡ verb_of w → rest_of v ++ x ≡ rest_of w ++ y → (v ≡ w) × (x ≡ y)
    by (Unfold p) (Unfold q) is_v is_w verb rest = let known = path_code p q x y is_v is_w rest in (ap Unfold known.0, known.1)
    by (Step p) (Step q) is_v is_w verb rest = let known = path_code p q x y is_v is_w rest in (ap Step known.0, known.1)
    by (Label p) (Label q) is_v is_w verb rest = let known = path_code p q x y is_v is_w rest in (ap Label known.0, known.1)
    by Root Root is_v is_w verb rest = (refl, rest)
    by (Unfold p) (Step q) is_v is_w verb rest = absurd (cc (verb))
    by (Unfold p) (Label q) is_v is_w verb rest = absurd (cc (verb))
    by (Unfold p) Root is_v is_w verb rest = absurd (cc (verb))
    by (Step p) (Unfold q) is_v is_w verb rest = absurd (cc (verb))
    by (Step p) (Label q) is_v is_w verb rest = absurd (cc (verb))
    by (Step p) Root is_v is_w verb rest = absurd (cc (verb))
    by (Label p) (Unfold q) is_v is_w verb rest = absurd (cc (verb))
    by (Label p) (Step q) is_v is_w verb rest = absurd (cc (verb))
    by (Label p) Root is_v is_w verb rest = absurd (cc (verb))
    by Root (Unfold q) is_v is_w verb rest = absurd (cc (verb))
    by Root (Step q) is_v is_w verb rest = absurd (cc (verb))
    by Root (Label q) is_v is_w verb rest = absurd (cc (verb))
