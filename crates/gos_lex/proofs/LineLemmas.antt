-- Where the first line of a text ends: what is cut off there is the first of its lines.
use Rattle.std.proofs.Common.{◌≡◌, ◌==◌, subst, ℕ, not, Some, None, List, [], ◌∷◌, ◌+◌, ◌<◌, cond, length, take, drop, refl, ◌-◌, ◌≤◌, arith, nat_lt, ap, ◌∙◌, position}
use Rattle.std.specs.List.{slice_split, position_or_len}
use Rattle.std.specs.Str.Lines.{lines, lines_of_parts, strip_carriage_return}
use Rattle.std.proofs.lemmas.List.Splits.{slice_split_first, slice_split_none, length-slice_split}
use Rattle.std.proofs.lemmas.List.Sums.{fails_before_first}
use Rattle.std.proofs.lemmas.List.{take_all, length-drop}
use Rattle.gos_lex.specs.Lines.{Word, is_some_word}

pub is_some_word-length : (word : Word) → is_some_word word ≡ not (length word == 0)
is_some_word-length [] = refl
is_some_word-length (b ∷ bytes) = grind arith

-- the cut text has a first part, so the line before the cut ended in a line feed
more_parts : (line : List ℕ) (parts : List (List ℕ)) → 0 < length parts → lines_of_parts (line ∷ parts) ≡ strip_carriage_return line ∷ lines_of_parts parts
more_parts line [] h = absurd (omega arith)
more_parts line (part ∷ parts) h = refl

place_of : (a b end : ℕ) → Some end ≡ cond (nat_lt a b) (Some a) None → (a < b) × (a ≡ end)
place_of a b end h = grind (arith, h)

pub lines-cut : (text : List ℕ) (end : ℕ) → Some end ≡ position (λ b. b == 10) text → lines text ≡ strip_carriage_return (take end text) ∷ lines (drop (end + 1) text)
lines-cut text end h =
    let at = place_of _ _ end h in
    let rest : List (List ℕ) = slice_split (λ b. b == 10) (drop (end + 1) text) in
    let some : 0 < length rest = omega (arith, length-slice_split (λ b. b == 10) (drop (end + 1) text)) in
    let parts : slice_split (λ b. b == 10) text ≡ take end text ∷ rest =
    subst (λ (n : ℕ). slice_split (λ b. b == 10) text ≡ take n text ∷ slice_split (λ b. b == 10) (drop (n + 1) text)) at.1 (slice_split_first (λ b. b == 10) text 0 at.0) in
    ap lines_of_parts parts ∙ more_parts (take end text) rest some

one_part : (line : List ℕ) → 0 < length line → lines_of_parts (line ∷ []) ≡ line ∷ []
one_part line some = grind arith

no_place : (a b : ℕ) → None ≡ cond (nat_lt a b) (Some a) None → b ≤ a
no_place a b h = grind (arith, h)

-- a text without a line feed is one line
pub lines-whole : (text : List ℕ) → None ≡ position (λ b. b == 10) text → 0 < length text → lines text ≡ text ∷ []
lines-whole text h some =
    let over = no_place (position_or_len (λ b. b == 10) text) (length text) h in
    ap lines_of_parts (slice_split_none (λ b. b == 10) text (λ k d lt. fails_before_first (λ b. b == 10) text k d (omega arith))) ∙ one_part text some

-- the rest of a text as code cuts it off
pub rest_of : (at : ℕ) (text : List ℕ) → take (length text - at) (drop at text) ≡ drop at text
rest_of at text = take_all (length text - at) (drop at text) (omega (arith, length-drop at text))
