-- Lines that lead on, one by one, and where the replay ends.
use Rattle.std.proofs.Common.{◌≡◌, ◌<◌, ◌≤◌, ◌⊎◌, ℕ, zero, suc, List, [], ◌∷◌, ◌++◌, length, take, drop, refl, sym, ap, subst, arith, inl, inr, ◌∙◌}
use Rattle.std.specs.Prelude.{get_or}
use Rattle.std.proofs.Math.Seq.{drop-cons, take-suc}
use Rattle.std.proofs.lemmas.List.{take-append-drop}
use Rattle.gos_model.specs.Labels as shown
use Rattle.gos_model.specs.Moves.{Program}
use Rattle.gos_witness.specs.declared.moves.Line.{Line}
use Rattle.gos_witness.specs.Sizes.{size_of}
use Rattle.gos_witness.specs.Lines.{Stand, start, Lead, Makes, CantMake, IsSmall, IsIdle, EndsIdly, IsWrong, IsTooLarge, limit}
use Rattle.gos_witness.proofs.KeepLemmas.{one_longer}
use Rattle.gos_witness.proofs.AnswerLemmas.{Compared, compared}

-- one line more
pub lead_more : (p : Program) (lines : List Line) (line : Line) (a b c : Stand) → Lead p lines a b → Makes p line b c → IsSmall c → Lead p (lines ++ line ∷ []) a c
lead_more p [] line a b c e makes small = (c, subst (λ (x : Stand). Makes p line x c) (sym e) makes, small, refl)
lead_more p (l ∷ lines) line a b c (d, first, size, rest) makes small = (d, first, size, lead_more p lines line d b c rest makes small)

-- the list around its line number n
pub around : (lines : List Line) (n : ℕ) (line : Line) → n < length lines → line ≡ get_or lines n line → lines ≡ take n lines ++ line ∷ drop (suc n) lines
around lines n line h is =
    sym (take-append-drop n lines) ∙ ap (λ (ls : List Line). take n lines ++ ls) (drop-cons lines n line h)
    ∙ ap (λ (l : Line). take n lines ++ l ∷ drop (suc n) lines) (sym is)

short : (n : ℕ) (lines : List Line) → n ≤ length lines → length (take n lines) ≡ n
short zero lines h = refl
short (suc n) [] h = absurd (omega (arith, h))
short (suc n) (l ∷ lines) h = ap suc (short n lines (omega (arith, h)))

-- a line that can't be made, or the last and an unfolding
pub wrong_here : (p : Program) (labels : List shown.Label) (lines : List Line) (n : ℕ) (line : Line) (stand : Stand) → n < length lines
    → line ≡ get_or lines n line → Lead p (take n lines) (start labels) stand → CantMake p line stand ⊎ IsIdle line (drop (suc n) lines)
    → IsWrong p labels lines n
wrong_here p labels lines n line stand h is lead wrong = record {
  before = take n lines;
  line = line;
  after = drop (suc n) lines;
  are = around lines n line h is;
  place = sym (short n lines (omega (arith, h)));
  stand = stand;
  lead = lead;
  wrong = wrong;
}

-- a line that leads to a term that is too large
pub large_here : (p : Program) (labels : List shown.Label) (lines : List Line) (n : ℕ) (line : Line) (stand next : Stand) (nodes : ℕ) → n < length lines
    → line ≡ get_or lines n line → Lead p (take n lines) (start labels) stand → Makes p line stand next → (IsIdle line (drop (suc n) lines) → ⊥)
    → limit < nodes → nodes ≡ size_of next.config → IsTooLarge p labels lines nodes
large_here p labels lines n line stand next nodes h is lead makes not_idle large has = record {
  before = take n lines;
  line = line;
  after = drop (suc n) lines;
  are = around lines n line h is;
  stand = stand;
  lead = lead;
  next = next;
  makes = makes;
  not_idle = not_idle;
  large = subst (λ (k : ℕ). limit < k) has large;
  has = has;
}

-- the lines up to the next one
pub lead_on : (p : Program) (labels : List shown.Label) (lines : List Line) (n : ℕ) (line : Line) (a b : Stand) → n < length lines → line ≡ get_or lines n line
    → Lead p (take n lines) (start labels) a → Makes p line a b → IsSmall b → Lead p (take (suc n) lines) (start labels) b
lead_on p labels lines n line a b h is lead makes small =
    subst (λ (ls : List Line). Lead p ls (start labels) b)
    (sym (take-suc lines n line h ∙ ap (λ (l : Line). take n lines ++ l ∷ []) (sym is)))
    (lead_more p (take n lines) line (start labels) a b lead makes small)

-- no unfolding stands at the end, where the last line is none
pub not_ending : (before : List Line) (line : Line) → (IsIdle line [] → ⊥) → EndsIdly (before ++ line ∷ []) → ⊥
not_ending before line never (xs, x, e, idle) = by (compared before line [] xs x [] e)
  where
    by : Compared before line [] xs x [] → ⊥
    by (inl (same, is, after)) = never (subst (λ (l : Line). IsIdle l []) (sym is) idle)
    by (inr (inl (more, longer, after))) = let n = ap length after in let one = one_longer more x in absurd (omega (arith, n, one))
    by (inr (inr (more, longer, after))) = let n = ap length after in let one = one_longer more line in absurd (omega (arith, n, one))

pub not_at_end : (lines : List Line) (n : ℕ) (line : Line) → n < length lines → line ≡ get_or lines n line → suc n ≡ length lines
    → (IsIdle line (drop (suc n) lines) → ⊥) → EndsIdly lines → ⊥
not_at_end lines n line h is last never =
    let none : drop (suc n) lines ≡ [] = no_more (suc n) lines (omega (arith, last)) in
    let are : lines ≡ take n lines ++ line ∷ [] = around lines n line h is ∙ ap (λ (ls : List Line). take n lines ++ line ∷ ls) none in
    λ e. not_ending (take n lines) line (λ idle. never (subst (λ (ls : List Line). IsIdle line ls) (sym none) idle)) (subst EndsIdly are e)
  where
    no_more : (k : ℕ) (ls : List Line) → length ls ≤ k → drop k ls ≡ []
    no_more zero [] h = refl
    no_more zero (l ∷ ls) h = absurd (omega (arith, h))
    no_more (suc k) [] h = refl
    no_more (suc k) (l ∷ ls) h = no_more k ls (omega (arith, h))
