-- Lines that lead somewhere are a list of moves with unfoldings behind them.
use Rattle.std.proofs.Common.{◌≡◌, ◌⊎◌, ◌<◌, ◌≤◌, ℕ, zero, suc, List, [], ◌∷◌, ◌++◌, length, take, refl, sym, ap, subst, arith, ◌∙◌}
use Rattle.gos_model.specs.Reach.{Rel, Reached, Rewrites}
use Rattle.gos_model.specs.Steps.{Steps, Computes}
use Rattle.gos_model.specs.Labels.{Label as Shown, Emits, Takes}
use Rattle.gos_model.specs.Moves.{Program, Config, Idle, Running, Act, Computing, Showing, Unfoldings, Moves, labels}
use Rattle.gos_witness.specs.declared.moves.Line.{Line}
use Rattle.gos_witness.specs.declared.moves.Line.TheVariants.{Unfold, Step, Label, Root}
use Rattle.gos_witness.specs.Sizes.{size_of}
use Rattle.gos_witness.specs.Lines.{Stand, start, Lead, Makes, TakesLeast, limit}
use Rattle.gos_witness.specs.Find.{steps_of, UnfoldsToSize, HasLarge}
use Rattle.gos_witness.specs.inner.Finds.{steps_in}
use Rattle.gos_witness.proofs.ExplainLemmas.{Held', reached_more, unfold_more}
use Rattle.gos_swaps.proofs.doings.HeadLemmas.{head_of}

-- the lines lead from a to b, through terms of any size
abbrev pub Follow : Program → List Line → Stand → Stand → Type 0
Follow p [] a b = a ≡ b
Follow p (line ∷ lines) a b = (c : Stand) × Makes p line a c × Follow p lines c b

pub follows : (p : Program) (lines : List Line) (a b : Stand) → Lead p lines a b → Follow p lines a b
follows p [] a b e = e
follows p (line ∷ lines) a b (c, makes, small, lead) = (c, makes, follows p lines c b lead)

follow_more : (p : Program) (lines : List Line) (line : Line) (a b c : Stand) → Follow p lines a b → Makes p line b c → Follow p (lines ++ line ∷ []) a c
follow_more p [] line a b c e makes = (c, subst (λ (x : Stand). Makes p line x c) (sym e) makes, refl)
follow_more p (l ∷ lines) line a b c (d, first, rest) makes = (d, first, follow_more p lines line d b c rest makes)

-- moves lead from b, and unfoldings from there on to a; so many of the moves are steps, and they have the labels up to those left
abbrev pub Moved : Program → Config → ℕ → List Shown → Stand → Type 0
Moved p b n left a =
    (acts : List Act) × (c : Config) × (k : ℕ) × Moves p acts b c × Held' k c a.config × (labels acts ++ a.left ≡ left) × (steps_of acts ≡ n)

module _ (p : Program) where
  moved :
      (lines : List Line) (n : ℕ) (b c : Config) (left : List Shown) (a : Stand) → Held' n b c
      → Follow p lines (record { config = c; left = left }) a → Moved p b (steps_in lines) left a
  moved [] n b c left a h e = ([], b, n, refl, subst (Held' n b) (ap (λ x. x.config) e) h, sym (ap (λ x. x.left) e), refl)
  moved (l ∷ lines) n Idle (Running u r) left a h follow = absurd h
  moved (l ∷ lines) n (Running m s) Idle left a h follow = absurd h
  moved (Unfold path ∷ lines) n Idle Idle left a h (c, makes, follow) = absurd makes
  moved (Step path ∷ lines) n Idle Idle left a h (c, makes, follow) = absurd makes
  moved (Label path ∷ lines) n Idle Idle left a h (c, makes, follow) = absurd makes
  moved (Root ∷ lines) n Idle Idle [] a h (c, makes, follow) = absurd makes
  moved (Root ∷ lines) n Idle Idle (o ∷ left) a h (c, (is, makes), follow) =
      let after = subst (λ x. Follow p lines x a) makes follow in
      let (acts, d, k, moves, held, shown, steps) = moved lines 0 (Running p.body []) (Running p.body []) left a (refl, refl) after in
      (Showing o ∷ acts, d, k, (Running p.body [], (ap Showing is, refl), moves), held, ap (λ x. o ∷ x) shown, steps)
  moved (Unfold path ∷ lines) n (Running m s) (Running u r) left a (us, same) (c, (t, at, makes), follow) =
      let after = subst (λ x. Follow p lines x a) makes follow in
      moved lines (suc n) (Running m s) (Running t r) left a (unfold_more n m u t us (head_of Rewrites path u t at), same) after
  moved (Step path ∷ lines) n (Running m s) (Running u r) left a (us, same) (c, (t, s', at, makes), follow) =
      let after = subst (λ x. Follow p lines x a) makes follow in
      let (acts, d, k, moves, held, shown, steps) = moved lines 0 (Running t s') (Running t s') left a (refl, refl) after in
      let does : Steps r s' u t =
      reached_more (λ x y. Computes r s' x y × TakesLeast r s' x) (Computes r s') (λ x y h. h.0) path u t at in
      (Computing ∷ acts, d, k, (Running t s', (n, u, us, subst (λ x. Steps x s' u t) (sym same) does), moves), held, shown, ap suc steps)
  moved (Label path ∷ lines) n (Running m s) (Running u r) [] a h (c, makes, follow) = absurd makes
  moved (Label path ∷ lines) n (Running m s) (Running u r) (o ∷ left) a (us, same) (c, (t, at, makes), follow) =
      let after = subst (λ x. Follow p lines x a) makes follow in
      let (acts, d, k, moves, held, shown, steps) = moved lines 0 (Running t r) (Running t r) left a (refl, refl) after in
      let R : Rel = λ x y. Emits p.imports o x y ⊎ Takes p.imports o x y in
      let does : Reached R u t = reached_more R R (λ x y h. h) path u t at in
      (Showing o ∷ acts, d, k, (Running t r, (n, u, us, (does, sym same)), moves), held, ap (λ x. o ∷ x) shown, steps)
  moved (Root ∷ lines) n (Running m s) (Running u r) [] a h (c, makes, follow) = absurd makes
  moved (Root ∷ lines) n (Running m s) (Running u r) (o ∷ left) a (us, same) (c, (answers, makes), follow) =
      let after = subst (λ x. Follow p lines x a) makes follow in
      let (acts, d, k, moves, held, shown, steps) = moved lines 0 Idle Idle left a refl after in
      (Showing o ∷ acts, d, k, (Idle, (n, u, us, answers), moves), held, ap (λ x. o ∷ x) shown, steps)

pub lines_move : (p : Program) (ls : List Shown) (lines : List Line) (a : Stand) → Follow p lines (start ls) a → Moved p Idle (steps_in lines) ls a
lines_move p ls lines a follow = moved p lines 0 Idle Idle ls a refl follow

-- what is used of a list is its beginning
pub used_first : (xs ys zs : List Shown) → xs ++ ys ≡ zs → xs ≡ take (length xs) zs
used_first xs ys zs e = beginning xs ys ∙ ap (λ (ls : List Shown). take (length xs) ls) e
  where
    beginning : (xs ys : List Shown) → xs ≡ take (length xs) (xs ++ ys)
    beginning [] ys = refl
    beginning (x ∷ xs) ys = ap (λ (ls : List Shown). x ∷ ls) (beginning xs ys)

unfolds_to : (k : ℕ) (c d : Config) (nodes : ℕ) → Held' k c d → nodes ≡ size_of d → 0 < nodes → UnfoldsToSize c nodes
unfolds_to k Idle Idle nodes h has some = omega (arith, has, some)
unfolds_to k Idle (Running u r) nodes h has some = absurd h
unfolds_to k (Running m s) Idle nodes h has some = absurd h
unfolds_to k (Running m s) (Running u r) nodes (us, same) has some = (k, u, us, has)

-- one line more leads to a term that is too large
pub large_found : (p : Program) (ls : List Shown) (lines : List Line) (line : Line) (a b : Stand) (nodes : ℕ) → Lead p lines (start ls) a → Makes p line a b
    → nodes ≡ size_of b.config → limit < nodes → HasLarge p ls nodes
large_found p ls lines line a b nodes lead makes has large =
    let (acts, c, k, moves, held, shown, steps) = lines_move p ls (lines ++ line ∷ []) b (follow_more p lines line (start ls) a b (follows p lines (start ls) a lead) makes) in
    record {
      acts = acts;
      config = c;
      moves = moves;
      first = (length (labels acts), used_first (labels acts) b.left ls shown);
      size = unfolds_to k c b.config nodes held has (omega (arith, large));
      large = large;
    }
