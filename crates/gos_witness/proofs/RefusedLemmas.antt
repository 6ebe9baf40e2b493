-- Where no line is found, no list of moves does better.
use Rattle.std.proofs.Common.{◌≡◌, ◌≤◌, ◌<◌, ◌+◌, ℕ, suc, List, [], ◌∷◌, ◌++◌, length, take, refl, sym, ap, subst, arith, ◌∙◌, length-append}
use Rattle.gos_model.specs.Labels.{Label as Shown}
use Rattle.gos_model.specs.Moves.{Program, Config, Trace, labels}
use Rattle.gos_swaps.specs.doings.Doings.{Doing}
use Rattle.gos_swaps.specs.orders.Alike.{Alike}
use Rattle.gos_swaps.specs.needed.Lists.{steps_among, labels_among}
use Rattle.gos_swaps.proofs.orders.AlikeLemmas.{alike_back}
use Rattle.gos_witness.specs.declared.moves.Line.{Line}
use Rattle.gos_witness.specs.Lines.{Stand, start, Lead}
use Rattle.gos_witness.specs.Find.{TakesSteps, IsNotTrace, budget, IsSpent}
use Rattle.gos_witness.specs.inner.Finds.{steps_in}
use Rattle.gos_witness.specs.inner.Searches.{Goes, IsAhead, AreAhead, IsSearch, NeverComes}
use Rattle.gos_witness.proofs.LeadLemmas.{follows, lines_move, used_first}
use Rattle.gos_witness.proofs.SearchLemmas.{moves_go, goes_alike}

one_used : (xs ys : List Shown) (o : Shown) → take (suc (length xs)) (xs ++ o ∷ ys) ≡ xs ++ o ∷ []
one_used [] ys o = refl
one_used (x ∷ xs) ys o = ap (λ (ls : List Shown). x ∷ ls) (one_used xs ys o)

module _ (p : Program) (ls : List Shown) (lines : List Line) (a : Stand) (n k : ℕ) (o : Shown) (left : List Shown) (some : a.left ≡ o ∷ left)
    (count : k + length a.left ≡ length ls) (search : IsSearch p ls n a) where
  within : k < length ls
  within = let more = ap length some in omega (arith, count, more)

  -- the labels that are used
  before : Lead p lines (start ls) a → TakesSteps p (take k ls) (steps_in lines)
  before lead =
      let (acts, c, j, moves, held, shown, steps) = lines_move p ls lines a (follows p lines (start ls) a lead) in
      let whole = ap length shown in
      let parts = length-append (labels acts) a.left in
      let same : length (labels acts) ≡ k = omega (arith, whole, parts, count) in
      (acts, c, moves, used_first (labels acts) a.left ls shown ∙ ap (λ (z : ℕ). take z ls) same, steps)

  -- and the next one
  with_next : take (suc k) ls ≡ search.done ++ o ∷ []
  with_next =
      let whole = ap length search.whole in
      let parts = length-append search.done a.left in
      let same : k ≡ length search.done = omega (arith, whole, parts, count) in
      (λ i. take (suc (same i)) (sym search.whole i))
      ∙ (ap (λ (z : List Shown). take (suc (length search.done)) (search.done ++ z)) some ∙ one_used search.done left o)

  -- a list with it goes on from here
  goes_on :
      (m : ℕ) → TakesSteps p (take (suc k) ls) m
      → (b : Config) × (e : Config) × (es : List Doing) × Alike a.config b × Goes p es b e × (labels_among es ≡ o ∷ []) × (n + steps_among es ≡ m)
  goes_on m (acts, c, moves, are, steps) =
      let (ds, goes, shown, same) = moves_go p acts _ c moves in
      let ahead : IsAhead p search.done o n a.config = subst (λ (z : List Shown). AreAhead p search.done z n a.config) some search.ahead in
      let (b, e, es, alike, goes', first, total) = ahead [] ds c goes (shown ∙ (are ∙ with_next)) in
      (b, e, es, alike, goes', first, total ∙ (same ∙ steps))

  pub spent_found : Lead p lines (start ls) a → n ≡ steps_in lines → budget k ≤ n → IsSpent p ls k
  spent_found lead is large = record {
    there = within;
    before = (n, large, subst (TakesSteps p (take k ls)) (sym is) (before lead));
    least = λ m takes. let (b, e, es, alike, goes, first, total) = goes_on m takes in omega (arith, total, large);
  }

  pub refused_found : Lead p lines (start ls) a → NeverComes p a.config a.left → IsNotTrace p ls k
  refused_found lead never = record {
    there = within;
    before = let (acts, c, moves, are, steps) = before lead in (acts, c, moves, are);
    none = λ trace.
        let (acts, c, moves, are) = trace in
        let (b, e, es, alike, goes, first, total) = goes_on _ (acts, c, moves, are, refl) in
        let (e', goes') = goes_alike p es b e a.config (alike_back a.config b alike) goes in
        subst (λ (z : List Shown). NeverComes p a.config z) some never [] es e' goes' first;
  }
