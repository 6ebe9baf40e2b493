-- Lines that explain labels are a list of moves with these labels.
use Rattle.std.specs.Prelude.{◌≡◌, ◌⊎◌, ℕ, zero, suc, List, [], ◌∷◌}
use Rattle.std.proofs.Common.{refl, sym, ap, subst, inl, inr, ◌∙◌}
use Rattle.gos_model.specs.Terms.{Term, App, Both, Seq, Par, If, Assign, Deref, Not, Bin, Scope, Held, Put}
use Rattle.gos_model.specs.Reach.{Rel, Reached, InIndex, Rewrites, Unfolds}
use Rattle.gos_model.specs.Paths.{ReachedAt, IndexAt}
use Rattle.gos_model.specs.Steps.{Steps, Computes}
use Rattle.gos_model.specs.Labels.{Label as Shown, Emits, Takes}
use Rattle.gos_model.specs.Moves.{Program, Config, Idle, Running, Act, Computing, Showing, Unfoldings, Moves, labels}
use Rattle.gos_witness.specs.declared.moves.Line.{Line}
use Rattle.gos_witness.specs.declared.moves.Line.TheVariants.{Unfold, Step, Label, Root}
use Rattle.gos_witness.specs.Lines.{Lead, EndsIdly, TakesLeast}
use Rattle.gos_witness.specs.Verify.{ExplainedIsTrace}
use Rattle.gos_swaps.proofs.doings.HeadLemmas.{head_of}

-- what a path leads to is reached, also by less
mutual
  pub reached_more : (R S : Rel) → ((a b : Term) → R a b → S a b) → (path : List ℕ) (m t : Term) → ReachedAt path R m t → Reached S m t
  reached_more R S f [] m t h = inl (f m t h)
  reached_more R S f (zero ∷ path) (Seq m n) t (m', e, h) = inr ((m', e, reached_more R S f path m m' h))
  reached_more R S f (zero ∷ path) (Par m n) t (m', e, h) = inr (inl (m', e, reached_more R S f path m m' h))
  reached_more R S f (suc zero ∷ path) (Par m n) t (n', e, h) = inr (inr (n', e, reached_more R S f path n n' h))
  reached_more R S f (zero ∷ path) (If m n p) t (m', e, h) = inr ((m', e, reached_more R S f path m m' h))
  reached_more R S f (zero ∷ path) (Bin op m n) t (m', e, h) = inr ((m', e, reached_more R S f path m m' h))
  reached_more R S f (zero ∷ path) (Held k op n) t (n', e, h) = inr ((n', e, reached_more R S f path n n' h))
  reached_more R S f (zero ∷ path) (Not m) t (m', e, h) = inr ((m', e, reached_more R S f path m m' h))
  reached_more R S f (suc zero ∷ path) (Assign m n) t (n', e, h) = inr ((n', e, reached_more R S f path n n' h))
  reached_more R S f (zero ∷ path) (Scope l m) t (m', e, h) = inr ((m', e, reached_more R S f path m m' h))
  reached_more R S f (zero ∷ path) (Deref m) t (m', e, h) = inr (m', e, index_more R S f path m m' h)
  reached_more R S f (zero ∷ path) (Put m k) t (m', e, h) = inr (m', e, index_more R S f path m m' h)
  reached_more R S f (i ∷ path) m t h = absurd h

  index_more : (R S : Rel) → ((a b : Term) → R a b → S a b) → (path : List ℕ) (m t : Term) → IndexAt path R m t → InIndex S m t
  index_more R S f (suc zero ∷ path) (App h a) t (inr (place, b, e, k)) = inr (place, b, e, reached_more R S f path a b k)
  index_more R S f (suc zero ∷ suc zero ∷ path) (App h (Both n a)) t (inl (head, b, e, k)) = inl (head, b, e, reached_more R S f path a b k)
  index_more R S f (suc zero ∷ path) (App h a) t (inl k) = absurd k
  index_more R S f path m t h = absurd h

-- one unfolding more
pub unfold_more : (n : ℕ) (m u t : Term) → Unfoldings n m u → Unfolds u t → Unfoldings (suc n) m t
unfold_more zero m u t e h = (t, subst (λ x. Unfolds x t) (sym e) h, refl)
unfold_more (suc n) m u t (v, first, rest) h = (v, first, unfold_more n v u t rest h)

-- from b some unfoldings have led to c, and no act yet
abbrev pub Held' : ℕ → Config → Config → Type 0
Held' n Idle Idle = n ≡ 0
Held' n (Running m s) (Running u r) = Unfoldings n m u × (s ≡ r)
Held' n b c = ⊥

-- a line follows, if there were some
abbrev Pending : ℕ → List Line → Type 0
Pending zero lines = Unit {0}
Pending (suc n) [] = ⊥
Pending (suc n) (l ∷ lines) = Unit {0}

later : (l : Line) (lines : List Line) → (EndsIdly (l ∷ lines) → ⊥) → EndsIdly lines → ⊥
later l lines whole (before, last, e, idle) = whole (l ∷ before, last, ap (λ x. l ∷ x) e, idle)

pending : (path : List ℕ) (n : ℕ) (lines : List Line) → (EndsIdly (Unfold path ∷ lines) → ⊥) → Pending (suc n) lines
pending path n [] whole = whole ([], Unfold path, refl, tt)
pending path n (l ∷ lines) whole = tt

module _ (p : Program) where
  abbrev Traced : Config → Config → List Shown → Type 0
  Traced b d left = (acts : List Act) × Moves p acts b d × (labels acts ≡ left)

  traced :
      (lines : List Line) (n : ℕ) (b c : Config) (left : List Shown) (d : Config) → Held' n b c → Pending n lines
      → (EndsIdly lines → ⊥) → Lead p lines (record { config = c; left = left }) (record { config = d; left = [] }) → Traced b d left
  traced [] zero Idle Idle left d h k whole e = ([], ap (λ x. x.config) e, sym (ap (λ x. x.left) e))
  traced [] zero (Running m s) (Running u r) left d (us, same) k whole e =
      ([], (λ i. Running (us i) (same i)) ∙ ap (λ x. x.config) e, sym (ap (λ x. x.left) e))
  traced [] zero Idle (Running u r) left d h k whole e = absurd h
  traced [] zero (Running m s) Idle left d h k whole e = absurd h
  traced [] (suc n) b c left d h k whole e = absurd k
  traced (l ∷ lines) n Idle (Running u r) left d h k whole e = absurd h
  traced (l ∷ lines) n (Running m s) Idle left d h k whole e = absurd h
  traced (Unfold path ∷ lines) n Idle Idle left d h k whole (c, makes, small, lead) = absurd makes
  traced (Step path ∷ lines) n Idle Idle left d h k whole (c, makes, small, lead) = absurd makes
  traced (Label path ∷ lines) n Idle Idle left d h k whole (c, makes, small, lead) = absurd makes
  traced (Root ∷ lines) n Idle Idle [] d h k whole (c, makes, small, lead) = absurd makes
  traced (Root ∷ lines) n Idle Idle (o ∷ left) d h k whole (c, (is, makes), small, lead) =
      let after = subst (λ x. Lead p lines x (record { config = d; left = [] })) makes lead in
      let (acts, moves, shown) = traced lines 0 (Running p.body []) (Running p.body []) left d (refl, refl) tt (later Root lines whole) after in
      (Showing o ∷ acts, (Running p.body [], (ap Showing is, refl), moves), ap (λ x. o ∷ x) shown)
  traced (Unfold path ∷ lines) n (Running m s) (Running u r) left d (us, same) k whole (c, (t, at, makes), small, lead) =
      let after = subst (λ x. Lead p lines x (record { config = d; left = [] })) makes lead in
      traced lines (suc n) (Running m s) (Running t r) left d (unfold_more n m u t us (head_of Rewrites path u t at), same)
      (pending path n lines whole) (later (Unfold path) lines whole) after
  traced (Step path ∷ lines) n (Running m s) (Running u r) left d (us, same) k whole (c, (t, s', at, makes), small, lead) =
      let after = subst (λ x. Lead p lines x (record { config = d; left = [] })) makes lead in
      let (acts, moves, shown) = traced lines 0 (Running t s') (Running t s') left d (refl, refl) tt (later (Step path) lines whole) after in
      let does : Steps r s' u t =
      reached_more (λ x y. Computes r s' x y × TakesLeast r s' x) (Computes r s') (λ x y h. h.0) path u t at in
      (Computing ∷ acts, (Running t s', (n, u, us, subst (λ x. Steps x s' u t) (sym same) does), moves), shown)
  traced (Label path ∷ lines) n (Running m s) (Running u r) [] d h k whole (c, makes, small, lead) = absurd makes
  traced (Label path ∷ lines) n (Running m s) (Running u r) (o ∷ left) d (us, same) k whole (c, (t, at, makes), small, lead) =
      let after = subst (λ x. Lead p lines x (record { config = d; left = [] })) makes lead in
      let (acts, moves, shown) = traced lines 0 (Running t r) (Running t r) left d (refl, refl) tt (later (Label path) lines whole) after in
      let R : Rel = λ x y. Emits p.imports o x y ⊎ Takes p.imports o x y in
      let does : Reached R u t = reached_more R R (λ x y h. h) path u t at in
      (Showing o ∷ acts, (Running t r, (n, u, us, (does, sym same)), moves), ap (λ x. o ∷ x) shown)
  traced (Root ∷ lines) n (Running m s) (Running u r) [] d h k whole (c, makes, small, lead) = absurd makes
  traced (Root ∷ lines) n (Running m s) (Running u r) (o ∷ left) d (us, same) k whole (c, (answers, makes), small, lead) =
      let after = subst (λ x. Lead p lines x (record { config = d; left = [] })) makes lead in
      let (acts, moves, shown) = traced lines 0 Idle Idle left d refl tt (later Root lines whole) after in
      (Showing o ∷ acts, (Idle, (n, u, us, answers), moves), ap (λ x. o ∷ x) shown)

pub explained_is_trace : ExplainedIsTrace
explained_is_trace p ls lines e =
    let (acts, moves, shown) = traced p lines 0 Idle Idle ls e.config refl tt e.whole e.lead in
    (acts, e.config, moves, shown)
