-- A reached place has a path, whatever changes it.
use Rattle.std.specs.Prelude.{◌↔◌, ◌⊎◌, ℕ, zero, suc, List, [], ◌∷◌}
use Rattle.std.proofs.Common.{inl, inr, refl}
use Rattle.gos_model.specs.Terms.{Term, App, Both, Seq, Par, If, Assign, Deref, Not, Bin, Scope, Held, Put}
use Rattle.gos_model.specs.Reach.{Rel, Reached, Below, InIndex, Under, Aside, Rewrites}
use Rattle.gos_model.specs.Paths.{ReachedAt, IndexAt, AtSomePath}
use Rattle.gos_model.specs.Steps.{Computes}
use Rattle.gos_model.specs.Labels.{Emits, Takes}
use Rattle.gos_model.specs.Laws.{StepsHavePaths, LabelsHavePaths, UnfoldingsHavePaths}

-- the path below a place that is known to be reached
mutual
  path_of : (R : Rel) (m t : Term) → Below R m t → (path : List ℕ) × ReachedAt path R m t
  path_of R (Seq m n) t (m', e, inl h) = (0 ∷ [], (m', e, h))
  path_of R (Seq m n) t (m', e, inr h) = let p = path_of R m m' h in (0 ∷ p.0, (m', e, p.1))
  path_of R (Par m n) t (inl (m', e, inl h)) = (0 ∷ [], (m', e, h))
  path_of R (Par m n) t (inl (m', e, inr h)) = let p = path_of R m m' h in (0 ∷ p.0, (m', e, p.1))
  path_of R (Par m n) t (inr (n', e, inl h)) = (1 ∷ [], (n', e, h))
  path_of R (Par m n) t (inr (n', e, inr h)) = let p = path_of R n n' h in (1 ∷ p.0, (n', e, p.1))
  path_of R (If m n q) t (m', e, inl h) = (0 ∷ [], (m', e, h))
  path_of R (If m n q) t (m', e, inr h) = let p = path_of R m m' h in (0 ∷ p.0, (m', e, p.1))
  path_of R (Bin op m n) t (m', e, inl h) = (0 ∷ [], (m', e, h))
  path_of R (Bin op m n) t (m', e, inr h) = let p = path_of R m m' h in (0 ∷ p.0, (m', e, p.1))
  path_of R (Held k op n) t (n', e, inl h) = (0 ∷ [], (n', e, h))
  path_of R (Held k op n) t (n', e, inr h) = let p = path_of R n n' h in (0 ∷ p.0, (n', e, p.1))
  path_of R (Not m) t (m', e, inl h) = (0 ∷ [], (m', e, h))
  path_of R (Not m) t (m', e, inr h) = let p = path_of R m m' h in (0 ∷ p.0, (m', e, p.1))
  path_of R (Assign m n) t (n', e, inl h) = (1 ∷ [], (n', e, h))
  path_of R (Assign m n) t (n', e, inr h) = let p = path_of R n n' h in (1 ∷ p.0, (n', e, p.1))
  path_of R (Scope l m) t (m', e, inl h) = (0 ∷ [], (m', e, h))
  path_of R (Scope l m) t (m', e, inr h) = let p = path_of R m m' h in (0 ∷ p.0, (m', e, p.1))
  path_of R (Deref m) t (m', e, h) = let p = index_path R m m' h in (0 ∷ p.0, (m', e, p.1))
  path_of R (Put m k) t (m', e, h) = let p = index_path R m m' h in (0 ∷ p.0, (m', e, p.1))
  path_of R m t h = absurd h

  index_path : (R : Rel) (m t : Term) → InIndex R m t → (path : List ℕ) × IndexAt path R m t
  index_path R (App g n) t (inr (place, n', e, inl h)) = (1 ∷ [], inr (place, n', e, h))
  index_path R (App g n) t (inr (place, n', e, inr h)) = let p = path_of R n n' h in (1 ∷ p.0, inr (place, n', e, p.1))
  index_path R (App g (Both k n)) t (inl (head, n', e, inl h)) = (1 ∷ 1 ∷ [], inl (head, n', e, h))
  index_path R (App g (Both k n)) t (inl (head, n', e, inr h)) = let p = path_of R n n' h in (1 ∷ 1 ∷ p.0, inl (head, n', e, p.1))
  index_path R (App g n) t (inl h) = absurd h
  index_path R m t h = absurd h

reached_path : (R : Rel) (m t : Term) → Reached R m t → (path : List ℕ) × ReachedAt path R m t
reached_path R m t (inl h) = ([], h)
reached_path R m t (inr h) = path_of R m t h

-- and what a path leads to is reached
mutual
  path_reached : (R : Rel) (path : List ℕ) (m t : Term) → ReachedAt path R m t → Reached R m t
  path_reached R [] m t h = inl h
  path_reached R (zero ∷ path) (Seq m n) t (m', e, h) = inr (m', e, path_reached R path m m' h)
  path_reached R (zero ∷ path) (Par m n) t (m', e, h) = inr (inl (m', e, path_reached R path m m' h))
  path_reached R (suc zero ∷ path) (Par m n) t (n', e, h) = inr (inr (n', e, path_reached R path n n' h))
  path_reached R (zero ∷ path) (If m n p) t (m', e, h) = inr (m', e, path_reached R path m m' h)
  path_reached R (zero ∷ path) (Bin op m n) t (m', e, h) = inr (m', e, path_reached R path m m' h)
  path_reached R (zero ∷ path) (Held k op n) t (n', e, h) = inr (n', e, path_reached R path n n' h)
  path_reached R (zero ∷ path) (Not m) t (m', e, h) = inr (m', e, path_reached R path m m' h)
  path_reached R (suc zero ∷ path) (Assign m n) t (n', e, h) = inr (n', e, path_reached R path n n' h)
  path_reached R (zero ∷ path) (Scope l m) t (m', e, h) = inr (m', e, path_reached R path m m' h)
  path_reached R (zero ∷ path) (Deref m) t (m', e, h) = inr (m', e, path_in_index R path m m' h)
  path_reached R (zero ∷ path) (Put m k) t (m', e, h) = inr (m', e, path_in_index R path m m' h)
  path_reached R (i ∷ path) m t h = absurd h

  path_in_index : (R : Rel) (path : List ℕ) (m t : Term) → IndexAt path R m t → InIndex R m t
  path_in_index R (suc zero ∷ path) (App g n) t (inr (place, n', e, h)) = inr (place, n', e, path_reached R path n n' h)
  path_in_index R (suc zero ∷ suc zero ∷ path) (App g (Both k n)) t (inl (head, n', e, h)) = inl (head, n', e, path_reached R path n n' h)
  path_in_index R (suc zero ∷ path) (App g n) t (inl h) = absurd h
  path_in_index R path m t h = absurd h

same_places : (R : Rel) (m t : Term) → Reached R m t ↔ AtSomePath R m t
same_places R m t = (reached_path R m t, λ h. path_reached R h.0 m t h.1)

pub steps_have_paths : StepsHavePaths
steps_have_paths s s' = same_places (Computes s s')

pub labels_have_paths : LabelsHavePaths
labels_have_paths i o s m t =
    let R : Rel = λ a b. Emits i o a b ⊎ Takes i o a b in
    (λ h. reached_path R m t h.0, λ h. (path_reached R h.0 m t h.1, refl))

pub unfoldings_have_paths : UnfoldingsHavePaths
unfoldings_have_paths = same_places (λ a b. (Rewrites a b ⊎ Under Rewrites a b) ⊎ Aside Rewrites a b)
