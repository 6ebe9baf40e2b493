-- Reached places by their child numbers.
--
-- Read first: Reach. What changes a reached place changes the place at a path, and the other way round. The laws
-- StepsHavePaths, LabelsHavePaths and UnfoldingsHavePaths say so of all that is lifted to a reached place.
use Rattle.std.specs.Prelude.{◌≡◌, ◌⊎◌, ℕ, zero, suc, List, [], ◌∷◌}
use Rattle.gos_model.specs.Terms.{Term, App, Both, Seq, Par, If, Assign, Deref, Not, Bin, Scope, Held, Put}
use Rattle.gos_model.specs.Reach.{Rel, IsArrayHead, IsArrayPlace}

abbrev mutual
  -- R changes the reached place at this path, children counted from 0 as written
  pub ReachedAt : List ℕ → Rel → Rel
  ReachedAt [] R m t = R m t
  ReachedAt (zero ∷ path) R (Seq m n) t = (m' : Term) × (t ≡ Seq m' n) × ReachedAt path R m m'
  ReachedAt (zero ∷ path) R (Par m n) t = (m' : Term) × (t ≡ Par m' n) × ReachedAt path R m m'
  ReachedAt (suc zero ∷ path) R (Par m n) t = (n' : Term) × (t ≡ Par m n') × ReachedAt path R n n'
  ReachedAt (zero ∷ path) R (If m n p) t = (m' : Term) × (t ≡ If m' n p) × ReachedAt path R m m'
  ReachedAt (zero ∷ path) R (Bin op m n) t = (m' : Term) × (t ≡ Bin op m' n) × ReachedAt path R m m'
  ReachedAt (zero ∷ path) R (Held k op n) t = (n' : Term) × (t ≡ Held k op n') × ReachedAt path R n n'
  ReachedAt (zero ∷ path) R (Not m) t = (m' : Term) × (t ≡ Not m') × ReachedAt path R m m'
  ReachedAt (suc zero ∷ path) R (Assign m n) t = (n' : Term) × (t ≡ Assign m n') × ReachedAt path R n n'
  ReachedAt (zero ∷ path) R (Scope l m) t = (m' : Term) × (t ≡ Scope l m') × ReachedAt path R m m'
  ReachedAt (zero ∷ path) R (Deref m) t = (m' : Term) × (t ≡ Deref m') × IndexAt path R m m'
  ReachedAt (zero ∷ path) R (Put m k) t = (m' : Term) × (t ≡ Put m' k) × IndexAt path R m m'
  ReachedAt (i ∷ path) R m t = ⊥

  -- the path begins at the access, and leads into its index
  pub IndexAt : List ℕ → Rel → Rel
  IndexAt (suc zero ∷ path) R (App h n) t =
      PortIndexAt path R h n t ⊎ (IsArrayPlace h × (n' : Term) × (t ≡ App h n') × ReachedAt path R n n')
  IndexAt path R m t = ⊥

  -- the path begins at the argument of a port, whose function part is h
  pub PortIndexAt : List ℕ → Rel → Term → Rel
  PortIndexAt (suc zero ∷ path) R h (Both n m) t = IsArrayHead h × (m' : Term) × (t ≡ App h (Both n m')) × ReachedAt path R m m'
  PortIndexAt path R h m t = ⊥

-- R changes the reached place at some path
abbrev pub AtSomePath : Rel → Rel
AtSomePath R m t = (path : List ℕ) × ReachedAt path R m t
