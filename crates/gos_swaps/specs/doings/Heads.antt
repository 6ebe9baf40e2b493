-- Heads of a running term by their child numbers.
--
-- Read first: Reach, Paths of gos_model. A head is a reached place, the left side of a reached `put` or the operand of
-- a reached `!`, and, from a head on, the function part of an application and the operand of `fst` or `snd`. So a path
-- goes down reached places and then down heads. Children are counted from 0 as written: the one child of a held
-- operation, of `put` and of an open block is 0, the right side of `:=` is 1. The index of an access, as it is now, is
-- at 0, 1, 1 where the array is a port, and at 0, 1 where it is the program's own.
use Rattle.std.specs.Prelude.{◌≡◌, ◌↔◌, ◌⊎◌, ℕ, zero, suc, List, [], ◌∷◌}
use Rattle.gos_model.specs.Terms.{Term, App, Both, Fst, Snd, Seq, Par, If, Assign, Deref, Not, Bin, Scope, Held, Put}
use Rattle.gos_model.specs.Reach.{Rel, IsArrayHead, IsArrayPlace, Rewrites, Unfolds}

-- R changes the head at this path below a head
abbrev pub UnderAt : List ℕ → Rel → Rel
UnderAt [] R m t = R m t
UnderAt (zero ∷ path) R (App m n) t = (m' : Term) × (t ≡ App m' n) × UnderAt path R m m'
UnderAt (zero ∷ path) R (Fst m) t = (m' : Term) × (t ≡ Fst m') × UnderAt path R m m'
UnderAt (zero ∷ path) R (Snd m) t = (m' : Term) × (t ≡ Snd m') × UnderAt path R m m'
UnderAt (i ∷ path) R m t = ⊥

abbrev mutual
  -- R changes the head at this path
  pub HeadAt : List ℕ → Rel → Rel
  HeadAt [] R m t = R m t
  HeadAt (zero ∷ path) R (Seq m n) t = (m' : Term) × (t ≡ Seq m' n) × HeadAt path R m m'
  HeadAt (zero ∷ path) R (Par m n) t = (m' : Term) × (t ≡ Par m' n) × HeadAt path R m m'
  HeadAt (suc zero ∷ path) R (Par m n) t = (n' : Term) × (t ≡ Par m n') × HeadAt path R n n'
  HeadAt (zero ∷ path) R (If m n p) t = (m' : Term) × (t ≡ If m' n p) × HeadAt path R m m'
  HeadAt (zero ∷ path) R (Bin op m n) t = (m' : Term) × (t ≡ Bin op m' n) × HeadAt path R m m'
  HeadAt (zero ∷ path) R (Held k op n) t = (n' : Term) × (t ≡ Held k op n') × HeadAt path R n n'
  HeadAt (zero ∷ path) R (Not m) t = (m' : Term) × (t ≡ Not m') × HeadAt path R m m'
  HeadAt (suc zero ∷ path) R (Assign m n) t = (n' : Term) × (t ≡ Assign m n') × HeadAt path R n n'
  HeadAt (zero ∷ path) R (Scope l m) t = (m' : Term) × (t ≡ Scope l m') × HeadAt path R m m'
  HeadAt (zero ∷ path) R (App m n) t = (m' : Term) × (t ≡ App m' n) × UnderAt path R m m'
  HeadAt (zero ∷ path) R (Fst m) t = (m' : Term) × (t ≡ Fst m') × UnderAt path R m m'
  HeadAt (zero ∷ path) R (Snd m) t = (m' : Term) × (t ≡ Snd m') × UnderAt path R m m'
  HeadAt (zero ∷ path) R (Put m k) t = (m' : Term) × (t ≡ Put m' k) × (UnderAt path R m m' ⊎ HeadInIndexAt path R m m')
  HeadAt (zero ∷ path) R (Deref m) t = (m' : Term) × (t ≡ Deref m') × (UnderAt path R m m' ⊎ HeadInIndexAt path R m m')
  HeadAt (i ∷ path) R m t = ⊥

  -- the path begins at an access, and leads into its index
  pub HeadInIndexAt : List ℕ → Rel → Rel
  HeadInIndexAt (suc zero ∷ path) R (App h n) t =
      HeadInPortAt path R h n t ⊎ (IsArrayPlace h × (n' : Term) × (t ≡ App h n') × HeadAt path R n n')
  HeadInIndexAt path R m t = ⊥

  -- the path begins at the argument of a port, whose function part is h
  pub HeadInPortAt : List ℕ → Rel → Term → Rel
  HeadInPortAt (suc zero ∷ path) R h (Both n m) t = IsArrayHead h × (m' : Term) × (t ≡ App h (Both n m')) × HeadAt path R m m'
  HeadInPortAt path R h m t = ⊥

-- an unfolding is one at a path
abbrev pub UnfoldingsHaveHeadPaths : Type 0
UnfoldingsHaveHeadPaths = (m t : Term) → Unfolds m t ↔ ((path : List ℕ) × HeadAt path Rewrites m t)
