-- An unfolding is one at a path.
use Rattle.std.specs.Prelude.{◌⊎◌, ℕ, zero, suc, List, [], ◌∷◌}
use Rattle.std.proofs.Common.{inl, inr}
use Rattle.gos_model.specs.Terms.{Term, App, Both, Fst, Snd, Seq, Par, If, Assign, Deref, Not, Bin, Scope, Held, Put}
use Rattle.gos_model.specs.Reach.{Rel, InIndex, Under, Aside, AtHead, Rewrites}
use Rattle.gos_swaps.specs.doings.Heads.{UnderAt, HeadAt, HeadInIndexAt, UnfoldingsHaveHeadPaths}

-- what a path leads to is a head
pub lower_of : (R : Rel) (path : List ℕ) (m t : Term) → UnderAt path R m t → R m t ⊎ Under R m t
lower_of R [] m t h = inl h
lower_of R (zero ∷ path) (App m n) t (m', e, h) = inr (m', e, lower_of R path m m' h)
lower_of R (zero ∷ path) (Fst m) t (m', e, h) = inr (m', e, lower_of R path m m' h)
lower_of R (zero ∷ path) (Snd m) t (m', e, h) = inr (m', e, lower_of R path m m' h)
lower_of R (i ∷ path) m t h = absurd h

-- a head, or what stands aside
abbrev OneOf : Rel → Rel
OneOf R m t = (R m t ⊎ Under R m t) ⊎ Aside R m t

mutual
  pub head_of : (R : Rel) (path : List ℕ) (m t : Term) → HeadAt path R m t → AtHead R m t
  head_of R [] m t h = inl (inl (inl h))
  head_of R (zero ∷ path) (Seq m n) t (m', e, h) = inr (m', e, head_of R path m m' h)
  head_of R (zero ∷ path) (Par m n) t (m', e, h) = inr (inl (m', e, head_of R path m m' h))
  head_of R (suc zero ∷ path) (Par m n) t (n', e, h) = inr (inr (n', e, head_of R path n n' h))
  head_of R (zero ∷ path) (If m n p) t (m', e, h) = inr (m', e, head_of R path m m' h)
  head_of R (zero ∷ path) (Bin op m n) t (m', e, h) = inr (m', e, head_of R path m m' h)
  head_of R (zero ∷ path) (Held k op n) t (n', e, h) = inr (n', e, head_of R path n n' h)
  head_of R (zero ∷ path) (Not m) t (m', e, h) = inr (m', e, head_of R path m m' h)
  head_of R (suc zero ∷ path) (Assign m n) t (n', e, h) = inr (n', e, head_of R path n n' h)
  head_of R (zero ∷ path) (Scope l m) t (m', e, h) = inr (m', e, head_of R path m m' h)
  head_of R (zero ∷ path) (App m n) t (m', e, h) = inl (inl (inr (m', e, lower_of R path m m' h)))
  head_of R (zero ∷ path) (Fst m) t (m', e, h) = inl (inl (inr (m', e, lower_of R path m m' h)))
  head_of R (zero ∷ path) (Snd m) t (m', e, h) = inl (inl (inr (m', e, lower_of R path m m' h)))
  head_of R (zero ∷ path) (Put m k) t (m', e, inl h) = inl (inr (m', e, lower_of R path m m' h))
  head_of R (zero ∷ path) (Deref m) t (m', e, inl h) = inl (inr (m', e, lower_of R path m m' h))
  head_of R (zero ∷ path) (Put m k) t (m', e, inr h) = inr (m', e, index_of R path m m' h)
  head_of R (zero ∷ path) (Deref m) t (m', e, inr h) = inr (m', e, index_of R path m m' h)
  head_of R (i ∷ path) m t h = absurd h

  index_of : (R : Rel) (path : List ℕ) (m t : Term) → HeadInIndexAt path R m t → InIndex (OneOf R) m t
  index_of R (suc zero ∷ path) (App h a) t (inr (place, b, e, k)) = inr (place, b, e, head_of R path a b k)
  index_of R (suc zero ∷ suc zero ∷ path) (App h (Both n a)) t (inl (head, b, e, k)) = inl (head, b, e, head_of R path a b k)
  index_of R (suc zero ∷ path) (App h a) t (inl k) = absurd k
  index_of R path m t h = absurd h

-- and a head has a path
lower_path : (R : Rel) (m t : Term) → R m t ⊎ Under R m t → (path : List ℕ) × UnderAt path R m t
lower_path R m t (inl h) = ([], h)
lower_path R (App m n) t (inr (m', e, h)) = let p = lower_path R m m' h in (0 ∷ p.0, (m', e, p.1))
lower_path R (Fst m) t (inr (m', e, h)) = let p = lower_path R m m' h in (0 ∷ p.0, (m', e, p.1))
lower_path R (Snd m) t (inr (m', e, h)) = let p = lower_path R m m' h in (0 ∷ p.0, (m', e, p.1))
lower_path R m t (inr h) = absurd h

one_path : (R : Rel) (m t : Term) → (R m t ⊎ Under R m t) ⊎ Aside R m t → (path : List ℕ) × HeadAt path R m t
one_path R m t (inl (inl h)) = ([], h)
one_path R (App m n) t (inl (inr (m', e, h))) = let p = lower_path R m m' h in (0 ∷ p.0, (m', e, p.1))
one_path R (Fst m) t (inl (inr (m', e, h))) = let p = lower_path R m m' h in (0 ∷ p.0, (m', e, p.1))
one_path R (Snd m) t (inl (inr (m', e, h))) = let p = lower_path R m m' h in (0 ∷ p.0, (m', e, p.1))
one_path R (Put m k) t (inr (m', e, h)) = let p = lower_path R m m' h in (0 ∷ p.0, (m', e, inl p.1))
one_path R (Deref m) t (inr (m', e, h)) = let p = lower_path R m m' h in (0 ∷ p.0, (m', e, inl p.1))
one_path R m t (inl (inr h)) = absurd h
one_path R m t (inr h) = absurd h

mutual
  pub head_path : (R : Rel) (m t : Term) → AtHead R m t → (path : List ℕ) × HeadAt path R m t
  head_path R m t (inl h) = one_path R m t h
  head_path R (Seq m n) t (inr (m', e, h)) = let p = head_path R m m' h in (0 ∷ p.0, (m', e, p.1))
  head_path R (Par m n) t (inr (inl (m', e, h))) = let p = head_path R m m' h in (0 ∷ p.0, (m', e, p.1))
  head_path R (Par m n) t (inr (inr (n', e, h))) = let p = head_path R n n' h in (1 ∷ p.0, (n', e, p.1))
  head_path R (If m n q) t (inr (m', e, h)) = let p = head_path R m m' h in (0 ∷ p.0, (m', e, p.1))
  head_path R (Bin op m n) t (inr (m', e, h)) = let p = head_path R m m' h in (0 ∷ p.0, (m', e, p.1))
  head_path R (Held k op n) t (inr (n', e, h)) = let p = head_path R n n' h in (0 ∷ p.0, (n', e, p.1))
  head_path R (Not m) t (inr (m', e, h)) = let p = head_path R m m' h in (0 ∷ p.0, (m', e, p.1))
  head_path R (Assign m n) t (inr (n', e, h)) = let p = head_path R n n' h in (1 ∷ p.0, (n', e, p.1))
  head_path R (Scope l m) t (inr (m', e, h)) = let p = head_path R m m' h in (0 ∷ p.0, (m', e, p.1))
  head_path R (Deref m) t (inr (m', e, h)) = let p = index_head_path R m m' h in (0 ∷ p.0, (m', e, inr p.1))
  head_path R (Put m k) t (inr (m', e, h)) = let p = index_head_path R m m' h in (0 ∷ p.0, (m', e, inr p.1))
  head_path R m t (inr h) = absurd h

  index_head_path : (R : Rel) (m t : Term) → InIndex (OneOf R) m t → (path : List ℕ) × HeadInIndexAt path R m t
  index_head_path R (App h a) t (inr (place, b, e, k)) = let p = head_path R a b k in (1 ∷ p.0, inr (place, b, e, p.1))
  index_head_path R (App h (Both n a)) t (inl (head, b, e, k)) = let p = head_path R a b k in (1 ∷ 1 ∷ p.0, inl (head, b, e, p.1))
  index_head_path R (App h a) t (inl k) = absurd k
  index_head_path R m t h = absurd h

pub unfoldings_have_head_paths : UnfoldingsHaveHeadPaths
unfoldings_have_head_paths m t = (head_path Rewrites m t, λ h. head_of Rewrites h.0 m t h.1)
