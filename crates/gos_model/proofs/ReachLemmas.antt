-- A larger relation reaches as much.
use Rattle.std.proofs.Common.{inl, inr}
use Rattle.gos_model.specs.Terms.{Term, App, Both, Seq, Par, If, Assign, Deref, Not, Bin, Scope, Held, Put}
use Rattle.gos_model.specs.Reach.{Rel, Reached, Below, InIndex}

-- below the whole term
mutual
  below_map : (R S : Rel) → ((a b : Term) → R a b → S a b) → (m t : Term) → Below R m t → Below S m t
  below_map R S f (Seq m n) t (m', e, inl h) = (m', e, inl (f m m' h))
  below_map R S f (Seq m n) t (m', e, inr h) = (m', e, inr (below_map R S f m m' h))
  below_map R S f (Par m n) t (inl (m', e, inl h)) = inl (m', e, inl (f m m' h))
  below_map R S f (Par m n) t (inl (m', e, inr h)) = inl (m', e, inr (below_map R S f m m' h))
  below_map R S f (Par m n) t (inr (n', e, inl h)) = inr (n', e, inl (f n n' h))
  below_map R S f (Par m n) t (inr (n', e, inr h)) = inr (n', e, inr (below_map R S f n n' h))
  below_map R S f (If m n p) t (m', e, inl h) = (m', e, inl (f m m' h))
  below_map R S f (If m n p) t (m', e, inr h) = (m', e, inr (below_map R S f m m' h))
  below_map R S f (Bin op m n) t (m', e, inl h) = (m', e, inl (f m m' h))
  below_map R S f (Bin op m n) t (m', e, inr h) = (m', e, inr (below_map R S f m m' h))
  below_map R S f (Held k op n) t (n', e, inl h) = (n', e, inl (f n n' h))
  below_map R S f (Held k op n) t (n', e, inr h) = (n', e, inr (below_map R S f n n' h))
  below_map R S f (Not m) t (m', e, inl h) = (m', e, inl (f m m' h))
  below_map R S f (Not m) t (m', e, inr h) = (m', e, inr (below_map R S f m m' h))
  below_map R S f (Assign m n) t (n', e, inl h) = (n', e, inl (f n n' h))
  below_map R S f (Assign m n) t (n', e, inr h) = (n', e, inr (below_map R S f n n' h))
  below_map R S f (Scope l m) t (m', e, inl h) = (m', e, inl (f m m' h))
  below_map R S f (Scope l m) t (m', e, inr h) = (m', e, inr (below_map R S f m m' h))
  below_map R S f (Deref m) t (m', e, h) = (m', e, in_index_map R S f m m' h)
  below_map R S f (Put m k) t (m', e, h) = (m', e, in_index_map R S f m m' h)
  below_map R S f m t h = absurd h

  in_index_map : (R S : Rel) → ((a b : Term) → R a b → S a b) → (m t : Term) → InIndex R m t → InIndex S m t
  in_index_map R S f (App g n) t (inr (place, n', e, inl h)) = inr (place, n', e, inl (f n n' h))
  in_index_map R S f (App g n) t (inr (place, n', e, inr h)) = inr (place, n', e, inr (below_map R S f n n' h))
  in_index_map R S f (App g (Both k n)) t (inl (head, n', e, inl h)) = inl (head, n', e, inl (f n n' h))
  in_index_map R S f (App g (Both k n)) t (inl (head, n', e, inr h)) = inl (head, n', e, inr (below_map R S f n n' h))
  in_index_map R S f (App g n) t (inl h) = absurd h
  in_index_map R S f m t h = absurd h

pub reached_map : (R S : Rel) → ((a b : Term) → R a b → S a b) → (m t : Term) → Reached R m t → Reached S m t
reached_map R S f m t (inl h) = inl (f m t h)
reached_map R S f m t (inr h) = inr (below_map R S f m t h)
