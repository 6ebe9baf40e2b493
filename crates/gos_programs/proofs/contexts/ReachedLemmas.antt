-- What holds of a change, and in each context of what it holds of, holds of each change at a reached place.
use Rattle.std.specs.Prelude.{ℕ, ◌≡◌}
use Rattle.std.proofs.Common.{refl, sym, ap, subst, inl, inr, ◌∙◌}
use Rattle.gos_model.specs.Terms.{Name, Term, App, Seq, Par, If, Assign, Deref, Not, Bin, Scope, Wait, Held, Put, Both, Arr}
use Rattle.gos_model.specs.Reach.{Rel, Reached, Below, InIndex}
use Rattle.gos_programs.specs.contexts.Contexts.{Context, SeqFirst, ParLeft, ParRight, IfTest, BinLeft, HeldRight, NotOf, AssignRight, ScopeBody, ReadIndex, WriteIndex, plug, ReadAt, WriteAt}

-- a relation goes through all contexts
abbrev pub IsLifted : Rel → Type 0
IsLifted Q = (c : Context) (a b : Term) → Q a b → Q (plug c a) (plug c b)

in_context : (Q : Rel) → IsLifted Q → (c : Context) (a b t : Term) → t ≡ plug c b → Q a b → Q (plug c a) t
in_context Q g c a b t e h = subst (λ (x : Term). Q (plug c a) x) (sym e) (g c a b h)

-- in the context of an access, whose argument holds the index
in_access : (Q : Rel) → IsLifted Q → (w a : Term → Term) (c : Context) (h k n n' t : Term) → h ≡ k → t ≡ App h (a n')
    → ((v : Term) → plug c v ≡ w (App k (a v))) → Q n n' → Q (w (App h (a n))) (w t)
in_access Q g w a c h k n n' t eh e at q =
    let to : plug c n' ≡ w t = at n' ∙ (ap (λ (v : Term). w (App v (a n'))) (sym eh) ∙ ap w (sym e)) in
    let from : plug c n ≡ w (App h (a n)) = at n ∙ ap (λ (v : Term). w (App v (a n))) (sym eh) in
    subst (λ (v : Term). Q v (w t)) from (subst (λ (v : Term). Q (plug c n) v) to (g c n n' q))

mutual
  pub below_lifted : (R Q : Rel) → ((a b : Term) → R a b → Q a b) → IsLifted Q → (m t : Term) → Below R m t → Q m t
  below_lifted R Q f g (Seq m n) t (m', e, inl h) = in_context Q g (SeqFirst n) m m' t e (f m m' h)
  below_lifted R Q f g (Seq m n) t (m', e, inr h) = in_context Q g (SeqFirst n) m m' t e (below_lifted R Q f g m m' h)
  below_lifted R Q f g (Par m n) t (inl (m', e, inl h)) = in_context Q g (ParLeft n) m m' t e (f m m' h)
  below_lifted R Q f g (Par m n) t (inl (m', e, inr h)) = in_context Q g (ParLeft n) m m' t e (below_lifted R Q f g m m' h)
  below_lifted R Q f g (Par m n) t (inr (n', e, inl h)) = in_context Q g (ParRight m) n n' t e (f n n' h)
  below_lifted R Q f g (Par m n) t (inr (n', e, inr h)) = in_context Q g (ParRight m) n n' t e (below_lifted R Q f g n n' h)
  below_lifted R Q f g (If m n p) t (m', e, inl h) = in_context Q g (IfTest n p) m m' t e (f m m' h)
  below_lifted R Q f g (If m n p) t (m', e, inr h) = in_context Q g (IfTest n p) m m' t e (below_lifted R Q f g m m' h)
  below_lifted R Q f g (Bin op m n) t (m', e, inl h) = in_context Q g (BinLeft op n) m m' t e (f m m' h)
  below_lifted R Q f g (Bin op m n) t (m', e, inr h) = in_context Q g (BinLeft op n) m m' t e (below_lifted R Q f g m m' h)
  below_lifted R Q f g (Held k op n) t (n', e, inl h) = in_context Q g (HeldRight k op) n n' t e (f n n' h)
  below_lifted R Q f g (Held k op n) t (n', e, inr h) = in_context Q g (HeldRight k op) n n' t e (below_lifted R Q f g n n' h)
  below_lifted R Q f g (Not m) t (m', e, inl h) = in_context Q g NotOf m m' t e (f m m' h)
  below_lifted R Q f g (Not m) t (m', e, inr h) = in_context Q g NotOf m m' t e (below_lifted R Q f g m m' h)
  below_lifted R Q f g (Assign m n) t (n', e, inl h) = in_context Q g (AssignRight m) n n' t e (f n n' h)
  below_lifted R Q f g (Assign m n) t (n', e, inr h) = in_context Q g (AssignRight m) n n' t e (below_lifted R Q f g n n' h)
  below_lifted R Q f g (Scope l m) t (m', e, inl h) = in_context Q g (ScopeBody l) m m' t e (f m m' h)
  below_lifted R Q f g (Scope l m) t (m', e, inr h) = in_context Q g (ScopeBody l) m m' t e (below_lifted R Q f g m m' h)
  below_lifted R Q f g (Deref m) t (m', e, h) =
      subst (λ (v : Term). Q (Deref m) v) (sym e)
      (index_lifted R Q f g (λ (v : Term). Deref v) (λ (x : Name) (b : Term). ReadIndex x b) (λ (l : ℕ). ReadAt l) (λ x b v. refl) (λ l v. refl) m m' h)
  below_lifted R Q f g (Put m k) t (m', e, h) =
      subst (λ (v : Term). Q (Put m k) v) (sym e)
      (index_lifted R Q f g (λ (v : Term). Put v k) (λ (x : Name) (b : Term). WriteIndex x b k) (λ (l : ℕ). WriteAt l k) (λ x b v. refl) (λ l v. refl) m m' h)
  below_lifted R Q f g m t h = absurd h

  -- an index stands in the context of its access, which w makes of it
  index_lifted : (R Q : Rel) → ((a b : Term) → R a b → Q a b) → IsLifted Q → (w : Term → Term) (port : Name → Term → Context) (own : ℕ → Context)
      → ((x : Name) (b v : Term) → plug (port x b) v ≡ w (App (Wait x 0) (Both b v))) → ((l : ℕ) (v : Term) → plug (own l) v ≡ w (App (Arr l) v))
      → (m t : Term) → InIndex R m t → Q (w m) (w t)
  index_lifted R Q f g w port own at_port at_own (App h n) t (inr ((l, eh), n', e, inl r)) =
      in_access Q g w (λ (v : Term). v) (own l) h (Arr l) n n' t eh e (at_own l) (f n n' r)
  index_lifted R Q f g w port own at_port at_own (App h n) t (inr ((l, eh), n', e, inr r)) =
      in_access Q g w (λ (v : Term). v) (own l) h (Arr l) n n' t eh e (at_own l) (below_lifted R Q f g n n' r)
  index_lifted R Q f g w port own at_port at_own (App h (Both b n)) t (inl ((x, eh), n', e, inl r)) =
      in_access Q g w (λ (v : Term). Both b v) (port x b) h (Wait x 0) n n' t eh e (at_port x b) (f n n' r)
  index_lifted R Q f g w port own at_port at_own (App h (Both b n)) t (inl ((x, eh), n', e, inr r)) =
      in_access Q g w (λ (v : Term). Both b v) (port x b) h (Wait x 0) n n' t eh e (at_port x b) (below_lifted R Q f g n n' r)
  index_lifted R Q f g w port own at_port at_own (App h n) t (inl r) = absurd r
  index_lifted R Q f g w port own at_port at_own m t h = absurd h

pub reached_lifted : (R Q : Rel) → ((a b : Term) → R a b → Q a b) → IsLifted Q → (m t : Term) → Reached R m t → Q m t
reached_lifted R Q f g m t (inl h) = f m t h
reached_lifted R Q f g m t (inr h) = below_lifted R Q f g m t h
