-- Locations stay within their blocks.
use Rattle.std.specs.Prelude.{ℕ, zero, suc, Bool, true, false, List, [], ◌∷◌, Option, Some, nat_eq, if◌then◌else◌}
use Rattle.std.proofs.Common.{refl, sym, subst, inl, inr}
use Rattle.gos_types.specs.Types.{Type', Com, Exp, Var, Pair, Fun}
use Rattle.gos_model.specs.Terms.{Term, Skip, Lit, Bound, Import, Lam, App, Both, Fst, Snd, Seq, Par, If, While, Assign, Deref, New, Not, Bin, Loc, Scope, Wait, Held, Put, NewArray, Arr}
use Rattle.gos_model.specs.Substitution.{put_at}
use Rattle.gos_model.specs.Typing.{Imports, Typed, import_type, array_type}
use Rattle.gos_model.specs.Stores.{Store}
use Rattle.gos_model.specs.Reach.{Rel, Rewrites, Under, Aside}
use Rattle.gos_model.specs.Steps.{Computes, IsValue}
use Rattle.gos_model.specs.Labels.{Label, IsAnswer}
use Rattle.gos_model.specs.Moves.{Act, Computing, Showing, Acts, Unfoldings}
use Rattle.gos_model.proofs.AccessMapLemmas.{puts_keep, reads_keep, writes_keep}
use Rattle.gos_programs.specs.contexts.Contexts.{Context, SeqFirst, ParLeft, ParRight, IfTest, BinLeft, HeldRight, NotOf, AssignRight, ScopeBody, ReadIndex, WriteIndex, plug, ReadAt, WriteAt}
use Rattle.gos_programs.specs.contexts.Standing.{Has, InScope}
use Rattle.gos_programs.proofs.contexts.BackwardLemmas.{OneHead, OneLabel}
use Rattle.gos_programs.proofs.contexts.ReachedLemmas.{reached_lifted}

-- a source has no locations
pub sources_scoped : (i : Imports) (g : List Type') (m : Term) (t : Type') → Typed i g m t → InScope [] m
sources_scoped i g Skip t h = tt
sources_scoped i g (Lit k w) t h = tt
sources_scoped i g (Bound n) t h = tt
sources_scoped i g (Import x) t h = tt
sources_scoped i g (Lam a m) t (b, e, h) = sources_scoped i (a ∷ g) m b h
sources_scoped i g (App m n) t (a, h, k, apart) = (sources_scoped i g m (Fun a t) h, sources_scoped i g n a k)
sources_scoped i g (Both m n) t (a, b, e, h, k) = (sources_scoped i g m a h, sources_scoped i g n b k)
sources_scoped i g (Fst m) t (b, h) = sources_scoped i g m (Pair t b) h
sources_scoped i g (Snd m) t (a, h) = sources_scoped i g m (Pair a t) h
sources_scoped i g (Seq m n) t (d, h, k) = (sources_scoped i g m Com h, sources_scoped i g n t k)
sources_scoped i g (Par m n) t (e, h, k, apart) = (sources_scoped i g m Com h, sources_scoped i g n Com k)
sources_scoped i g (If m n p) t (d, h, k, o) = (sources_scoped i g m (Exp 1) h, sources_scoped i g n t k, sources_scoped i g p t o)
sources_scoped i g (While m n) t (e, h, k) = (sources_scoped i g m (Exp 1) h, sources_scoped i g n Com k)
sources_scoped i g (Assign m n) t (w, e, h, k) = (sources_scoped i g m (Var w) h, sources_scoped i g n (Exp w) k)
sources_scoped i g (Deref m) t (w, e, h) = sources_scoped i g m (Var w) h
sources_scoped i g (New w m) t (d, k, h) = sources_scoped i (Var w ∷ g) m t h
sources_scoped i g (NewArray n w m) t (d, l, k, h) = sources_scoped i (array_type n w ∷ g) m t h
sources_scoped i g (Not m) t (w, e, h) = sources_scoped i g m (Exp w) h
sources_scoped i g (Bin op m n) t (w, e, h, k) = (sources_scoped i g m (Exp w) h, sources_scoped i g n (Exp w) k)
sources_scoped i g (Loc l) t h = absurd h
sources_scoped i g (Arr l) t h = absurd h
sources_scoped i g (Scope l m) t h = absurd h
sources_scoped i g (Wait x s) t h = absurd h
sources_scoped i g (Held k op n) t h = absurd h
sources_scoped i g (Put m k) t h = absurd h

-- under more locations
more : (k : ℕ) (ls ks : List ℕ) → ((l : ℕ) → Has l ls → Has l ks) → (l : ℕ) → Has l (k ∷ ls) → Has l (k ∷ ks)
more k ls ks f l (inl e) = inl e
more k ls ks f l (inr h) = inr (f l h)

widened : (m : Term) (ls ks : List ℕ) → ((l : ℕ) → Has l ls → Has l ks) → InScope ls m → InScope ks m
widened Skip ls ks f h = tt
widened (Lit k w) ls ks f h = tt
widened (Bound n) ls ks f h = tt
widened (Import x) ls ks f h = tt
widened (Lam a m) ls ks f h = widened m ls ks f h
widened (App m n) ls ks f h = (widened m ls ks f h.0, widened n ls ks f h.1)
widened (Both m n) ls ks f h = (widened m ls ks f h.0, widened n ls ks f h.1)
widened (Fst m) ls ks f h = widened m ls ks f h
widened (Snd m) ls ks f h = widened m ls ks f h
widened (Seq m n) ls ks f h = (widened m ls ks f h.0, widened n ls ks f h.1)
widened (Par m n) ls ks f h = (widened m ls ks f h.0, widened n ls ks f h.1)
widened (If m n p) ls ks f h = (widened m ls ks f h.0, widened n ls ks f h.1, widened p ls ks f h.2)
widened (While m n) ls ks f h = (widened m ls ks f h.0, widened n ls ks f h.1)
widened (Assign m n) ls ks f h = (widened m ls ks f h.0, widened n ls ks f h.1)
widened (Deref m) ls ks f h = widened m ls ks f h
widened (New w m) ls ks f h = widened m ls ks f h
widened (NewArray n w m) ls ks f h = widened m ls ks f h
widened (Not m) ls ks f h = widened m ls ks f h
widened (Bin op m n) ls ks f h = (widened m ls ks f h.0, widened n ls ks f h.1)
widened (Loc l) ls ks f h = f l h
widened (Arr l) ls ks f h = f l h
widened (Scope l m) ls ks f h = widened m (l ∷ ls) (l ∷ ks) (more l ls ks f) h
widened (Wait x s) ls ks f h = tt
widened (Held k op n) ls ks f h = widened n ls ks f h
widened (Put m k) ls ks f h = widened m ls ks f h

scoped_choice : (ls : List ℕ) (b : Bool) (m n : Term) → InScope ls m → InScope ls n → InScope ls (if b then m else n)
scoped_choice ls true m n h k = h
scoped_choice ls false m n h k = k

-- after a term was put in
pub scoped_put : (m : Term) (ls : List ℕ) (d : ℕ) (q : Term) → InScope ls q → InScope ls m → InScope ls (put_at d q m)
scoped_put Skip ls d q k h = tt
scoped_put (Lit j w) ls d q k h = tt
scoped_put (Bound n) ls d q k h = scoped_choice ls (nat_eq n d) q (Bound n) k tt
scoped_put (Import x) ls d q k h = tt
scoped_put (Lam a m) ls d q k h = scoped_put m ls (suc d) q k h
scoped_put (App m n) ls d q k h = (scoped_put m ls d q k h.0, scoped_put n ls d q k h.1)
scoped_put (Both m n) ls d q k h = (scoped_put m ls d q k h.0, scoped_put n ls d q k h.1)
scoped_put (Fst m) ls d q k h = scoped_put m ls d q k h
scoped_put (Snd m) ls d q k h = scoped_put m ls d q k h
scoped_put (Seq m n) ls d q k h = (scoped_put m ls d q k h.0, scoped_put n ls d q k h.1)
scoped_put (Par m n) ls d q k h = (scoped_put m ls d q k h.0, scoped_put n ls d q k h.1)
scoped_put (If m n p) ls d q k h = (scoped_put m ls d q k h.0, scoped_put n ls d q k h.1, scoped_put p ls d q k h.2)
scoped_put (While m n) ls d q k h = (scoped_put m ls d q k h.0, scoped_put n ls d q k h.1)
scoped_put (Assign m n) ls d q k h = (scoped_put m ls d q k h.0, scoped_put n ls d q k h.1)
scoped_put (Deref m) ls d q k h = scoped_put m ls d q k h
scoped_put (New w m) ls d q k h = scoped_put m ls (suc d) q k h
scoped_put (NewArray n w m) ls d q k h = scoped_put m ls (suc d) q k h
scoped_put (Not m) ls d q k h = scoped_put m ls d q k h
scoped_put (Bin op m n) ls d q k h = (scoped_put m ls d q k h.0, scoped_put n ls d q k h.1)
scoped_put (Loc l) ls d q k h = h
scoped_put (Arr l) ls d q k h = h
scoped_put (Scope l m) ls d q k h = scoped_put m (l ∷ ls) d q (widened q ls (l ∷ ls) (λ x y. inr y) k) h
scoped_put (Wait x s) ls d q k h = tt
scoped_put (Held j op n) ls d q k h = scoped_put n ls d q k h
scoped_put (Put m j) ls d q k h = scoped_put m ls d q k h

-- heads
scoped_rewrite : (ls : List ℕ) (m t : Term) → Rewrites m t → InScope ls m → InScope ls t
scoped_rewrite ls (App m n) t (a, b, em, et) (h, k) = subst (InScope ls) (sym et) (scoped_put b ls 0 n k (subst (InScope ls) em h))
scoped_rewrite ls (Fst m) t (n, e) h = (subst (InScope ls) e h).0
scoped_rewrite ls (Snd m) t (n, e) h = (subst (InScope ls) e h).1
scoped_rewrite ls m t h s = absurd h

scoped_under : (ls : List ℕ) (m t : Term) → Under Rewrites m t → InScope ls m → InScope ls t
scoped_under ls (App m n) t (m', e, inl h) (s, k) = subst (InScope ls) (sym e) (scoped_rewrite ls m m' h s, k)
scoped_under ls (App m n) t (m', e, inr h) (s, k) = subst (InScope ls) (sym e) (scoped_under ls m m' h s, k)
scoped_under ls (Fst m) t (m', e, inl h) s = subst (InScope ls) (sym e) (scoped_rewrite ls m m' h s)
scoped_under ls (Fst m) t (m', e, inr h) s = subst (InScope ls) (sym e) (scoped_under ls m m' h s)
scoped_under ls (Snd m) t (m', e, inl h) s = subst (InScope ls) (sym e) (scoped_rewrite ls m m' h s)
scoped_under ls (Snd m) t (m', e, inr h) s = subst (InScope ls) (sym e) (scoped_under ls m m' h s)
scoped_under ls m t h s = absurd h

scoped_aside : (ls : List ℕ) (m t : Term) → Aside Rewrites m t → InScope ls m → InScope ls t
scoped_aside ls (Put m k) t (m', e, inl h) s = subst (InScope ls) (sym e) (scoped_rewrite ls m m' h s)
scoped_aside ls (Put m k) t (m', e, inr h) s = subst (InScope ls) (sym e) (scoped_under ls m m' h s)
scoped_aside ls (Deref m) t (m', e, inl h) s = subst (InScope ls) (sym e) (scoped_rewrite ls m m' h s)
scoped_aside ls (Deref m) t (m', e, inr h) s = subst (InScope ls) (sym e) (scoped_under ls m m' h s)
scoped_aside ls m t h s = absurd h

-- a change within scope, in all contexts
abbrev pub Stays : Rel
Stays a b = (ls : List ℕ) → InScope ls a → InScope ls b

stays_in : (c : Context) (a b : Term) → Stays a b → Stays (plug c a) (plug c b)
stays_in (SeqFirst n) a b q ls (h, k) = (q ls h, k)
stays_in (ParLeft n) a b q ls (h, k) = (q ls h, k)
stays_in (ParRight n) a b q ls (h, k) = (h, q ls k)
stays_in (IfTest n p) a b q ls (h, k, l) = (q ls h, k, l)
stays_in (BinLeft op n) a b q ls (h, k) = (q ls h, k)
stays_in (HeldRight n op) a b q ls h = q ls h
stays_in NotOf a b q ls h = q ls h
stays_in (AssignRight n) a b q ls (h, k) = (h, q ls k)
stays_in (ScopeBody l) a b q ls h = q (l ∷ ls) h
stays_in (ReadIndex x n) a b q ls (w, (h, k)) = (w, (h, q ls k))
stays_in (WriteIndex x n j) a b q ls (w, (h, k)) = (w, (h, q ls k))
stays_in (ReadAt l) a b q ls (h, k) = (h, q ls k)
stays_in (WriteAt l j) a b q ls (h, k) = (h, q ls k)

scoped_head : (m t : Term) → OneHead m t → Stays m t
scoped_head m t (inl (inl h)) ls s = scoped_rewrite ls m t h s
scoped_head m t (inl (inr h)) ls s = scoped_under ls m t h s
scoped_head m t (inr h) ls s = scoped_aside ls m t h s

scoped_answer : (o : Option Type') (n k : ℕ) (t : Term) → IsAnswer o n k t → (ls : List ℕ) → InScope ls t
scoped_answer (Some Com) (suc zero) k t h ls = subst (InScope ls) (sym h.1) tt
scoped_answer (Some (Exp w)) (suc zero) k t h ls = subst (InScope ls) (sym h.1) tt
scoped_answer (Some (Var w)) (suc zero) k t h ls = subst (InScope ls) (sym h.1) tt
scoped_answer (Some (Var w)) (suc (suc (suc zero))) k t h ls = subst (InScope ls) (sym h.1) tt
scoped_answer o n k t h ls = absurd h

scoped_label : (i : Imports) (o : Label) (a b : Term) → OneLabel i o a b → Stays a b
scoped_label i o (Import x) b (inl (inl (h, e, et))) ls k = subst (InScope ls) (sym et) tt
scoped_label i o (Import x) b (inl (inr (w, h, e, et))) ls k = subst (InScope ls) (sym et) tt
scoped_label i o (Deref m) b (inl (inl (x, w, em, h, e, et))) ls k = subst (InScope ls) (sym et) tt
scoped_label i o (Put m n) b (inl (inl (x, w, em, h, e, et))) ls k = subst (InScope ls) (sym et) tt
scoped_label i o (Wait x n) b (inr (p, e, h)) ls k = scoped_answer (import_type i x) n o.value b h ls
scoped_label i o (Deref m) b (inl (inr (x, p, h))) ls k =
    puts_keep i (InScope ls) (λ (u : Term). Deref u) x (record { index = λ h n q. q.1; left = λ m n q. q.0; right = λ m n q. q.1; app = λ h n q r. (q, r); both = λ m n q r. (q, r); access = λ m q. q; value = λ k w. tt; skip = tt; wait = λ c w s array. tt }) 2 0 o.event o.value m b h k
scoped_label i o (Deref m) b (inr (x, p, h)) ls k =
    reads_keep i (InScope ls) (λ (u : Term). Deref u) x (record { index = λ h n q. q.1; left = λ m n q. q.0; right = λ m n q. q.1; app = λ h n q r. (q, r); both = λ m n q r. (q, r); access = λ m q. q; value = λ k w. tt; skip = tt; wait = λ c w s array. tt }) o.event o.value m b h k
scoped_label i o (Put m n) b (inl (inr (x, p, h))) ls k =
    puts_keep i (InScope ls) (λ (u : Term). Put u n) x (record { index = λ h n q. q.1; left = λ m n q. q.0; right = λ m n q. q.1; app = λ h n q r. (q, r); both = λ m n q r. (q, r); access = λ m q. q; value = λ k w. tt; skip = tt; wait = λ c w s array. tt }) 4 n o.event o.value m b h k
scoped_label i o (Put m n) b (inr (x, p, h)) ls k =
    writes_keep i (InScope ls) (λ (u : Term). Put u n) x (record { index = λ h n q. q.1; left = λ m n q. q.0; right = λ m n q. q.1; app = λ h n q r. (q, r); both = λ m n q r. (q, r); access = λ m q. q; value = λ k w. tt; skip = tt; wait = λ c w s array. tt }) o.event o.value m b h k
scoped_label i o a b (inl h) ls k = absurd h
scoped_label i o a b (inr h) ls k = absurd h

scoped_value : (v : Term) → IsValue v → (ls : List ℕ) → InScope ls v
scoped_value v (inl e) ls = subst (InScope ls) (sym e) tt
scoped_value v (inr (k, w, e)) ls = subst (InScope ls) (sym e) tt

scoped_row : (s s' : Store) (a b : Term) → Computes s s' a b → Stays a b
scoped_row s s' (Seq m n) b (em, et, es) ls (h, k) = subst (InScope ls) (sym et) k
scoped_row s s' (Par m n) b (em, en, et, es) ls k = subst (InScope ls) (sym et) tt
scoped_row s s' (If m n p) b (inl (em, et), es) ls (h, k, l) = subst (InScope ls) (sym et) k
scoped_row s s' (If m n p) b (inr (em, et), es) ls (h, k, l) = subst (InScope ls) (sym et) l
scoped_row s s' (While m n) b (et, es) ls (h, k) = subst (InScope ls) (sym et) (h, (k, (h, k)), tt)
scoped_row s s' (Bin op m n) b (j, w, em, et, es) ls (h, k) = subst (InScope ls) (sym et) k
scoped_row s s' (Held k op n) b (j, w, en, et, es) ls h = subst (InScope ls) (sym et) tt
scoped_row s s' (Not m) b (k, w, em, et, es) ls h = subst (InScope ls) (sym et) tt
scoped_row s s' (Assign m n) b (j, w, en, et, es) ls (h, k) = subst (InScope ls) (sym et) h
scoped_row s s' (Put m k) b (e, j, old, em, here, has, et, es) ls h = subst (InScope ls) (sym et) tt
scoped_row s s' (Deref m) b (e, j, old, em, here, has, et, es) ls h = subst (InScope ls) (sym et) tt
scoped_row s s' (New w m) b (l, absent, et, es) ls h =
    subst (InScope ls) (sym et) (scoped_put m (l ∷ ls) 0 (Loc l) (inl refl) (widened m ls (l ∷ ls) (λ x y. inr y) h))
scoped_row s s' (NewArray n w m) b (l, absent, et, es) ls h =
    subst (InScope ls) (sym et) (scoped_put m (l ∷ ls) 0 (Arr l) (inl refl) (widened m ls (l ∷ ls) (λ x y. inr y) h))
scoped_row s s' (Scope l m) b (is, et, es) ls h = subst (InScope ls) (sym et) (scoped_value m is ls)
scoped_row s s' m b h ls k = absurd h

pub unfoldings_scoped : (n : ℕ) (m t : Term) → Unfoldings n m t → Stays m t
unfoldings_scoped zero m t h ls k = subst (InScope ls) h k
unfoldings_scoped (suc n) m t (u, h, hs) ls k =
    unfoldings_scoped n u t hs ls (reached_lifted OneHead Stays scoped_head stays_in m u h ls k)

pub acts_scoped : (i : Imports) (a : Act) (s s' : Store) (m t : Term) → Acts i a s s' m t → Stays m t
acts_scoped i Computing s s' m t h = reached_lifted (Computes s s') Stays (scoped_row s s') stays_in m t h
acts_scoped i (Showing o) s s' m t (h, e) = reached_lifted (OneLabel i o) Stays (scoped_label i o) stays_in m t h
