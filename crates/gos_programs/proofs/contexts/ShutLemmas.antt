-- Sources have no open block, and substitution opens none.
use Rattle.gos_model.specs.Typing.{array_type}
use Rattle.std.specs.Prelude.{ℕ, suc, Bool, true, false, ◌∷◌, nat_eq, if◌then◌else◌}
use Rattle.std.proofs.Common.{sym, subst, inl, inr}
use Rattle.gos_types.specs.Types.{Exp, Var, Pair, Fun, Com}
use Rattle.gos_model.specs.Terms.{Term, Skip, Lit, Bound, Import, Lam, App, Both, Fst, Snd, Seq, Par, If, While, Assign, Deref, New, Not, Bin, Loc, Scope, Wait, Held, Put, NewArray, Arr}
use Rattle.gos_model.specs.Substitution.{put_at}
use Rattle.gos_model.specs.Reach.{Rewrites, Under, Aside}
use Rattle.gos_programs.specs.contexts.Scopes.{IsShut, OpensInPlace, SourcesAreShut}
use Rattle.gos_programs.proofs.contexts.BackwardLemmas.{OneHead}

pub sources_are_shut : SourcesAreShut
sources_are_shut i g Skip t h = tt
sources_are_shut i g (Lit k w) t h = tt
sources_are_shut i g (Bound n) t h = tt
sources_are_shut i g (Import x) t h = tt
sources_are_shut i g (Lam a m) t (b, e, h) = sources_are_shut i (a ∷ g) m b h
sources_are_shut i g (App m n) t (a, h, k, apart) = (sources_are_shut i g m (Fun a t) h, sources_are_shut i g n a k)
sources_are_shut i g (Both m n) t (a, b, e, h, k) = (sources_are_shut i g m a h, sources_are_shut i g n b k)
sources_are_shut i g (Fst m) t (b, h) = sources_are_shut i g m (Pair t b) h
sources_are_shut i g (Snd m) t (a, h) = sources_are_shut i g m (Pair a t) h
sources_are_shut i g (Seq m n) t (d, h, k) = (sources_are_shut i g m Com h, sources_are_shut i g n t k)
sources_are_shut i g (Par m n) t (e, h, k, apart) = (sources_are_shut i g m Com h, sources_are_shut i g n Com k)
sources_are_shut i g (If m n p) t (d, h, k, l) = (sources_are_shut i g m (Exp 1) h, sources_are_shut i g n t k, sources_are_shut i g p t l)
sources_are_shut i g (While m n) t (e, h, k) = (sources_are_shut i g m (Exp 1) h, sources_are_shut i g n Com k)
sources_are_shut i g (Assign m n) t (w, e, h, k) = (sources_are_shut i g m (Var w) h, sources_are_shut i g n (Exp w) k)
sources_are_shut i g (Deref m) t (w, e, h) = sources_are_shut i g m (Var w) h
sources_are_shut i g (New w m) t (d, k, h) = sources_are_shut i (Var w ∷ g) m t h
sources_are_shut i g (NewArray n w m) t (d, l, k, h) = sources_are_shut i (array_type n w ∷ g) m t h
sources_are_shut i g (Not m) t (w, e, h) = sources_are_shut i g m (Exp w) h
sources_are_shut i g (Bin op m n) t (w, e, h, k) = (sources_are_shut i g m (Exp w) h, sources_are_shut i g n (Exp w) k)
sources_are_shut i g (Loc l) t h = tt
sources_are_shut i g (Arr l) t h = tt
sources_are_shut i g (Scope l m) t h = absurd h
sources_are_shut i g (Wait x s) t h = tt
sources_are_shut i g (Held k op n) t h = absurd h
sources_are_shut i g (Put m k) t h = absurd h

shut_choice : (b : Bool) (m n : Term) → IsShut m → IsShut n → IsShut (if b then m else n)
shut_choice true m n h k = h
shut_choice false m n h k = k

-- after a closed term was put in
pub shut_put : (m : Term) (d : ℕ) (n : Term) → IsShut n → IsShut m → IsShut (put_at d n m)
shut_put Skip d n s h = tt
shut_put (Lit k w) d n s h = tt
shut_put (Bound i) d n s h = shut_choice (nat_eq i d) n (Bound i) s tt
shut_put (Import x) d n s h = tt
shut_put (Lam a m) d n s h = shut_put m (suc d) n s h
shut_put (App m p) d n s h = (shut_put m d n s h.0, shut_put p d n s h.1)
shut_put (Both m p) d n s h = (shut_put m d n s h.0, shut_put p d n s h.1)
shut_put (Fst m) d n s h = shut_put m d n s h
shut_put (Snd m) d n s h = shut_put m d n s h
shut_put (Seq m p) d n s h = (shut_put m d n s h.0, shut_put p d n s h.1)
shut_put (Par m p) d n s h = (shut_put m d n s h.0, shut_put p d n s h.1)
shut_put (If m p q) d n s h = (shut_put m d n s h.0, shut_put p d n s h.1, shut_put q d n s h.2)
shut_put (While m p) d n s h = (shut_put m d n s h.0, shut_put p d n s h.1)
shut_put (Assign m p) d n s h = (shut_put m d n s h.0, shut_put p d n s h.1)
shut_put (Deref m) d n s h = shut_put m d n s h
shut_put (New w m) d n s h = shut_put m (suc d) n s h
shut_put (NewArray c w m) d n s h = shut_put m (suc d) n s h
shut_put (Not m) d n s h = shut_put m d n s h
shut_put (Bin op m p) d n s h = (shut_put m d n s h.0, shut_put p d n s h.1)
shut_put (Loc l) d n s h = tt
shut_put (Arr l) d n s h = tt
shut_put (Scope l m) d n s h = absurd h
shut_put (Wait x j) d n s h = tt
shut_put (Held k op m) d n s h = shut_put m d n s h
shut_put (Put m k) d n s h = shut_put m d n s h

-- what has no open block has none but at reached places
pub shut_in_place : (m : Term) → IsShut m → OpensInPlace m
shut_in_place Skip h = h
shut_in_place (Lit k w) h = h
shut_in_place (Bound i) h = h
shut_in_place (Import x) h = h
shut_in_place (Lam a m) h = h
shut_in_place (App m p) h = h
shut_in_place (Both m p) h = h
shut_in_place (Fst m) h = h
shut_in_place (Snd m) h = h
shut_in_place (Seq m p) h = (shut_in_place m h.0, h.1)
shut_in_place (Par m p) h = (shut_in_place m h.0, shut_in_place p h.1)
shut_in_place (If m p q) h = (shut_in_place m h.0, h.1, h.2)
shut_in_place (While m p) h = h
shut_in_place (Assign m p) h = (h.0, shut_in_place p h.1)
shut_in_place (Deref m) h = inl h
shut_in_place (New w m) h = h
shut_in_place (NewArray n w m) h = h
shut_in_place (Not m) h = shut_in_place m h
shut_in_place (Bin op m p) h = (shut_in_place m h.0, h.1)
shut_in_place (Loc l) h = h
shut_in_place (Arr l) h = h
shut_in_place (Scope l m) h = absurd h
shut_in_place (Wait x s) h = h
shut_in_place (Held k op m) h = shut_in_place m h
shut_in_place (Put m k) h = inl h

-- an unfolding of a head opens none
shut_rewrite : (m t : Term) → Rewrites m t → IsShut m → IsShut t
shut_rewrite (App m n) t (a, b, em, et) (h, k) = subst IsShut (sym et) (shut_put b 0 n k (subst IsShut em h))
shut_rewrite (Fst m) t (n, e) h = (subst IsShut e h).0
shut_rewrite (Snd m) t (n, e) h = (subst IsShut e h).1
shut_rewrite m t h s = absurd h

shut_under : (m t : Term) → Under Rewrites m t → IsShut m → IsShut t
shut_under (App m n) t (m', e, inl h) (s, k) = subst IsShut (sym e) (shut_rewrite m m' h s, k)
shut_under (App m n) t (m', e, inr h) (s, k) = subst IsShut (sym e) (shut_under m m' h s, k)
shut_under (Fst m) t (m', e, inl h) s = subst IsShut (sym e) (shut_rewrite m m' h s)
shut_under (Fst m) t (m', e, inr h) s = subst IsShut (sym e) (shut_under m m' h s)
shut_under (Snd m) t (m', e, inl h) s = subst IsShut (sym e) (shut_rewrite m m' h s)
shut_under (Snd m) t (m', e, inr h) s = subst IsShut (sym e) (shut_under m m' h s)
shut_under m t h s = absurd h

shut_aside : (m t : Term) → Aside Rewrites m t → IsShut m → IsShut t
shut_aside (Put m k) t (m', e, inl h) s = subst IsShut (sym e) (shut_rewrite m m' h s)
shut_aside (Put m k) t (m', e, inr h) s = subst IsShut (sym e) (shut_under m m' h s)
shut_aside (Deref m) t (m', e, inl h) s = subst IsShut (sym e) (shut_rewrite m m' h s)
shut_aside (Deref m) t (m', e, inr h) s = subst IsShut (sym e) (shut_under m m' h s)
shut_aside m t h s = absurd h

pub shut_head : (m t : Term) → OneHead m t → IsShut m → IsShut t
shut_head m t (inl (inl h)) s = shut_rewrite m t h s
shut_head m t (inl (inr h)) s = shut_under m t h s
shut_head m t (inr h) s = shut_aside m t h s
