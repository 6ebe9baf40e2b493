-- Where nothing waits for an answer.
use Rattle.std.specs.Prelude.{◌≡◌, ℕ, zero, suc, Bool, true, false, List, [], ◌∷◌, nat_eq, if◌then◌else◌}
use Rattle.std.proofs.Common.{refl, sym, subst, inl, inr}
use Rattle.gos_types.specs.Types.{Type', Com, Exp, Var, Pair, Fun}
use Rattle.gos_model.specs.Terms.{Term, Skip, Lit, Bound, Import, Lam, App, Both, Fst, Snd, Seq, Par, If, While, Assign, Deref, New, NewArray, Not, Bin, Loc, Arr, Scope, Wait, Held, Put}
use Rattle.gos_model.specs.Substitution.{put_at}
use Rattle.gos_model.specs.Typing.{Imports, Typed, array_type}
use Rattle.gos_model.specs.Stores.{Store}
use Rattle.gos_model.specs.Reach.{Rel, Rewrites, Under, Aside}
use Rattle.gos_model.specs.Steps.{Computes}
use Rattle.gos_model.specs.Labels.{Label, given}
use Rattle.gos_model.specs.Moves.{Program, Config, Idle, Running, Act, Computing, Showing, Unfoldings, Move, Moves, labels}
use Rattle.gos_programs.specs.contexts.Contexts.{Context, SeqFirst, ParLeft, ParRight, IfTest, BinLeft, HeldRight, NotOf, AssignRight, ScopeBody, ReadIndex, WriteIndex, ReadAt, WriteAt, plug}
use Rattle.gos_programs.proofs.contexts.BackwardLemmas.{OneHead}
use Rattle.gos_programs.proofs.contexts.ReachedLemmas.{reached_lifted}
use Rattle.gos_supplies.specs.progress.Progress.{HasNoWait}

-- a source has no wait
pub source_waits : (i : Imports) (g : List Type') (m : Term) (t : Type') → Typed i g m t → HasNoWait m
source_waits i g Skip t h = tt
source_waits i g (Lit k w) t h = tt
source_waits i g (Bound n) t h = tt
source_waits i g (Import x) t h = tt
source_waits i g (Lam a m) t (b, e, h) = source_waits i (a ∷ g) m b h
source_waits i g (App m n) t (a, h, k, apart) = (source_waits i g m (Fun a t) h, source_waits i g n a k)
source_waits i g (Both m n) t (a, b, e, h, k) = (source_waits i g m a h, source_waits i g n b k)
source_waits i g (Fst m) t (b, h) = source_waits i g m (Pair t b) h
source_waits i g (Snd m) t (a, h) = source_waits i g m (Pair a t) h
source_waits i g (Seq m n) t (d, h, k) = (source_waits i g m Com h, source_waits i g n t k)
source_waits i g (Par m n) t (e, h, k, apart) = (source_waits i g m Com h, source_waits i g n Com k)
source_waits i g (If m n p) t (d, h, k, l) = (source_waits i g m (Exp 1) h, source_waits i g n t k, source_waits i g p t l)
source_waits i g (While m n) t (e, h, k) = (source_waits i g m (Exp 1) h, source_waits i g n Com k)
source_waits i g (Assign m n) t (w, e, h, k) = (source_waits i g m (Var w) h, source_waits i g n (Exp w) k)
source_waits i g (Deref m) t (w, e, h) = source_waits i g m (Var w) h
source_waits i g (New w m) t (d, wide, h) = source_waits i (Var w ∷ g) m t h
source_waits i g (NewArray n w m) t (d, long, wide, h) = source_waits i (array_type n w ∷ g) m t h
source_waits i g (Not m) t (w, e, h) = source_waits i g m (Exp w) h
source_waits i g (Bin op m n) t (w, e, h, k) = (source_waits i g m (Exp w) h, source_waits i g n (Exp w) k)
source_waits i g (Loc l) t h = absurd h
source_waits i g (Arr l) t h = absurd h
source_waits i g (Scope l m) t h = absurd h
source_waits i g (Wait x n) t h = absurd h
source_waits i g (Held k op n) t h = absurd h
source_waits i g (Put m k) t h = absurd h

choice : (b : Bool) (m n : Term) → HasNoWait m → HasNoWait n → HasNoWait (if b then m else n)
choice true m n h k = h
choice false m n h k = k

-- after a term was put in
no_wait_put : (m : Term) (d : ℕ) (q : Term) → HasNoWait q → HasNoWait m → HasNoWait (put_at d q m)
no_wait_put Skip d q c h = tt
no_wait_put (Lit k w) d q c h = tt
no_wait_put (Bound n) d q c h = choice (nat_eq n d) q (Bound n) c tt
no_wait_put (Import x) d q c h = tt
no_wait_put (Lam a m) d q c h = no_wait_put m (suc d) q c h
no_wait_put (App m n) d q c h = (no_wait_put m d q c h.0, no_wait_put n d q c h.1)
no_wait_put (Both m n) d q c h = (no_wait_put m d q c h.0, no_wait_put n d q c h.1)
no_wait_put (Fst m) d q c h = no_wait_put m d q c h
no_wait_put (Snd m) d q c h = no_wait_put m d q c h
no_wait_put (Seq m n) d q c h = (no_wait_put m d q c h.0, no_wait_put n d q c h.1)
no_wait_put (Par m n) d q c h = (no_wait_put m d q c h.0, no_wait_put n d q c h.1)
no_wait_put (If m n p) d q c h = (no_wait_put m d q c h.0, no_wait_put n d q c h.1, no_wait_put p d q c h.2)
no_wait_put (While m n) d q c h = (no_wait_put m d q c h.0, no_wait_put n d q c h.1)
no_wait_put (Assign m n) d q c h = (no_wait_put m d q c h.0, no_wait_put n d q c h.1)
no_wait_put (Deref m) d q c h = no_wait_put m d q c h
no_wait_put (New w m) d q c h = no_wait_put m (suc d) q c h
no_wait_put (NewArray n w m) d q c h = no_wait_put m (suc d) q c h
no_wait_put (Not m) d q c h = no_wait_put m d q c h
no_wait_put (Bin op m n) d q c h = (no_wait_put m d q c h.0, no_wait_put n d q c h.1)
no_wait_put (Loc l) d q c h = tt
no_wait_put (Arr l) d q c h = tt
no_wait_put (Scope l m) d q c h = no_wait_put m d q c h
no_wait_put (Wait x n) d q c h = h
no_wait_put (Held k op n) d q c h = no_wait_put n d q c h
no_wait_put (Put m k) d q c h = no_wait_put m d q c h

-- a change brings no wait
abbrev pub BringsNoWait : Rel
BringsNoWait a b = HasNoWait a → HasNoWait b

to_term : (t u : Term) → t ≡ u → HasNoWait u → HasNoWait t
to_term t u e h = subst HasNoWait (sym e) h

rewrites : (m t : Term) → Rewrites m t → BringsNoWait m t
rewrites (App m n) t (a, b, em, et) (h, k) = to_term t (put_at 0 n b) et (no_wait_put b 0 n k (subst HasNoWait em h))
rewrites (Fst m) t (n, e) h = (subst HasNoWait e h).0
rewrites (Snd m) t (n, e) h = (subst HasNoWait e h).1
rewrites m t h k = absurd h

under : (m t : Term) → Under Rewrites m t → BringsNoWait m t
under (App m n) t (m', e, inl h) (k, l) = to_term t (App m' n) e (rewrites m m' h k, l)
under (App m n) t (m', e, inr h) (k, l) = to_term t (App m' n) e (under m m' h k, l)
under (Fst m) t (m', e, inl h) k = to_term t (Fst m') e (rewrites m m' h k)
under (Fst m) t (m', e, inr h) k = to_term t (Fst m') e (under m m' h k)
under (Snd m) t (m', e, inl h) k = to_term t (Snd m') e (rewrites m m' h k)
under (Snd m) t (m', e, inr h) k = to_term t (Snd m') e (under m m' h k)
under m t h k = absurd h

aside : (m t : Term) → Aside Rewrites m t → BringsNoWait m t
aside (Put m j) t (m', e, inl h) k = to_term t (Put m' j) e (rewrites m m' h k)
aside (Put m j) t (m', e, inr h) k = to_term t (Put m' j) e (under m m' h k)
aside (Deref m) t (m', e, inl h) k = to_term t (Deref m') e (rewrites m m' h k)
aside (Deref m) t (m', e, inr h) k = to_term t (Deref m') e (under m m' h k)
aside m t h k = absurd h

head : (m t : Term) → OneHead m t → BringsNoWait m t
head m t (inl (inl h)) = rewrites m t h
head m t (inl (inr h)) = under m t h
head m t (inr h) = aside m t h

in_place : (c : Context) (a b : Term) → BringsNoWait a b → BringsNoWait (plug c a) (plug c b)
in_place (SeqFirst n) a b q (h, k) = (q h, k)
in_place (ParLeft n) a b q (h, k) = (q h, k)
in_place (ParRight n) a b q (h, k) = (h, q k)
in_place (IfTest n p) a b q (h, k, l) = (q h, k, l)
in_place (BinLeft op n) a b q (h, k) = (q h, k)
in_place (HeldRight n op) a b q h = q h
in_place NotOf a b q h = q h
in_place (AssignRight n) a b q (h, k) = (h, q k)
in_place (ScopeBody l) a b q h = q h
in_place (ReadIndex x n) a b q h = absurd h.0
in_place (WriteIndex x n k) a b q h = absurd h.0
in_place (ReadAt l) a b q (h, k) = (h, q k)
in_place (WriteAt l n) a b q (h, k) = (h, q k)

row : (s r : Store) (a b : Term) → Computes s r a b → BringsNoWait a b
row s r (Seq m n) b (em, et, es) (h, k) = to_term b n et k
row s r (Par m n) b (em, en, et, es) k = to_term b Skip et tt
row s r (If m n p) b (inl (em, et), es) (h, k, l) = to_term b n et k
row s r (If m n p) b (inr (em, et), es) (h, k, l) = to_term b p et l
row s r (While m n) b (et, es) (h, k) = to_term b (If m (Seq n (While m n)) Skip) et (h, (k, (h, k)), tt)
row s r (Bin op m n) b (j, w, em, et, es) (h, k) = to_term b (Held j op n) et k
row s r (Held k op n) b (j, w, en, et, es) h = subst HasNoWait (sym et) tt
row s r (Not m) b (k, w, em, et, es) h = subst HasNoWait (sym et) tt
row s r (Assign m n) b (j, w, en, et, es) (h, k) = to_term b (Put m j) et h
row s r (Put m k) b (e, i, old, em, here, has, et, es) h = to_term b Skip et tt
row s r (Deref m) b (e, i, old, em, here, has, et, es) h = subst HasNoWait (sym et) tt
row s r (New w m) b (l, absent, et, es) h = to_term b (Scope l (put_at 0 (Loc l) m)) et (no_wait_put m 0 (Loc l) tt h)
row s r (NewArray n w m) b (l, absent, et, es) h = to_term b (Scope l (put_at 0 (Arr l) m)) et (no_wait_put m 0 (Arr l) tt h)
row s r (Scope l m) b (is, et, es) h = to_term b m et h
row s r m b h k = absurd h

unfoldings : (n : ℕ) (m t : Term) → Unfoldings n m t → BringsNoWait m t
unfoldings zero m t h k = subst HasNoWait h k
unfoldings (suc n) m t (u, h, hs) k = unfoldings n u t hs (reached_lifted OneHead BringsNoWait head in_place m u h k)

-- a running term in which nothing waits
abbrev pub WaitsForNone : Config → Type 0
WaitsForNone Idle = ⊥
WaitsForNone (Running m s) = HasNoWait m

computing : (p : Program) (m : Term) (s : Store) (d : Config) → Move p Computing (Running m s) d → HasNoWait m → WaitsForNone d
computing p m s Idle (n, u, hs, h) k = absurd h
computing p m s (Running t r) (n, u, hs, h) k =
    reached_lifted (Computes s r) BringsNoWait (row s r) in_place u t h (unfoldings n m u hs k)

-- a run that shows nothing
silent : (p : Program) (acts : List Act) (c d : Config) → Moves p acts c d → labels acts ≡ [] → WaitsForNone c → WaitsForNone d
silent p [] c d h e k = subst WaitsForNone h k
silent p (Showing o ∷ acts) c d h e k = absurd (cc e)
silent p (Computing ∷ acts) Idle d h e k = absurd k
silent p (Computing ∷ acts) (Running m s) d (b, h, hs) e k = silent p acts b d hs e (computing p m s b h k)

-- from its request on
pub unasked : (p : Program) (acts : List Act) (d : Config) → HasNoWait p.body → Moves p acts Idle d → labels acts ≡ given 0 0 ∷ [] → WaitsForNone d
unasked p [] d source h e = absurd (cc e)
unasked p (Computing ∷ acts) d source (b, (is, at), hs) e = absurd (cc is)
unasked p (Showing o ∷ acts) d source (b, (is, at), hs) e =
    silent p acts b d hs (rest (labels acts) e) (subst WaitsForNone (sym at) source)
  where
    rest : (ls : List Label) → o ∷ ls ≡ given 0 0 ∷ [] → ls ≡ []
    rest [] e = refl
    rest (l ∷ ls) e = absurd (cc e)
