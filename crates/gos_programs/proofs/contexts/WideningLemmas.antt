-- Under more imports a term has its type. Its names are known in all that it becomes, and then it has no move there but its own.
use Rattle.gos_model.specs.Accesses.{IsArrayImport}
use Rattle.std.specs.Prelude.{◌≡◌, ℕ, zero, suc, Bool, true, false, List, [], ◌∷◌, Option, Some, None, nat_eq, if◌then◌else◌}
use Rattle.std.proofs.Common.{refl, sym, subst, inl, inr, ◌∙◌}
use Rattle.gos_types.specs.Types.{Type', Com, Exp, Var, Pair, Fun}
use Rattle.gos_model.specs.Terms.{Name, Term, Skip, Lit, Bound, Import, Lam, App, Both, Fst, Snd, Seq, Par, If, While, Assign, Deref, New, Not, Bin, Loc, Scope, Wait, Held, Put, NewArray, Arr}
use Rattle.gos_model.specs.Substitution.{put_at}
use Rattle.gos_model.specs.Typing.{Imports, Typed, import_type, array_type}
use Rattle.gos_model.specs.Stores.{Store}
use Rattle.gos_model.specs.Reach.{Rel, Reached, Rewrites, Under, Aside}
use Rattle.gos_model.specs.Steps.{Computes}
use Rattle.gos_model.specs.Labels.{Label, IsAnswer}
use Rattle.gos_model.specs.Moves.{Program, Config, Idle, Running, Act, Computing, Showing, Acts, ActsTo, Unfoldings, Move, Moves}
use Rattle.gos_model.proofs.AccessMapLemmas.{puts_keep, reads_keep, writes_keep, puts_as, reads_as, writes_as}
use Rattle.gos_programs.specs.contexts.Contexts.{Context, SeqFirst, ParLeft, ParRight, IfTest, BinLeft, HeldRight, NotOf, AssignRight, ScopeBody, ReadIndex, WriteIndex, plug, ReadAt, WriteAt}
use Rattle.gos_programs.specs.contexts.Widening.{AreAmong, Knows, SourcesAreKnown, RunsAreKnown, MoveWidens, MovesWiden, MoveNarrows, WaitsWidely}
use Rattle.gos_programs.proofs.contexts.BackwardLemmas.{OneHead, OneLabel}
use Rattle.gos_programs.proofs.contexts.PluggedLemmas.{acts_of, reached_plugged, stays_running, inner_rest}
use Rattle.gos_programs.proofs.contexts.ReachedLemmas.{reached_lifted}

-- what is typed is so under more imports
pub typed_more : (i j : Imports) → AreAmong i j → (g : List Type') (m : Term) (t : Type') → Typed i g m t → Typed j g m t
typed_more i j all g Skip t h = h
typed_more i j all g (Lit k w) t h = h
typed_more i j all g (Bound n) t h = h
typed_more i j all g (Import x) t h = all x t h
typed_more i j all g (Lam a m) t (b, e, h) = (b, e, typed_more i j all (a ∷ g) m b h)
typed_more i j all g (App m n) t (a, h, k, apart) = (a, typed_more i j all g m _ h, typed_more i j all g n a k, apart)
typed_more i j all g (Both m n) t (a, b, e, h, k) = (a, b, e, typed_more i j all g m a h, typed_more i j all g n b k)
typed_more i j all g (Fst m) t (b, h) = (b, typed_more i j all g m _ h)
typed_more i j all g (Snd m) t (a, h) = (a, typed_more i j all g m _ h)
typed_more i j all g (Seq m n) t (d, h, k) = (d, typed_more i j all g m Com h, typed_more i j all g n t k)
typed_more i j all g (Par m n) t (e, h, k, apart) = (e, typed_more i j all g m Com h, typed_more i j all g n Com k, apart)
typed_more i j all g (If m n p) t (d, h, k, l) = (d, typed_more i j all g m (Exp 1) h, typed_more i j all g n t k, typed_more i j all g p t l)
typed_more i j all g (While m n) t (e, h, k) = (e, typed_more i j all g m (Exp 1) h, typed_more i j all g n Com k)
typed_more i j all g (Assign m n) t (w, e, h, k) = (w, e, typed_more i j all g m (Var w) h, typed_more i j all g n (Exp w) k)
typed_more i j all g (Deref m) t (w, e, h) = (w, e, typed_more i j all g m (Var w) h)
typed_more i j all g (New w m) t (d, width, h) = (d, width, typed_more i j all (Var w ∷ g) m t h)
typed_more i j all g (NewArray n w m) t (d, l, width, h) = (d, l, width, typed_more i j all (array_type n w ∷ g) m t h)
typed_more i j all g (Not m) t (w, e, h) = (w, e, typed_more i j all g m (Exp w) h)
typed_more i j all g (Bin op m n) t (w, e, h, k) = (w, e, typed_more i j all g m (Exp w) h, typed_more i j all g n (Exp w) k)
typed_more i j all g (Loc l) t h = h
typed_more i j all g (Arr l) t h = h
typed_more i j all g (Scope l m) t h = h
typed_more i j all g (Wait x s) t h = h
typed_more i j all g (Held k op n) t h = h
typed_more i j all g (Put m k) t h = h

pub sources_known : SourcesAreKnown
sources_known i g Skip t h = tt
sources_known i g (Lit k w) t h = tt
sources_known i g (Bound n) t h = tt
sources_known i g (Import x) t h = (t, h)
sources_known i g (Lam a m) t (b, e, h) = sources_known i (a ∷ g) m b h
sources_known i g (App m n) t (a, h, k, apart) = (sources_known i g m (Fun a t) h, sources_known i g n a k)
sources_known i g (Both m n) t (a, b, e, h, k) = (sources_known i g m a h, sources_known i g n b k)
sources_known i g (Fst m) t (b, h) = sources_known i g m (Pair t b) h
sources_known i g (Snd m) t (a, h) = sources_known i g m (Pair a t) h
sources_known i g (Seq m n) t (d, h, k) = (sources_known i g m Com h, sources_known i g n t k)
sources_known i g (Par m n) t (e, h, k, apart) = (sources_known i g m Com h, sources_known i g n Com k)
sources_known i g (If m n p) t (d, h, k, o) = (sources_known i g m (Exp 1) h, sources_known i g n t k, sources_known i g p t o)
sources_known i g (While m n) t (e, h, k) = (sources_known i g m (Exp 1) h, sources_known i g n Com k)
sources_known i g (Assign m n) t (w, e, h, k) = (sources_known i g m (Var w) h, sources_known i g n (Exp w) k)
sources_known i g (Deref m) t (w, e, h) = sources_known i g m (Var w) h
sources_known i g (New w m) t (d, k, h) = sources_known i (Var w ∷ g) m t h
sources_known i g (NewArray n w m) t (d, l, k, h) = sources_known i (array_type n w ∷ g) m t h
sources_known i g (Not m) t (w, e, h) = sources_known i g m (Exp w) h
sources_known i g (Bin op m n) t (w, e, h, k) = (sources_known i g m (Exp w) h, sources_known i g n (Exp w) k)
sources_known i g (Loc l) t h = absurd h
sources_known i g (Arr l) t h = absurd h
sources_known i g (Scope l m) t h = absurd h
sources_known i g (Wait x s) t h = absurd h
sources_known i g (Held k op n) t h = absurd h
sources_known i g (Put m k) t h = absurd h

known_choice : (i : Imports) (b : Bool) (m n : Term) → Knows i m → Knows i n → Knows i (if b then m else n)
known_choice i true m n h k = h
known_choice i false m n h k = k

-- after a term was put in
known_put : (i : Imports) (m : Term) (d : ℕ) (q : Term) → Knows i q → Knows i m → Knows i (put_at d q m)
known_put i Skip d q k h = tt
known_put i (Lit j w) d q k h = tt
known_put i (Bound n) d q k h = known_choice i (nat_eq n d) q (Bound n) k tt
known_put i (Import x) d q k h = h
known_put i (Lam a m) d q k h = known_put i m (suc d) q k h
known_put i (App m n) d q k h = (known_put i m d q k h.0, known_put i n d q k h.1)
known_put i (Both m n) d q k h = (known_put i m d q k h.0, known_put i n d q k h.1)
known_put i (Fst m) d q k h = known_put i m d q k h
known_put i (Snd m) d q k h = known_put i m d q k h
known_put i (Seq m n) d q k h = (known_put i m d q k h.0, known_put i n d q k h.1)
known_put i (Par m n) d q k h = (known_put i m d q k h.0, known_put i n d q k h.1)
known_put i (If m n p) d q k h = (known_put i m d q k h.0, known_put i n d q k h.1, known_put i p d q k h.2)
known_put i (While m n) d q k h = (known_put i m d q k h.0, known_put i n d q k h.1)
known_put i (Assign m n) d q k h = (known_put i m d q k h.0, known_put i n d q k h.1)
known_put i (Deref m) d q k h = known_put i m d q k h
known_put i (New w m) d q k h = known_put i m (suc d) q k h
known_put i (NewArray n w m) d q k h = known_put i m (suc d) q k h
known_put i (Not m) d q k h = known_put i m d q k h
known_put i (Bin op m n) d q k h = (known_put i m d q k h.0, known_put i n d q k h.1)
known_put i (Loc l) d q k h = tt
known_put i (Arr l) d q k h = tt
known_put i (Scope l m) d q k h = known_put i m d q k h
known_put i (Wait x s) d q k h = h
known_put i (Held j op n) d q k h = known_put i n d q k h
known_put i (Put m j) d q k h = known_put i m d q k h

-- heads
known_rewrite : (i : Imports) (m t : Term) → Rewrites m t → Knows i m → Knows i t
known_rewrite i (App m n) t (a, b, em, et) (h, k) = subst (Knows i) (sym et) (known_put i b 0 n k (subst (Knows i) em h))
known_rewrite i (Fst m) t (n, e) h = (subst (Knows i) e h).0
known_rewrite i (Snd m) t (n, e) h = (subst (Knows i) e h).1
known_rewrite i m t h s = absurd h

known_under : (i : Imports) (m t : Term) → Under Rewrites m t → Knows i m → Knows i t
known_under i (App m n) t (m', e, inl h) (s, k) = subst (Knows i) (sym e) (known_rewrite i m m' h s, k)
known_under i (App m n) t (m', e, inr h) (s, k) = subst (Knows i) (sym e) (known_under i m m' h s, k)
known_under i (Fst m) t (m', e, inl h) s = subst (Knows i) (sym e) (known_rewrite i m m' h s)
known_under i (Fst m) t (m', e, inr h) s = subst (Knows i) (sym e) (known_under i m m' h s)
known_under i (Snd m) t (m', e, inl h) s = subst (Knows i) (sym e) (known_rewrite i m m' h s)
known_under i (Snd m) t (m', e, inr h) s = subst (Knows i) (sym e) (known_under i m m' h s)
known_under i m t h s = absurd h

known_aside : (i : Imports) (m t : Term) → Aside Rewrites m t → Knows i m → Knows i t
known_aside i (Put m k) t (m', e, inl h) s = subst (Knows i) (sym e) (known_rewrite i m m' h s)
known_aside i (Put m k) t (m', e, inr h) s = subst (Knows i) (sym e) (known_under i m m' h s)
known_aside i (Deref m) t (m', e, inl h) s = subst (Knows i) (sym e) (known_rewrite i m m' h s)
known_aside i (Deref m) t (m', e, inr h) s = subst (Knows i) (sym e) (known_under i m m' h s)
known_aside i m t h s = absurd h

known_head : (i : Imports) (m t : Term) → OneHead m t → Knows i m → Knows i t
known_head i m t (inl (inl h)) s = known_rewrite i m t h s
known_head i m t (inl (inr h)) s = known_under i m t h s
known_head i m t (inr h) s = known_aside i m t h s

-- labels
known_answer : (i : Imports) (o : Option Type') (n k : ℕ) (t : Term) → IsAnswer o n k t → Knows i t
known_answer i (Some Com) (suc zero) k t h = subst (Knows i) (sym h.1) tt
known_answer i (Some (Exp w)) (suc zero) k t h = subst (Knows i) (sym h.1) tt
known_answer i (Some (Var w)) (suc zero) k t h = subst (Knows i) (sym h.1) tt
known_answer i (Some (Var w)) (suc (suc (suc zero))) k t h = subst (Knows i) (sym h.1) tt
known_answer i o n k t h = absurd h

known_label : (i : Imports) (o : Label) (a b : Term) → OneLabel i o a b → Knows i a → Knows i b
known_label i o (Import x) b (inl (inl (h, e, et))) k = subst (Knows i) (sym et) k
known_label i o (Import x) b (inl (inr (w, h, e, et))) k = subst (Knows i) (sym et) k
known_label i o (Deref m) b (inl (inl (x, w, em, h, e, et))) k = subst (Knows i) (sym et) (Var w, h)
known_label i o (Put m n) b (inl (inl (x, w, em, h, e, et))) k = subst (Knows i) (sym et) (Var w, h)
known_label i o (Wait x n) b (inr (p, e, h)) k = known_answer i (import_type i x) n o.value b h
known_label i o (Deref m) b (inl (inr (x, p, h))) k =
    puts_keep i (Knows i) (λ (u : Term). Deref u) x (record { index = λ h n q. q.1; left = λ m n q. q.0; right = λ m n q. q.1; app = λ h n q r. (q, r); both = λ m n q r. (q, r); access = λ m q. q; value = λ k w. tt; skip = tt; wait = λ c w s array. (Fun (Exp c) (Var w), array) }) 2 0 o.event o.value m b h k
known_label i o (Deref m) b (inr (x, p, h)) k =
    reads_keep i (Knows i) (λ (u : Term). Deref u) x (record { index = λ h n q. q.1; left = λ m n q. q.0; right = λ m n q. q.1; app = λ h n q r. (q, r); both = λ m n q r. (q, r); access = λ m q. q; value = λ k w. tt; skip = tt; wait = λ c w s array. (Fun (Exp c) (Var w), array) }) o.event o.value m b h k
known_label i o (Put m n) b (inl (inr (x, p, h))) k =
    puts_keep i (Knows i) (λ (u : Term). Put u n) x (record { index = λ h n q. q.1; left = λ m n q. q.0; right = λ m n q. q.1; app = λ h n q r. (q, r); both = λ m n q r. (q, r); access = λ m q. q; value = λ k w. tt; skip = tt; wait = λ c w s array. (Fun (Exp c) (Var w), array) }) 4 n o.event o.value m b h k
known_label i o (Put m n) b (inr (x, p, h)) k =
    writes_keep i (Knows i) (λ (u : Term). Put u n) x (record { index = λ h n q. q.1; left = λ m n q. q.0; right = λ m n q. q.1; app = λ h n q r. (q, r); both = λ m n q r. (q, r); access = λ m q. q; value = λ k w. tt; skip = tt; wait = λ c w s array. (Fun (Exp c) (Var w), array) }) o.event o.value m b h k
known_label i o a b (inl h) k = absurd h
known_label i o a b (inr h) k = absurd h

-- computation
known_row : (i : Imports) (s s' : Store) (a b : Term) → Computes s s' a b → Knows i a → Knows i b
known_row i s s' (Seq m n) b (em, et, es) (h, k) = subst (Knows i) (sym et) k
known_row i s s' (Par m n) b (em, en, et, es) k = subst (Knows i) (sym et) tt
known_row i s s' (If m n p) b (inl (em, et), es) (h, k, l) = subst (Knows i) (sym et) k
known_row i s s' (If m n p) b (inr (em, et), es) (h, k, l) = subst (Knows i) (sym et) l
known_row i s s' (While m n) b (et, es) (h, k) = subst (Knows i) (sym et) (h, (k, (h, k)), tt)
known_row i s s' (Bin op m n) b (j, w, em, et, es) (h, k) = subst (Knows i) (sym et) k
known_row i s s' (Held k op n) b (j, w, en, et, es) h = subst (Knows i) (sym et) tt
known_row i s s' (Not m) b (k, w, em, et, es) h = subst (Knows i) (sym et) tt
known_row i s s' (Assign m n) b (j, w, en, et, es) (h, k) = subst (Knows i) (sym et) h
known_row i s s' (Put m k) b (e, j, old, em, here, has, et, es) h = subst (Knows i) (sym et) tt
known_row i s s' (Deref m) b (e, j, old, em, here, has, et, es) h = subst (Knows i) (sym et) tt
known_row i s s' (New w m) b (l, absent, et, es) h = subst (Knows i) (sym et) (known_put i m 0 (Loc l) tt h)
known_row i s s' (NewArray n w m) b (l, absent, et, es) h = subst (Knows i) (sym et) (known_put i m 0 (Arr l) tt h)
known_row i s s' (Scope l m) b (is, et, es) h = subst (Knows i) (sym et) h
known_row i s s' m b h k = absurd h

-- in contexts
abbrev Keeps : Imports → Rel
Keeps i a b = Knows i a → Knows i b

keeps_in : (i : Imports) (c : Context) (a b : Term) → Keeps i a b → Keeps i (plug c a) (plug c b)
keeps_in i (SeqFirst n) a b q (h, k) = (q h, k)
keeps_in i (ParLeft n) a b q (h, k) = (q h, k)
keeps_in i (ParRight n) a b q (h, k) = (h, q k)
keeps_in i (IfTest n p) a b q (h, k, l) = (q h, k, l)
keeps_in i (BinLeft op n) a b q (h, k) = (q h, k)
keeps_in i (HeldRight n op) a b q h = q h
keeps_in i NotOf a b q h = q h
keeps_in i (AssignRight n) a b q (h, k) = (h, q k)
keeps_in i (ScopeBody l) a b q h = q h
keeps_in i (ReadIndex x n) a b q (w, (h, k)) = (w, (h, q k))
keeps_in i (WriteIndex x n j) a b q (w, (h, k)) = (w, (h, q k))
keeps_in i (ReadAt l) a b q (h, k) = (h, q k)
keeps_in i (WriteAt l j) a b q (h, k) = (h, q k)

known_inside : (i : Imports) (c : Context) (a : Term) → Knows i (plug c a) → Knows i a
known_inside i (SeqFirst n) a h = h.0
known_inside i (ParLeft n) a h = h.0
known_inside i (ParRight n) a h = h.1
known_inside i (IfTest n p) a h = h.0
known_inside i (BinLeft op n) a h = h.0
known_inside i (HeldRight n op) a h = h
known_inside i NotOf a h = h
known_inside i (AssignRight n) a h = h.1
known_inside i (ScopeBody l) a h = h
known_inside i (ReadIndex x n) a h = h.1.1
known_inside i (WriteIndex x n j) a h = h.1.1
known_inside i (ReadAt l) a h = h.1
known_inside i (WriteAt l j) a h = h.1

unfoldings_known : (i : Imports) (n : ℕ) (m t : Term) → Unfoldings n m t → Knows i m → Knows i t
unfoldings_known i zero m t h k = subst (Knows i) h k
unfoldings_known i (suc n) m t (u, h, hs) k =
    unfoldings_known i n u t hs (reached_lifted OneHead (Keeps i) (known_head i) (keeps_in i) m u h k)

acts_known : (i : Imports) (a : Act) (s s' : Store) (m t : Term) → Acts i a s s' m t → Knows i m → Knows i t
acts_known i Computing s s' m t h k = reached_lifted (Computes s s') (Keeps i) (known_row i s s') (keeps_in i) m t h k
acts_known i (Showing o) s s' m t (h, e) k = reached_lifted (OneLabel i o) (Keeps i) (known_label i o) (keeps_in i) m t h k

abbrev Known : Imports → Config → Type 0
Known i Idle = Unit {0}
Known i (Running m s) = Knows i m

move_known : (p : Program) (a : Act) (c d : Config) → Knows p.imports p.body → Move p a c d → Known p.imports c → Known p.imports d
move_known p a Idle d body (e, h) k = subst (Known p.imports) (sym h) body
move_known p a (Running m s) Idle body h k = tt
move_known p a (Running m s) (Running t u) body (n, v, hs, h) k =
    acts_known p.imports a s u v t (acts_of p.imports a s u v t h) (unfoldings_known p.imports n m v hs k)

all_known : (p : Program) (acts : List Act) (c d : Config) → Knows p.imports p.body → Moves p acts c d → Known p.imports c → Known p.imports d
all_known p [] c d body h k = subst (Known p.imports) h k
all_known p (a ∷ acts) c d body (b, h, hs) k = all_known p acts b d body hs (move_known p a c b body h k)

pub runs_known : RunsAreKnown
runs_known p acts t s body h = all_known p acts Idle (Running t s) body h tt

-- of a known name both have one type
same_type : (i j : Imports) → AreAmong i j → (x : Name) (t : Type') → import_type i x ≡ Some t → import_type j x ≡ import_type i x
same_type i j among x t h = among x t h ∙ sym h

answer_among : (i j : Imports) → AreAmong i j → (x : Name) (o : Option Type') (n k : ℕ) (t : Term) → import_type i x ≡ o → IsAnswer o n k t
    → IsAnswer (import_type j x) n k t
answer_among i j among x None n k t e h = absurd h
answer_among i j among x (Some u) n k t e h = subst (λ (o : Option Type'). IsAnswer o n k t) (sym (among x u e)) h

wider_label : (i j : Imports) → AreAmong i j → (o : Label) (a b : Term) → OneLabel i o a b → OneLabel j o a b
wider_label i j among o (Import x) b (inl (inl (h, e, et))) = inl (inl (among x Com h, e, et))
wider_label i j among o (Import x) b (inl (inr (w, h, e, et))) = inl (inr (w, among x (Exp w) h, e, et))
wider_label i j among o (Deref m) b (inl (inl (x, w, em, h, e, et))) = inl (inl (x, w, em, among x (Var w) h, e, et))
wider_label i j among o (Put m n) b (inl (inl (x, w, em, h, e, et))) = inl (inl (x, w, em, among x (Var w) h, e, et))
wider_label i j among o (Wait x n) b (inr (p, e, h)) = inr (p, e, answer_among i j among x (import_type i x) n o.value b refl h)
wider_label i j among o (Deref m) b (inl (inr (x, p, h))) =
    inl (inr (x, p, puts_as i j (λ (u : Term). Deref u) 2 0 x o.event o.value m b (λ c w array. among x (Fun (Exp c) (Var w)) array) h))
wider_label i j among o (Deref m) b (inr (x, p, h)) =
    inr (x, p, reads_as i j (λ (u : Term). Deref u) x o.event o.value m b (λ c w array. among x (Fun (Exp c) (Var w)) array) h)
wider_label i j among o (Put m n) b (inl (inr (x, p, h))) =
    inl (inr (x, p, puts_as i j (λ (u : Term). Put u n) 4 n x o.event o.value m b (λ c w array. among x (Fun (Exp c) (Var w)) array) h))
wider_label i j among o (Put m n) b (inr (x, p, h)) =
    inr (x, p, writes_as i j (λ (u : Term). Put u n) x o.event o.value m b (λ c w array. among x (Fun (Exp c) (Var w)) array) h)
wider_label i j among o a b (inl h) = absurd h
wider_label i j among o a b (inr h) = absurd h

-- the port of an access is known where the access is
abbrev KnowsPort : Imports → Name → Type 0
KnowsPort i x = (t : Type') × (import_type i x ≡ Some t)

array_known : (i j : Imports) → AreAmong i j → (x : Name) → KnowsPort i x → (c w : ℕ) → IsArrayImport j x c w → IsArrayImport i x c w
array_known i j among x (t, k) c w array = sym (same_type i j among x t k) ∙ array

narrow_label : (i j : Imports) → AreAmong i j → (o : Label) (a b : Term) → OneLabel j o a b → Knows i a → OneLabel i o a b
narrow_label i j among o (Import x) b (inl (inl (h, e, et))) (t, k) = inl (inl (sym (same_type i j among x t k) ∙ h, e, et))
narrow_label i j among o (Import x) b (inl (inr (w, h, e, et))) (t, k) = inl (inr (w, sym (same_type i j among x t k) ∙ h, e, et))
narrow_label i j among o (Deref m) b (inl (inl (x, w, em, h, e, et))) k =
    let known : Knows i (Import x) = subst (Knows i) em k in
    inl (inl (x, w, em, sym (same_type i j among x known.0 known.1) ∙ h, e, et))
narrow_label i j among o (Put m n) b (inl (inl (x, w, em, h, e, et))) k =
    let known : Knows i (Import x) = subst (Knows i) em k in
    inl (inl (x, w, em, sym (same_type i j among x known.0 known.1) ∙ h, e, et))
narrow_label i j among o (Wait x n) b (inr (p, e, h)) (t, k) =
    inr (p, e, subst (λ (y : Option Type'). IsAnswer y n o.value b) (same_type i j among x t k) h)
narrow_label i j among o (Deref m) b (inl (inr (x, p, (c, w, n', array, inl (em, ee, ek, et))))) k =
    inl (inr (x, p, (c, w, n', array_known i j among x (subst (Knows i) em k).0 c w array, inl (em, ee, ek, et))))
narrow_label i j among o (Deref m) b (inl (inr (x, p, (c, w, n', array, inr (q, em, eq, ee, et))))) k =
    inl (inr (x, p, (c, w, n', array_known i j among x (subst (Knows i) em k).0 c w array, inr (q, em, eq, ee, et))))
narrow_label i j among o (Deref m) b (inr (x, p, (c, w, n', q, array, em, rest))) k =
    inr (x, p, (c, w, n', q, array_known i j among x (subst (Knows i) em k).0 c w array, em, rest))
narrow_label i j among o (Put m n) b (inl (inr (x, p, (c, w, n', array, inl (em, ee, ek, et))))) k =
    inl (inr (x, p, (c, w, n', array_known i j among x (subst (Knows i) em k).0 c w array, inl (em, ee, ek, et))))
narrow_label i j among o (Put m n) b (inl (inr (x, p, (c, w, n', array, inr (q, em, eq, ee, et))))) k =
    inl (inr (x, p, (c, w, n', array_known i j among x (subst (Knows i) em k).0 c w array, inr (q, em, eq, ee, et))))
narrow_label i j among o (Put m n) b (inr (x, p, (c, w, n', q, array, em, rest))) k =
    inr (x, p, (c, w, n', q, array_known i j among x (subst (Knows i) em k).0 c w array, em, rest))
narrow_label i j among o a b (inl h) k = absurd h
narrow_label i j among o a b (inr h) k = absurd h

wider_acts : (i j : Imports) → AreAmong i j → (a : Act) (s : Store) (m : Term) (d : Config) → ActsTo i a s m d → ActsTo j a s m d
wider_acts i j among Computing s m Idle h = h
wider_acts i j among Computing s m (Running t u) h = h
wider_acts i j among (Showing o) s m Idle h = h
wider_acts i j among (Showing o) s m (Running t u) (h, e) =
    (reached_lifted (OneLabel i o) (Reached (OneLabel j o)) (λ x y g. inl (wider_label i j among o x y g)) (reached_plugged (OneLabel j o)) m t h, e)

abbrev Narrowed : Imports → Label → Rel
Narrowed i o a b = Knows i a → Reached (OneLabel i o) a b

narrow_acts : (i j : Imports) → AreAmong i j → (a : Act) (s : Store) (m : Term) (d : Config) → Knows i m → ActsTo j a s m d → ActsTo i a s m d
narrow_acts i j among Computing s m Idle k h = h
narrow_acts i j among Computing s m (Running t u) k h = h
narrow_acts i j among (Showing o) s m Idle k h = h
narrow_acts i j among (Showing o) s m (Running t u) k (h, e) =
    (reached_lifted (OneLabel j o) (Narrowed i o) (λ x y g known. inl (narrow_label i j among o x y g known)) lifted m t h k, e)
  where
    lifted : (c : Context) (x y : Term) → Narrowed i o x y → Narrowed i o (plug c x) (plug c y)
    lifted c x y q known = reached_plugged (OneLabel i o) c x y (q (known_inside i c x known))

pub move_widens : MoveWidens
move_widens p q a m s d among (n, v, hs, h) = (n, v, hs, wider_acts p.imports q.imports among a s v d h)

pub moves_widen : MovesWiden
moves_widen p q [] m t s u among inner h = h
moves_widen p q (a ∷ acts) m t s u among inner (Idle, h, hs) = absurd (stays_running p a acts s m inner h)
moves_widen p q (a ∷ acts) m t s u among inner (Running v w, h, hs) =
    (Running v w, move_widens p q a m s (Running v w) among h, moves_widen p q acts v t w u among (inner_rest a acts inner) hs)

pub move_narrows : MoveNarrows
move_narrows p q a m s d among known (n, v, hs, h) =
    (n, v, hs, narrow_acts p.imports q.imports among a s v d (unfoldings_known p.imports n m v hs known) h)

pub waits_widely : WaitsWidely
waits_widely p q m s among known stalled = (
  λ d h. stalled.0 d (move_narrows p q Computing m s d among known h),
  λ o d out h. stalled.1 o d out (move_narrows p q (Showing o) m s d among known h),
)
