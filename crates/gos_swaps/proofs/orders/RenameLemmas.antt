-- Renaming twice, renaming by nothing, and what happens at a path under other names.
use Rattle.std.specs.Prelude.{◌≡◌, ℕ, zero, suc, List, [], ◌∷◌, ◌++◌, Contains, Option, Some}
use Rattle.std.proofs.Common.{refl, ap, inl, inr, ◌∙◌}
use Rattle.gos_types.specs.Types.{Type', Com, Exp, Var}
use Rattle.gos_model.specs.Terms.{Name, Term, Skip, Lit, Bound, Import, Lam, App, Both, Fst, Snd, Seq, Par, If, While, Assign, Deref, New, Not, Bin, Loc, Scope, Wait, Held, Put, NewArray, Arr}
use Rattle.gos_model.specs.Typing.{Imports, Thing, Named, Place, things, import_type}
use Rattle.gos_model.specs.Reach.{Rel, Rewrites}
use Rattle.gos_model.specs.Paths.{ReachedAt}
use Rattle.gos_model.specs.Labels.{Label, IsAnswer}
use Rattle.gos_model.proofs.AccessMapLemmas.{GoesInto, puts_mapped, reads_mapped, writes_mapped}
use Rattle.gos_programs.specs.contexts.Contexts.{Context, SeqFirst, ParLeft, ParRight, IfTest, BinLeft, HeldRight, NotOf, AssignRight, ScopeBody, ReadIndex, WriteIndex, plug, plug_all, ReadAt, WriteAt}
use Rattle.gos_programs.specs.contexts.Renaming.{renamed}
use Rattle.gos_programs.proofs.contexts.BackwardLemmas.{OneLabel}
use Rattle.gos_programs.proofs.contexts.RenamedLemmas.{renamed_put}
use Rattle.gos_swaps.specs.doings.Heads.{UnderAt, HeadAt}
use Rattle.gos_swaps.specs.doings.Sides.{way}
use Rattle.gos_swaps.proofs.doings.PlaceLemmas.{HeadHere, reached_lifted_at, head_lifted_at}
use Rattle.gos_swaps.proofs.proper.ThingLemmas.{there, left_part, right_part, within}

-- two renamings are one
pub renamed_on : (q r : ℕ → ℕ) (m : Term) → renamed q (renamed r m) ≡ renamed (λ l. q (r l)) m
renamed_on q r Skip = refl
renamed_on q r (Lit k w) = refl
renamed_on q r (Bound n) = refl
renamed_on q r (Import x) = refl
renamed_on q r (Lam a m) = λ i. Lam a (renamed_on q r m i)
renamed_on q r (App m n) = λ i. App (renamed_on q r m i) (renamed_on q r n i)
renamed_on q r (Both m n) = λ i. Both (renamed_on q r m i) (renamed_on q r n i)
renamed_on q r (Fst m) = λ i. Fst (renamed_on q r m i)
renamed_on q r (Snd m) = λ i. Snd (renamed_on q r m i)
renamed_on q r (Seq m n) = λ i. Seq (renamed_on q r m i) (renamed_on q r n i)
renamed_on q r (Par m n) = λ i. Par (renamed_on q r m i) (renamed_on q r n i)
renamed_on q r (If m n p) = λ i. If (renamed_on q r m i) (renamed_on q r n i) (renamed_on q r p i)
renamed_on q r (While m n) = λ i. While (renamed_on q r m i) (renamed_on q r n i)
renamed_on q r (Assign m n) = λ i. Assign (renamed_on q r m i) (renamed_on q r n i)
renamed_on q r (Deref m) = λ i. Deref (renamed_on q r m i)
renamed_on q r (New w m) = λ i. New w (renamed_on q r m i)
renamed_on q r (NewArray n w m) = λ i. NewArray n w (renamed_on q r m i)
renamed_on q r (Not m) = λ i. Not (renamed_on q r m i)
renamed_on q r (Bin op m n) = λ i. Bin op (renamed_on q r m i) (renamed_on q r n i)
renamed_on q r (Loc l) = refl
renamed_on q r (Arr l) = refl
renamed_on q r (Scope l m) = λ i. Scope (q (r l)) (renamed_on q r m i)
renamed_on q r (Wait x s) = refl
renamed_on q r (Held k op n) = λ i. Held k op (renamed_on q r n i)
renamed_on q r (Put m k) = λ i. Put (renamed_on q r m i) k

-- the renaming leaves these locations
abbrev pub Fixes : (ℕ → ℕ) → List Thing → Type 0
Fixes r xs = (l : ℕ) → Contains xs (Place l) → r l ≡ l

fixes_left : (r : ℕ → ℕ) (xs ys : List Thing) → Fixes r (xs ++ ys) → Fixes r xs
fixes_left r xs ys f l h = f l (left_part xs ys (Place l) h)

fixes_right : (r : ℕ → ℕ) (xs ys : List Thing) → Fixes r (xs ++ ys) → Fixes r ys
fixes_right r xs ys f l h = f l (right_part xs ys (Place l) h)

-- so it leaves the term
pub fixed : (r : ℕ → ℕ) (m : Term) (c : ℕ) → Fixes r (things c m) → renamed r m ≡ m
fixed r Skip c f = refl
fixed r (Lit k w) c f = refl
fixed r (Bound n) c f = refl
fixed r (Import x) c f = refl
fixed r (Lam a m) c f = λ i. Lam a (fixed r m (suc c) f i)
fixed r (App m n) c f =
    λ i. App (fixed r m c (fixes_left r (things c m) (things c n) f) i) (fixed r n c (fixes_right r (things c m) (things c n) f) i)
fixed r (Both m n) c f =
    λ i. Both (fixed r m c (fixes_left r (things c m) (things c n) f) i) (fixed r n c (fixes_right r (things c m) (things c n) f) i)
fixed r (Fst m) c f = λ i. Fst (fixed r m c f i)
fixed r (Snd m) c f = λ i. Snd (fixed r m c f i)
fixed r (Seq m n) c f =
    λ i. Seq (fixed r m c (fixes_left r (things c m) (things c n) f) i) (fixed r n c (fixes_right r (things c m) (things c n) f) i)
fixed r (Par m n) c f =
    λ i. Par (fixed r m c (fixes_left r (things c m) (things c n) f) i) (fixed r n c (fixes_right r (things c m) (things c n) f) i)
fixed r (If m n p) c f =
    let rest : Fixes r (things c n ++ things c p) = fixes_right r (things c m) (things c n ++ things c p) f in
    λ i. If
    (fixed r m c (fixes_left r (things c m) (things c n ++ things c p) f) i)
    (fixed r n c (fixes_left r (things c n) (things c p) rest) i)
    (fixed r p c (fixes_right r (things c n) (things c p) rest) i)
fixed r (While m n) c f =
    λ i. While (fixed r m c (fixes_left r (things c m) (things c n) f) i) (fixed r n c (fixes_right r (things c m) (things c n) f) i)
fixed r (Assign m n) c f =
    λ i. Assign (fixed r m c (fixes_left r (things c m) (things c n) f) i) (fixed r n c (fixes_right r (things c m) (things c n) f) i)
fixed r (Deref m) c f = λ i. Deref (fixed r m c f i)
fixed r (New w m) c f = λ i. New w (fixed r m (suc c) f i)
fixed r (NewArray n w m) c f = λ i. NewArray n w (fixed r m (suc c) f i)
fixed r (Not m) c f = λ i. Not (fixed r m c f i)
fixed r (Bin op m n) c f =
    λ i. Bin op (fixed r m c (fixes_left r (things c m) (things c n) f) i) (fixed r n c (fixes_right r (things c m) (things c n) f) i)
fixed r (Loc l) c f = λ i. Loc (f l (there (Place l)) i)
fixed r (Arr l) c f = λ i. Arr (f l (there (Place l)) i)
fixed r (Scope l m) c f =
    λ i. Scope (f l (left_part (Place l ∷ []) (things c m) (Place l) (there (Place l))) i) (fixed r m c (fixes_right r (Place l ∷ []) (things c m) f) i)
fixed r (Wait x s) c f = refl
fixed r (Held k op n) c f = λ i. Held k op (fixed r n c f i)
fixed r (Put m k) c f = λ i. Put (fixed r m c f i) k

pub renamed_same : (m : Term) → renamed (λ l. l) m ≡ m
renamed_same m = fixed (λ l. l) m 0 (λ l h. refl)

pub renamed_back : (q r : ℕ → ℕ) → ((l : ℕ) → q (r l) ≡ l) → (m : Term) → renamed q (renamed r m) ≡ m
renamed_back q r back m = renamed_on q r m ∙ fixed (λ l. q (r l)) m 0 (λ l h. back l)

-- and it leaves what stands beside the term of a context
pub around_one : (r : ℕ → ℕ) (c : Context) (x y : Term) → Fixes r (things 0 (plug c x)) → renamed r (plug c y) ≡ plug c (renamed r y)
around_one r (SeqFirst n) x y f = λ i. Seq (renamed r y) (fixed r n 0 (fixes_right r (things 0 x) (things 0 n) f) i)
around_one r (ParLeft n) x y f = λ i. Par (renamed r y) (fixed r n 0 (fixes_right r (things 0 x) (things 0 n) f) i)
around_one r (ParRight n) x y f = λ i. Par (fixed r n 0 (fixes_left r (things 0 n) (things 0 x) f) i) (renamed r y)
around_one r (IfTest n p) x y f =
    let rest : Fixes r (things 0 n ++ things 0 p) = fixes_right r (things 0 x) (things 0 n ++ things 0 p) f in
    λ i. If (renamed r y) (fixed r n 0 (fixes_left r (things 0 n) (things 0 p) rest) i) (fixed r p 0 (fixes_right r (things 0 n) (things 0 p) rest) i)
around_one r (BinLeft op n) x y f = λ i. Bin op (renamed r y) (fixed r n 0 (fixes_right r (things 0 x) (things 0 n) f) i)
around_one r (HeldRight k op) x y f = refl
around_one r NotOf x y f = refl
around_one r (AssignRight n) x y f = λ i. Assign (fixed r n 0 (fixes_left r (things 0 n) (things 0 x) f) i) (renamed r y)
around_one r (ScopeBody l) x y f = λ i. Scope (f l (left_part (Place l ∷ []) (things 0 x) (Place l) (there (Place l))) i) (renamed r y)
around_one r (ReadIndex z n) x y f =
    let left : Fixes r (things 0 n) = fixes_left r (things 0 n) (things 0 x) (fixes_right r (Named z ∷ []) (things 0 n ++ things 0 x) f) in
    λ i. Deref (App (Wait z 0) (Both (fixed r n 0 left i) (renamed r y)))
around_one r (WriteIndex z n k) x y f =
    let left : Fixes r (things 0 n) = fixes_left r (things 0 n) (things 0 x) (fixes_right r (Named z ∷ []) (things 0 n ++ things 0 x) f) in
    λ i. Put (App (Wait z 0) (Both (fixed r n 0 left i) (renamed r y))) k
around_one r (ReadAt l) x y f =
    λ i. Deref (App (Arr (f l (left_part (Place l ∷ []) (things 0 x) (Place l) (there (Place l))) i)) (renamed r y))
around_one r (WriteAt l k) x y f =
    λ i. Put (App (Arr (f l (left_part (Place l ∷ []) (things 0 x) (Place l) (there (Place l))) i)) (renamed r y)) k

pub around_all : (r : ℕ → ℕ) (cs : List Context) (x y : Term) → Fixes r (things 0 (plug_all cs x)) → renamed r (plug_all cs y) ≡ plug_all cs (renamed r y)
around_all r [] x y f = refl
around_all r (c ∷ cs) x y f =
    around_one r c (plug_all cs x) (plug_all cs y) f
    ∙ ap (plug c) (around_all r cs x y (λ l h. f l (within c (plug_all cs x) (Place l) h)))

-- what happens at a path
pub reached_renamed_in : (r : ℕ → ℕ) (R : Rel) (c : Context) (path : List ℕ) (a b : Term) → ReachedAt path R (renamed r a) (renamed r b)
    → ReachedAt (way c ++ path) R (renamed r (plug c a)) (renamed r (plug c b))
reached_renamed_in r R (SeqFirst n) path a b h = (renamed r b, refl, h)
reached_renamed_in r R (ParLeft n) path a b h = (renamed r b, refl, h)
reached_renamed_in r R (ParRight n) path a b h = (renamed r b, refl, h)
reached_renamed_in r R (IfTest n p) path a b h = (renamed r b, refl, h)
reached_renamed_in r R (BinLeft op n) path a b h = (renamed r b, refl, h)
reached_renamed_in r R (HeldRight k op) path a b h = (renamed r b, refl, h)
reached_renamed_in r R NotOf path a b h = (renamed r b, refl, h)
reached_renamed_in r R (AssignRight n) path a b h = (renamed r b, refl, h)
reached_renamed_in r R (ScopeBody l) path a b h = (renamed r b, refl, h)
reached_renamed_in r R (ReadIndex x n) path a b h = (App (Wait x 0) (Both (renamed r n) (renamed r b)), refl, inl ((x, refl), renamed r b, refl, h))
reached_renamed_in r R (WriteIndex x n k) path a b h = (App (Wait x 0) (Both (renamed r n) (renamed r b)), refl, inl ((x, refl), renamed r b, refl, h))
reached_renamed_in r R (ReadAt l) path a b h = (App (Arr (r l)) (renamed r b), refl, inr ((r l, refl), renamed r b, refl, h))
reached_renamed_in r R (WriteAt l k) path a b h = (App (Arr (r l)) (renamed r b), refl, inr ((r l, refl), renamed r b, refl, h))

head_in : (r : ℕ → ℕ) (R : Rel) (c : Context) (path : List ℕ) (a b : Term) → HeadAt path R (renamed r a) (renamed r b)
    → HeadAt (way c ++ path) R (renamed r (plug c a)) (renamed r (plug c b))
head_in r R (SeqFirst n) path a b h = (renamed r b, refl, h)
head_in r R (ParLeft n) path a b h = (renamed r b, refl, h)
head_in r R (ParRight n) path a b h = (renamed r b, refl, h)
head_in r R (IfTest n p) path a b h = (renamed r b, refl, h)
head_in r R (BinLeft op n) path a b h = (renamed r b, refl, h)
head_in r R (HeldRight k op) path a b h = (renamed r b, refl, h)
head_in r R NotOf path a b h = (renamed r b, refl, h)
head_in r R (AssignRight n) path a b h = (renamed r b, refl, h)
head_in r R (ScopeBody l) path a b h = (renamed r b, refl, h)
head_in r R (ReadIndex x n) path a b h = (App (Wait x 0) (Both (renamed r n) (renamed r b)), refl, inr (inl ((x, refl), renamed r b, refl, h)))
head_in r R (WriteIndex x n k) path a b h = (App (Wait x 0) (Both (renamed r n) (renamed r b)), refl, inr (inl ((x, refl), renamed r b, refl, h)))
head_in r R (ReadAt l) path a b h = (App (Arr (r l)) (renamed r b), refl, inr (inr ((r l, refl), renamed r b, refl, h)))
head_in r R (WriteAt l k) path a b h = (App (Arr (r l)) (renamed r b), refl, inr (inr ((r l, refl), renamed r b, refl, h)))

-- an unfolding
rewrites_renamed : (r : ℕ → ℕ) (m t : Term) → Rewrites m t → Rewrites (renamed r m) (renamed r t)
rewrites_renamed r (App m n) t (a, b, em, et) = (a, renamed r b, ap (renamed r) em, ap (renamed r) et ∙ renamed_put r b 0 n)
rewrites_renamed r (Fst m) t (n, e) = (renamed r n, ap (renamed r) e)
rewrites_renamed r (Snd m) t (n, e) = (renamed r n, ap (renamed r) e)
rewrites_renamed r m t h = absurd h

under_renamed : (r : ℕ → ℕ) (path : List ℕ) (m t : Term) → UnderAt path Rewrites m t → UnderAt path Rewrites (renamed r m) (renamed r t)
under_renamed r [] m t h = rewrites_renamed r m t h
under_renamed r (zero ∷ path) (App m n) t (m', e, h) = (renamed r m', ap (renamed r) e, under_renamed r path m m' h)
under_renamed r (zero ∷ path) (Fst m) t (m', e, h) = (renamed r m', ap (renamed r) e, under_renamed r path m m' h)
under_renamed r (zero ∷ path) (Snd m) t (m', e, h) = (renamed r m', ap (renamed r) e, under_renamed r path m m' h)
under_renamed r (i ∷ path) m t h = absurd h

head_here_renamed : (r : ℕ → ℕ) (rest : List ℕ) (m t : Term) → HeadHere Rewrites rest m t → HeadAt rest Rewrites (renamed r m) (renamed r t)
head_here_renamed r [] m t h = rewrites_renamed r m t h
head_here_renamed r (zero ∷ rest) (App m n) t (m', e, h) = (renamed r m', ap (renamed r) e, under_renamed r rest m m' h)
head_here_renamed r (zero ∷ rest) (Fst m) t (m', e, h) = (renamed r m', ap (renamed r) e, under_renamed r rest m m' h)
head_here_renamed r (zero ∷ rest) (Snd m) t (m', e, h) = (renamed r m', ap (renamed r) e, under_renamed r rest m m' h)
head_here_renamed r (zero ∷ rest) (Put m k) t (m', e, h) = (renamed r m', ap (renamed r) e, inl (under_renamed r rest m m' h))
head_here_renamed r (zero ∷ rest) (Deref m) t (m', e, h) = (renamed r m', ap (renamed r) e, inl (under_renamed r rest m m' h))
head_here_renamed r (i ∷ rest) m t h = absurd h

pub head_renamed : (r : ℕ → ℕ) (path : List ℕ) (m t : Term) → HeadAt path Rewrites m t → HeadAt path Rewrites (renamed r m) (renamed r t)
head_renamed r path m t h =
    head_lifted_at Rewrites (λ (p : List ℕ) (a b : Term). HeadAt p Rewrites (renamed r a) (renamed r b)) (head_here_renamed r) (head_in r Rewrites) path m t h

-- a label
answer_renamed : (r : ℕ → ℕ) (o : Option Type') (n k : ℕ) (t : Term) → IsAnswer o n k t → IsAnswer o n k (renamed r t)
answer_renamed r (Some Com) (suc zero) k t h = (h.0, ap (renamed r) h.1)
answer_renamed r (Some (Exp w)) (suc zero) k t h = (h.0, ap (renamed r) h.1)
answer_renamed r (Some (Var w)) (suc zero) k t h = (h.0, ap (renamed r) h.1)
answer_renamed r (Some (Var w)) (suc (suc (suc zero))) k t h = (h.0, ap (renamed r) h.1)
answer_renamed r o n k t h = absurd h

-- renaming goes into accesses
goes_read : (r : ℕ → ℕ) (x : Name) → GoesInto (renamed r) (λ (u : Term). Deref u) x
goes_read r x =
    record { app = λ h n. refl; both = λ m n. refl; access = λ m. refl; skip = refl; literal = λ k w. refl; import = refl; wait = λ s. refl }

goes_write : (r : ℕ → ℕ) (x : Name) (j : ℕ) → GoesInto (renamed r) (λ (u : Term). Put u j) x
goes_write r x j =
    record { app = λ h n. refl; both = λ m n. refl; access = λ m. refl; skip = refl; literal = λ k w. refl; import = refl; wait = λ s. refl }

label_here_renamed : (r : ℕ → ℕ) (i : Imports) (o : Label) (a b : Term) → OneLabel i o a b → OneLabel i o (renamed r a) (renamed r b)
label_here_renamed r i o (Import x) b (inl (inl (h, e, et))) = inl (inl (h, e, ap (renamed r) et))
label_here_renamed r i o (Import x) b (inl (inr (w, h, e, et))) = inl (inr (w, h, e, ap (renamed r) et))
label_here_renamed r i o (Deref m) b (inl (inl (x, w, em, h, e, et))) = inl (inl (x, w, ap (renamed r) em, h, e, ap (renamed r) et))
label_here_renamed r i o (Put m n) b (inl (inl (x, w, em, h, e, et))) = inl (inl (x, w, ap (renamed r) em, h, e, ap (renamed r) et))
label_here_renamed r i o (Deref m) b (inl (inr (x, p, h))) =
    inl (inr (x, p, puts_mapped i i (renamed r) (λ (u : Term). Deref u) x (goes_read r x) refl 2 0 o.event o.value m b h))
label_here_renamed r i o (Put m n) b (inl (inr (x, p, h))) =
    inl (inr (x, p, puts_mapped i i (renamed r) (λ (u : Term). Put u n) x (goes_write r x n) refl 4 n o.event o.value m b h))
label_here_renamed r i o (Deref m) b (inr (x, p, h)) =
    inr (x, p, reads_mapped i i (renamed r) (λ (u : Term). Deref u) x (goes_read r x) refl o.event o.value m b h)
label_here_renamed r i o (Put m n) b (inr (x, p, h)) =
    inr (x, p, writes_mapped i i (renamed r) (λ (u : Term). Put u n) x (goes_write r x n) refl o.event o.value m b h)
label_here_renamed r i o (Wait x n) b (inr (p, e, h)) = inr (p, e, answer_renamed r (import_type i x) n o.value b h)
label_here_renamed r i o a b (inl h) = absurd h
label_here_renamed r i o a b (inr h) = absurd h

pub label_renamed : (r : ℕ → ℕ) (i : Imports) (o : Label) (path : List ℕ) (m t : Term) → ReachedAt path (OneLabel i o) m t
    → ReachedAt path (OneLabel i o) (renamed r m) (renamed r t)
label_renamed r i o path m t h =
    reached_lifted_at (OneLabel i o) (λ (p : List ℕ) (a b : Term). ReachedAt p (OneLabel i o) (renamed r a) (renamed r b))
    (label_here_renamed r i o) (reached_renamed_in r (OneLabel i o)) path m t h
