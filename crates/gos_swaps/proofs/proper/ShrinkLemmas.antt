-- Nothing becomes free but a new location, and parts stay apart.
use Rattle.std.specs.Prelude.{◌≡◌, ◌⊎◌, ◌+◌, ℕ, zero, suc, true, List, [], ◌∷◌, ◌++◌, Contains, Option, Some, None}
use Rattle.std.proofs.Common.{arith, refl, sym, subst, inl, inr}
use Rattle.gos_types.specs.Types.{Type', Com, Exp, Var}
use Rattle.gos_model.specs.Terms.{Name, Term, Skip, Lit, Import, Lam, App, Both, Fst, Snd, Seq, Par, If, While, Assign, Deref, New, Not, Bin, Loc, Scope, Wait, Held, Put, NewArray, Arr}
use Rattle.gos_model.specs.Substitution.{instantiate}
use Rattle.gos_model.specs.Stores.{Store, entry_at}
use Rattle.gos_model.specs.Typing.{Imports, Thing, Variable, Named, Place, things, Apart, import_type}
use Rattle.gos_model.specs.Reach.{Rel, Rewrites, Under, Unfolds}
use Rattle.gos_model.specs.Steps.{Computes}
use Rattle.gos_model.specs.Accesses.{AccessPuts, ReadEnds, WriteEnds, AccessTakes}
use Rattle.gos_model.specs.Labels.{Label, IsAnswer}
use Rattle.gos_model.specs.Moves.{Act, Computing, Showing, Acts}
use Rattle.gos_programs.specs.contexts.Contexts.{Context, SeqFirst, ParLeft, ParRight, IfTest, BinLeft, HeldRight, NotOf, AssignRight, ScopeBody, ReadIndex, WriteIndex, plug, ReadAt, WriteAt}
use Rattle.gos_programs.specs.contexts.Standing.{StandsIn}
use Rattle.gos_programs.proofs.contexts.BackwardLemmas.{OneHead, OneLabel}
use Rattle.gos_programs.proofs.contexts.ReachedLemmas.{reached_lifted}
use Rattle.gos_programs.proofs.contexts.StoreLemmas.{not_both}
use Rattle.gos_swaps.specs.proper.Proper.{PartsApart, IsClosed, IsNew, UnfoldingsShrink, UnfoldingsKeepApart, ActsShrink, ActsKeepApart}
use Rattle.gos_swaps.proofs.proper.ThingLemmas.{only_one, nothing, left_part, right_part, by_parts, has, present, seen, steady, closed_things, within, place_present}
use Rattle.gos_swaps.proofs.proper.PutLemmas.{IsOther, PutThing, things_put, apart_put}

-- things that may come
abbrev Things : Type 1
Things = Thing → Type 0

-- b has the things of a, and of what may come
abbrev Shrinks : Things → Rel
Shrinks N a b = (x : Thing) → Contains (things 0 b) x → Contains (things 0 a) x ⊎ N x

-- nothing that may come is there
abbrev Lacks : Things → Term → Type 0
Lacks N m = (x : Thing) → N x → Contains (things 0 m) x → ⊥

-- Of a change of a closed term: what is free, and that parts stay apart where nothing that may come is there.
abbrev Keeps : Things → Rel
Keeps N a b = IsClosed a → Shrinks N a b × (PartsApart a → Lacks N a → PartsApart b)

-- of one part of two
shrink_left : (N : Things) (xs ys zs : List Thing) (x : Thing) → (Contains ys x → Contains xs x ⊎ N x) → Contains (ys ++ zs) x
    → Contains (xs ++ zs) x ⊎ N x
shrink_left N xs ys zs x f h = by_parts ys zs x (λ k. of_first (f k)) (λ k. inl (right_part xs zs x k)) h
  where
    of_first : Contains xs x ⊎ N x → Contains (xs ++ zs) x ⊎ N x
    of_first (inl k) = inl (left_part xs zs x k)
    of_first (inr n) = inr n

shrink_right : (N : Things) (xs ys zs : List Thing) (x : Thing) → (Contains ys x → Contains xs x ⊎ N x) → Contains (zs ++ ys) x
    → Contains (zs ++ xs) x ⊎ N x
shrink_right N xs ys zs x f h = by_parts zs ys x (λ k. inl (left_part zs xs x k)) (λ k. of_second (f k)) h
  where
    of_second : Contains xs x ⊎ N x → Contains (zs ++ xs) x ⊎ N x
    of_second (inl k) = inl (right_part zs xs x k)
    of_second (inr n) = inr n

-- of the index of an access
shrink_index : (N : Things) (y : Name) (n a b : Term) → Shrinks N a b → Shrinks N (App (Wait y 0) (Both n a)) (App (Wait y 0) (Both n b))
shrink_index N y n a b f x h =
    shrink_right N (things 0 n ++ things 0 a) (things 0 n ++ things 0 b) (Named y ∷ []) x (shrink_right N (things 0 a) (things 0 b) (things 0 n) x (f x)) h

shrink_in : (N : Things) (c : Context) (a b : Term) → Shrinks N a b → Shrinks N (plug c a) (plug c b)
shrink_in N (SeqFirst n) a b f x h = shrink_left N (things 0 a) (things 0 b) (things 0 n) x (f x) h
shrink_in N (ParLeft n) a b f x h = shrink_left N (things 0 a) (things 0 b) (things 0 n) x (f x) h
shrink_in N (ParRight n) a b f x h = shrink_right N (things 0 a) (things 0 b) (things 0 n) x (f x) h
shrink_in N (IfTest n p) a b f x h = shrink_left N (things 0 a) (things 0 b) (things 0 n ++ things 0 p) x (f x) h
shrink_in N (BinLeft op n) a b f x h = shrink_left N (things 0 a) (things 0 b) (things 0 n) x (f x) h
shrink_in N (HeldRight k op) a b f x h = f x h
shrink_in N NotOf a b f x h = f x h
shrink_in N (AssignRight n) a b f x h = shrink_right N (things 0 a) (things 0 b) (things 0 n) x (f x) h
shrink_in N (ScopeBody l) a b f x h = shrink_right N (things 0 a) (things 0 b) (Place l ∷ []) x (f x) h
shrink_in N (ReadIndex y n) a b f x h = shrink_index N y n a b f x h
shrink_in N (WriteIndex y n k) a b f x h = shrink_index N y n a b f x h
shrink_in N (ReadAt l) a b f x h = shrink_right N (things 0 a) (things 0 b) (Place l ∷ []) x (f x) h
shrink_in N (WriteAt l k) a b f x h = shrink_right N (things 0 a) (things 0 b) (Place l ∷ []) x (f x) h

-- what shared nothing with the part shares nothing with what it becomes
still_apart : (N : Things) (a b n : Term) → Shrinks N a b → Lacks N n → Apart a n → Apart b n
still_apart N a b n f lacks apart x h k = by_shrinking (f x h)
  where
    by_shrinking : Contains (things 0 a) x ⊎ N x → ⊥
    by_shrinking (inl g) = apart x g k
    by_shrinking (inr g) = lacks x g k

lacks_left : (N : Things) (xs : List Thing) (m mn : Term) → things 0 mn ≡ things 0 m ++ xs → Lacks N mn → Lacks N m
lacks_left N xs m mn e lacks x n h = lacks x n (subst (λ (z : List Thing). Contains z x) (sym e) (left_part (things 0 m) xs x h))

lacks_right : (N : Things) (xs : List Thing) (n mn : Term) → things 0 mn ≡ xs ++ things 0 n → Lacks N mn → Lacks N n
lacks_right N xs n mn e lacks x k h = lacks x k (subst (λ (z : List Thing). Contains z x) (sym e) (right_part xs (things 0 n) x h))

-- the parts of an access stay apart, whatever happens in its index
index_parts :
    (N : Things) (y : Name) (n a b : Term) → PartsApart (App (Wait y 0) (Both n a)) → Shrinks N a b → Lacks N (App (Wait y 0) (Both n a))
    → (PartsApart a → PartsApart b) → PartsApart (App (Wait y 0) (Both n b))
index_parts N y n a b (apart, bare, (p, o)) f lacks g =
    let inner : Shrinks N (Both n a) (Both n b) = λ x h. shrink_right N (things 0 a) (things 0 b) (things 0 n) x (f x) h in
    let other : Apart (Both n b) (Wait y 0) =
    still_apart N (Both n a) (Both n b) (Wait y 0) inner (λ x k h. lacks x k (left_part (Named y ∷ []) (things 0 n ++ things 0 a) x h))
    (λ x h k. apart x k h) in
    ((λ x h k. other x k h), bare, (p, g o))

array_parts : (N : Things) (l : ℕ) (a b : Term) → PartsApart (App (Arr l) a) → Shrinks N a b → Lacks N (App (Arr l) a)
    → (PartsApart a → PartsApart b) → PartsApart (App (Arr l) b)
array_parts N l a b (apart, bare, o) f lacks g =
    let other : Apart b (Arr l) =
    still_apart N a b (Arr l) f (λ x k h. lacks x k (left_part (Place l ∷ []) (things 0 a) x h)) (λ x h k. apart x k h) in
    ((λ x h k. other x k h), bare, g o)

keeps_in : (N : Things) (c : Context) (a b : Term) → Keeps N a b → Keeps N (plug c a) (plug c b)
keeps_in N c a b q closed =
    let k = q (λ n h. closed n (within c a (Variable n) h)) in
    (shrink_in N c a b k.0, λ p lacks. parts c p k.0 lacks (λ o. k.1 o (λ x n h. lacks x n (within c a x h))))
  where
    parts : (c : Context) → PartsApart (plug c a) → Shrinks N a b → Lacks N (plug c a) → (PartsApart a → PartsApart b) → PartsApart (plug c b)
    parts (SeqFirst n) (p, o) f lacks g = (g p, o)
    parts (ParLeft n) (apart, p, o) f lacks g =
        (still_apart N a b n f (lacks_right N (things 0 a) n (Par a n) refl lacks) apart, g p, o)
    parts (ParRight n) (apart, p, o) f lacks g =
        let other : Apart b n = still_apart N a b n f (lacks_left N (things 0 a) n (Par n a) refl lacks) (λ x h k. apart x k h) in
        ((λ x h k. other x k h), p, g o)
    parts (IfTest n m) (p, o, r) f lacks g = (g p, o, r)
    parts (BinLeft op n) (p, o) f lacks g = (g p, o)
    parts (HeldRight k op) p f lacks g = g p
    parts NotOf p f lacks g = g p
    parts (AssignRight n) (p, o) f lacks g = (p, g o)
    parts (ScopeBody l) p f lacks g = g p
    parts (ReadIndex y n) p f lacks g = index_parts N y n a b p f lacks g
    parts (WriteIndex y n k) p f lacks g = index_parts N y n a b p f lacks g
    parts (ReadAt l) p f lacks g = array_parts N l a b p f lacks g
    parts (WriteAt l k) p f lacks g = array_parts N l a b p f lacks g

-- under a binder whose variable is gone
under_binder : (m : Term) (x : Thing) → IsClosed (Lam Com m) → IsOther 0 0 x → Contains (things 0 m) x → Contains (things 1 m) x
under_binder m (Variable zero) closed other h = absurd (other refl)
under_binder m (Variable (suc e)) closed other h =
    let same : 0 + suc e ≡ 1 + e = omega arith in
    absurd (closed e (present m 1 e (subst (λ (z : ℕ). has z m ≡ true) same (seen m 0 (suc e) h))))
under_binder m (Named y) closed other h = steady m 0 1 (Named y) tt h
under_binder m (Place l) closed other h = steady m 0 1 (Place l) tt h

-- heads
function_keeps : (N : Things) (a : Type') (b n : Term) → Keeps N (App (Lam a b) n) (instantiate b n)
function_keeps N a b n closed = (shrinks, apart)
  where
    closed_right : IsClosed n
    closed_right k h = closed k (right_part (things 1 b) (things 0 n) (Variable k) h)

    closed_left : IsClosed (Lam Com b)
    closed_left k h = closed k (left_part (things 1 b) (things 0 n) (Variable k) h)

    shrinks : Shrinks N (App (Lam a b) n) (instantiate b n)
    shrinks x h = by_putting (things_put b 0 0 n x closed_right h)
      where
        by_putting : PutThing 0 0 n b x → Contains (things 1 b ++ things 0 n) x ⊎ N x
        by_putting (inl (k, other)) = inl (left_part (things 1 b) (things 0 n) x (under_binder b x closed_left other k))
        by_putting (inr (is, k, w)) = inl (right_part (things 1 b) (things 0 n) x k)

    apart : PartsApart (App (Lam a b) n) → Lacks N (App (Lam a b) n) → PartsApart (instantiate b n)
    apart (other, p, o) lacks =
        apart_put b 0 n closed_right (λ x h k. other x (steady b 0 1 x (closed_things n 0 x closed_right k).0 h) k) p o

rewrites_keep : (N : Things) (m t : Term) → Rewrites m t → Keeps N m t
rewrites_keep N (App m n) t (a, b, em, et) =
    subst (λ (z : Term). Keeps N (App z n) t) (sym em) (subst (λ (z : Term). Keeps N (App (Lam a b) n) z) (sym et) (function_keeps N a b n))
rewrites_keep N (Fst m) t (n, e) =
    subst (λ (z : Term). Keeps N (Fst z) t) (sym e)
    (λ closed. ((λ x h. inl (left_part (things 0 t) (things 0 n) x h)), (λ p lacks. p.0)))
rewrites_keep N (Snd m) t (n, e) =
    subst (λ (z : Term). Keeps N (Snd z) t) (sym e)
    (λ closed. ((λ x h. inl (right_part (things 0 n) (things 0 t) x h)), (λ p lacks. p.1)))
rewrites_keep N m t h = absurd h

function_part : (N : Things) (m m' n : Term) → Keeps N m m' → Keeps N (App m n) (App m' n)
function_part N m m' n q closed =
    let k = q (λ j h. closed j (left_part (things 0 m) (things 0 n) (Variable j) h)) in (
      (λ x h. shrink_left N (things 0 m) (things 0 m') (things 0 n) x (k.0 x) h),
      (λ p lacks. (
        still_apart N m m' n k.0 (lacks_right N (things 0 m) n (App m n) refl lacks) p.0,
        k.1 p.1 (lacks_left N (things 0 n) m (App m n) refl lacks),
        p.2,
      )),
    )

lower_keeps : (N : Things) (m t : Term) → Rewrites m t ⊎ Under Rewrites m t → Keeps N m t
lower_keeps N m t (inl h) = rewrites_keep N m t h
lower_keeps N (App m n) t (inr (m', e, h)) =
    subst (λ (z : Term). Keeps N (App m n) z) (sym e) (function_part N m m' n (lower_keeps N m m' h))
lower_keeps N (Fst m) t (inr (m', e, h)) = subst (λ (z : Term). Keeps N (Fst m) z) (sym e) (lower_keeps N m m' h)
lower_keeps N (Snd m) t (inr (m', e, h)) = subst (λ (z : Term). Keeps N (Snd m) z) (sym e) (lower_keeps N m m' h)
lower_keeps N m t (inr h) = absurd h

head_keeps : (N : Things) (m t : Term) → OneHead m t → Keeps N m t
head_keeps N m t (inl h) = lower_keeps N m t h
head_keeps N (Put m k) t (inr (m', e, h)) = subst (λ (z : Term). Keeps N (Put m k) z) (sym e) (lower_keeps N m m' h)
head_keeps N (Deref m) t (inr (m', e, h)) = subst (λ (z : Term). Keeps N (Deref m) z) (sym e) (lower_keeps N m m' h)
head_keeps N m t (inr h) = absurd h

-- computation
to_row : (N : Things) (a b c : Term) → b ≡ c → Keeps N a c → Keeps N a b
to_row N a b c e k = subst (λ (z : Term). Keeps N a z) (sym e) k

loop_things : (m n : Term) (x : Thing) → Contains (things 0 m ++ ((things 0 n ++ (things 0 m ++ things 0 n)) ++ [])) x
    → Contains (things 0 m ++ things 0 n) x
loop_things m n x h =
    by_parts (things 0 m) ((things 0 n ++ (things 0 m ++ things 0 n)) ++ []) x (left_part (things 0 m) (things 0 n) x)
    (by_parts (things 0 n ++ (things 0 m ++ things 0 n)) [] x
    (by_parts (things 0 n) (things 0 m ++ things 0 n) x (right_part (things 0 m) (things 0 n) x) (λ k. k)) (λ k. nothing x k)) h

loc_closed : (l : ℕ) → IsClosed (Loc l)
loc_closed l n h = let bad : Variable n ≡ Place l = only_one (Place l) (Variable n) h in absurd (cc bad)

arr_closed : (l : ℕ) → IsClosed (Arr l)
arr_closed l n h = let bad : Variable n ≡ Place l = only_one (Place l) (Variable n) h in absurd (cc bad)

-- a block opens, with q for its variable or array: it has the new location alone
opens : (s : Store) (l : ℕ) (a m q : Term) → things 0 q ≡ Place l ∷ [] → PartsApart q → IsClosed q → things 0 a ≡ things 1 m
    → (PartsApart a → PartsApart m) → entry_at s l ≡ None → Keeps (IsNew s) a (Scope l (instantiate m q))
opens s l a m q place bare none under within' absent closed = (shrinks, apart)
  where
    new : (x : Thing) → Contains (Place l ∷ []) x → IsNew s x
    new x h = subst (IsNew s) (sym (only_one (Place l) x h)) absent

    newest : (x : Thing) → Contains (things 0 q) x → IsNew s x
    newest x h = new x (subst (λ (z : List Thing). Contains z x) place h)

    below : (x : Thing) → Contains (things 1 m) x → Contains (things 0 a) x
    below x h = subst (λ (z : List Thing). Contains z x) (sym under) h

    shrinks : Shrinks (IsNew s) a (Scope l (instantiate m q))
    shrinks x h =
        by_parts (Place l ∷ []) (things 0 (instantiate m q)) x (λ k. inr (new x k)) (λ k. by_putting (things_put m 0 0 q x none k)) h
      where
        by_putting : PutThing 0 0 q m x → Contains (things 0 a) x ⊎ IsNew s x
        by_putting (inl (k, other)) = inl (below x (under_binder m x (λ n h. closed n (below (Variable n) h)) other k))
        by_putting (inr (is, k, v)) = inr (newest x k)

    apart : PartsApart a → Lacks (IsNew s) a → PartsApart (instantiate m q)
    apart p lacks =
        apart_put m 0 q none (λ x h k. lacks x (newest x k) (below x (steady m 0 1 x (closed_things q 0 x none k).0 h))) (within' p) bare

row_keeps : (s s' : Store) (a b : Term) → Computes s s' a b → Keeps (IsNew s) a b
row_keeps s s' (Seq m n) b (em, et, es) =
    to_row (IsNew s) (Seq m n) b n et (λ c. ((λ x h. inl (right_part (things 0 m) (things 0 n) x h)), (λ p l. p.1)))
row_keeps s s' (Par m n) b (em, en, et, es) = to_row (IsNew s) (Par m n) b Skip et (λ c. ((λ x h. nothing x h), (λ p l. tt)))
row_keeps s s' (If m n p) b (inl (em, et), es) =
    to_row (IsNew s) (If m n p) b n et
    (λ c. ((λ x h. inl (right_part (things 0 m) (things 0 n ++ things 0 p) x (left_part (things 0 n) (things 0 p) x h))), (λ q l. q.1)))
row_keeps s s' (If m n p) b (inr (em, et), es) =
    to_row (IsNew s) (If m n p) b p et
    (λ c. ((λ x h. inl (right_part (things 0 m) (things 0 n ++ things 0 p) x (right_part (things 0 n) (things 0 p) x h))), (λ q l. q.2)))
row_keeps s s' (While m n) b (et, es) =
    to_row (IsNew s) (While m n) b (If m (Seq n (While m n)) Skip) et
    (λ c. ((λ x h. inl (loop_things m n x h)), (λ p l. (p.0, (p.1, (p.0, p.1)), tt))))
row_keeps s s' (Bin op m n) b (k, w, em, et, es) =
    to_row (IsNew s) (Bin op m n) b (Held k op n) et (λ c. ((λ x h. inl (right_part (things 0 m) (things 0 n) x h)), (λ p l. p.1)))
row_keeps s s' (Held k op n) b (j, w, en, et, es) = to_row (IsNew s) (Held k op n) b _ et (λ c. ((λ x h. nothing x h), (λ p l. tt)))
row_keeps s s' (Not m) b (k, w, em, et, es) = to_row (IsNew s) (Not m) b _ et (λ c. ((λ x h. nothing x h), (λ p l. tt)))
row_keeps s s' (Assign m n) b (k, w, en, et, es) =
    to_row (IsNew s) (Assign m n) b (Put m k) et (λ c. ((λ x h. inl (left_part (things 0 m) (things 0 n) x h)), (λ p l. p.0)))
row_keeps s s' (Put m k) b (e, j, old, em, here, has, et, es) = to_row (IsNew s) (Put m k) b Skip et (λ c. ((λ x h. nothing x h), (λ p l. tt)))
row_keeps s s' (Deref m) b (e, j, old, em, here, has, et, es) =
    to_row (IsNew s) (Deref m) b (Lit old e.width) et (λ c. ((λ x h. nothing x h), (λ p l. tt)))
row_keeps s s' (New w m) b (l, absent, et, es) =
    to_row (IsNew s) (New w m) b (Scope l (instantiate m (Loc l))) et
    (opens s l (New w m) m (Loc l) refl tt (loc_closed l) refl (λ p. p) absent)
row_keeps s s' (NewArray n w m) b (l, absent, et, es) =
    to_row (IsNew s) (NewArray n w m) b (Scope l (instantiate m (Arr l))) et
    (opens s l (NewArray n w m) m (Arr l) refl tt (arr_closed l) refl (λ p. p) absent)
row_keeps s s' (Scope l m) b (is, et, es) =
    to_row (IsNew s) (Scope l m) b m et (λ c. ((λ x h. inl (right_part (Place l ∷ []) (things 0 m) x h)), (λ p k. p)))
row_keeps s s' m b h = absurd h

-- labels
waits : (N : Things) (m : Term) (x : Name) (n : ℕ) (b : Term) → m ≡ Import x → b ≡ Wait x n → Keeps N m b
waits N m x n b em eb =
    to_row N m b (Wait x n) eb (subst (λ (z : Term). Keeps N z (Wait x n)) (sym em) (λ c. ((λ y h. inl h), (λ p l. tt))))

-- an answer has nothing that is free
answer_bare : (o : Option Type') (n k : ℕ) (t : Term) → IsAnswer o n k t → (N : Things) (a : Term) → Keeps N a t
answer_bare (Some Com) (suc zero) k t h N a = to_row N a t Skip h.1 (λ c. ((λ x g. nothing x g), (λ p l. tt)))
answer_bare (Some (Exp w)) (suc zero) k t h N a = to_row N a t (Lit k w) h.1 (λ c. ((λ x g. nothing x g), (λ p l. tt)))
answer_bare (Some (Var w)) (suc zero) k t h N a = to_row N a t (Lit k w) h.1 (λ c. ((λ x g. nothing x g), (λ p l. tt)))
answer_bare (Some (Var w)) (suc (suc (suc zero))) k t h N a = to_row N a t Skip h.1 (λ c. ((λ x g. nothing x g), (λ p l. tt)))
answer_bare o n k t h N a = absurd h

-- an access waits, with what it had
access_keeps :
    (N : Things) (x : Name) (m h g p q : Term) → m ≡ App h p → things 0 h ≡ things 0 g → PartsApart g
    → ((y : Thing) → Contains (things 0 q) y → Contains (things 0 p) y) → (PartsApart p → PartsApart q) → Keeps N m (App g q)
access_keeps N x m h g p q em same bare less parts =
    subst (λ (z : Term). Keeps N z (App g q)) (sym em)
    (λ closed. (
      (λ y k. inl (by_parts (things 0 g) (things 0 q) y (λ l. left_part (things 0 h) (things 0 p) y (of_port y l))
          (λ l. right_part (things 0 h) (things 0 p) y (less y l)) k)),
      (λ a lacks. ((λ y k l. a.0 y (of_port y k) (less y l)), bare, parts a.2)),
    ))
  where
    of_port : (y : Thing) → Contains (things 0 g) y → Contains (things 0 h) y
    of_port y k = subst (λ (z : List Thing). Contains z y) (sym same) k

twice : (n : Term) (y : Thing) → Contains (things 0 n ++ things 0 n) y → Contains (things 0 n) y
twice n y h = by_parts (things 0 n) (things 0 n) y (λ k. k) (λ k. k) h

first_twice : (n j : Term) (y : Thing) → Contains (things 0 n ++ things 0 n) y → Contains (things 0 n ++ things 0 j) y
first_twice n j y h = left_part (things 0 n) (things 0 j) y (twice n y h)

-- what it puts, and what it takes, of `!` and of `put`
puts_keep : (N : Things) (i : Imports) (f : Term → Term) (ask a : ℕ) (x : Name) (e k : ℕ) (m t : Term) → AccessPuts i f ask a x e k m t
    → (b : Term) × (t ≡ f b) × Keeps N m b
puts_keep N i f ask a x e k m t (c, w, n, array, inl (em, ee, ek, et)) =
    (App (Wait x 1) (Both n n), et, access_keeps N x m (Import x) (Wait x 1) n (Both n n) em refl tt (twice n) (λ p. (p, p)))
puts_keep N i f ask a x e k m t (c, w, n, array, inr (j, em, ej, ee, et)) =
    (App (Wait x 1) (Both n j), et, access_keeps N x m (Wait x 0) (Wait x 1) (Both n j) (Both n j) em refl tt (λ y h. h) (λ p. p))

takes_keep :
    (N : Things) (i : Imports) (f : Term → Term) (Ends : ℕ → ℕ → ℕ → Term → Type 0) (x : Name) (e k : ℕ) (m t : Term) → AccessTakes i f Ends x e k m t
    → ((b : Term) × (t ≡ f b) × Keeps N m b) ⊎ ((w : ℕ) × Ends w e k t)
takes_keep N i f Ends x e k m t (c, w, n, j, array, em, inl (ee, ek, et)) =
    inl (
      App (Wait x 0) (Both n n),
      et,
      access_keeps N x m (Wait x 1) (Wait x 0) (Both n j) (Both n n) em refl tt (first_twice n j) (λ p. (p.0, p.0)),
    )
takes_keep N i f Ends x e k m t (c, w, n, j, array, em, inr ends) = inr (w, ends)

label_keeps : (N : Things) (i : Imports) (o : Label) (a b : Term) → OneLabel i o a b → Keeps N a b
label_keeps N i o (Import x) b (inl (inl (h, e, et))) = waits N (Import x) x 1 b refl et
label_keeps N i o (Import x) b (inl (inr (w, h, e, et))) = waits N (Import x) x 1 b refl et
label_keeps N i o (Deref m) b (inl (inl (x, w, em, h, e, et))) = waits N m x 1 b em et
label_keeps N i o (Put m k) b (inl (inl (x, w, em, h, e, et))) = waits N m x 3 b em et
label_keeps N i o (Deref m) b (inl (inr (x, port, h))) =
    let (c, e, keeps) = puts_keep N i (λ (u : Term). Deref u) 2 0 x o.event o.value m b h in to_row N (Deref m) b (Deref c) e keeps
label_keeps N i o (Put m k) b (inl (inr (x, port, h))) =
    let (c, e, keeps) = puts_keep N i (λ (u : Term). Put u k) 4 k x o.event o.value m b h in to_row N (Put m k) b (Put c k) e keeps
label_keeps N i o (Deref m) b (inr (x, port, h)) = by_end (takes_keep N i (λ (u : Term). Deref u) ReadEnds x o.event o.value m b h)
  where
    by_end : ((c : Term) × (b ≡ Deref c) × Keeps N m c) ⊎ ((w : ℕ) × ReadEnds w o.event o.value b) → Keeps N (Deref m) b
    by_end (inl (c, e, keeps)) = to_row N (Deref m) b (Deref c) e keeps
    by_end (inr (w, (e, fits, et))) = to_row N (Deref m) b (Lit o.value w) et (λ c. ((λ y g. nothing y g), (λ p l. tt)))
label_keeps N i o (Put m k) b (inr (x, port, h)) = by_end (takes_keep N i (λ (u : Term). Put u k) WriteEnds x o.event o.value m b h)
  where
    by_end : ((c : Term) × (b ≡ Put c k) × Keeps N m c) ⊎ ((w : ℕ) × WriteEnds w o.event o.value b) → Keeps N (Put m k) b
    by_end (inl (c, e, keeps)) = to_row N (Put m k) b (Put c k) e keeps
    by_end (inr (w, (e, none, et))) = to_row N (Put m k) b Skip et (λ c. ((λ y g. nothing y g), (λ p l. tt)))
label_keeps N i o (Wait x n) b (inr (p, e, h)) = answer_bare (import_type i x) n o.value b h N (Wait x n)
label_keeps N i o m b (inl h) = absurd h
label_keeps N i o m b (inr h) = absurd h

-- at every place
unfolding_keeps : (m t : Term) → Unfolds m t → Keeps (λ x. ⊥) m t
unfolding_keeps m t h = reached_lifted OneHead (Keeps (λ x. ⊥)) (head_keeps (λ x. ⊥)) (keeps_in (λ x. ⊥)) m t h

act_keeps : (i : Imports) (a : Act) (s s' : Store) (m t : Term) → Acts i a s s' m t → Keeps (IsNew s) m t
act_keeps i Computing s s' m t h = reached_lifted (Computes s s') (Keeps (IsNew s)) (row_keeps s s') (keeps_in (IsNew s)) m t h
act_keeps i (Showing o) s s' m t (h, e) =
    reached_lifted (OneLabel i o) (Keeps (IsNew s)) (label_keeps (IsNew s) i o) (keeps_in (IsNew s)) m t h

pub unfoldings_shrink : UnfoldingsShrink
unfoldings_shrink m t x closed h g = by_shrinking ((unfolding_keeps m t h closed).0 x g)
  where
    by_shrinking : Contains (things 0 m) x ⊎ ⊥ → Contains (things 0 m) x
    by_shrinking (inl k) = k
    by_shrinking (inr k) = absurd k

pub unfoldings_keep_apart : UnfoldingsKeepApart
unfoldings_keep_apart m t p closed h =
    ((unfolding_keeps m t h closed).1 p (λ x n k. n), λ n g. closed n (unfoldings_shrink m t (Variable n) closed h g))

pub acts_shrink : ActsShrink
acts_shrink i a s s' m t x closed h g = (act_keeps i a s s' m t h closed).0 x g

-- a location that the store lacks is none of a term that stands in it
pub stands_lacks : (s : Store) (m : Term) → StandsIn s m → Lacks (IsNew s) m
stands_lacks s m st (Place l) absent h = let p = place_present s m 0 l st h in not_both (entry_at s l) p.0 absent p.1
stands_lacks s m st (Variable n) absent h = absent
stands_lacks s m st (Named y) absent h = absent

pub acts_keep_apart : ActsKeepApart
acts_keep_apart i a s s' m t p closed st h =
    ((act_keeps i a s s' m t h closed).1 p (stands_lacks s m st), λ n g. by_shrinking n (acts_shrink i a s s' m t (Variable n) closed h g))
  where
    by_shrinking : (n : ℕ) → Contains (things 0 m) (Variable n) ⊎ IsNew s (Variable n) → ⊥
    by_shrinking n (inl k) = closed n k
    by_shrinking n (inr k) = k
