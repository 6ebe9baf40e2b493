-- How many waits at a port stand in a term, and what each move makes of their number.
use Rattle.std.specs.Prelude.{◌≡◌, ◌⊎◌, ℕ, zero, suc, ◌+◌, ◌&&◌, not, Bool, true, false, ◌∷◌, Option, Some, nat_eq, if◌then◌else◌}
use Rattle.std.proofs.Common.{arith, refl, sym, ap, subst, inl, inr, ◌∙◌}
use Rattle.std.specs.Str.{bytes_eq}
use Rattle.gos_types.specs.Types.{Type', Com, Exp, Var, Pair, Fun}
use Rattle.gos_model.specs.Terms.{Name, Term, Skip, Lit, Bound, Import, Lam, App, Both, Fst, Snd, Seq, Par, If, While, Assign, Deref, New, Not, Bin, Loc, Scope, Wait, Held, Put, NewArray, Arr}
use Rattle.gos_model.specs.Substitution.{put_at}
use Rattle.gos_model.specs.Typing.{Imports, import_type, array_type}
use Rattle.gos_model.specs.Stores.{Store}
use Rattle.gos_model.specs.Reach.{Rel, InIndex, Rewrites, Under, Aside, Unfolds}
use Rattle.gos_model.specs.Steps.{Computes, IsValue, Locates}
use Rattle.gos_model.specs.Labels.{Port, Taken, Label, taken, is_answer, IsAnswer}
use Rattle.gos_model.specs.Accesses.{IsArrayImport}
use Rattle.gos_model.proofs.HeadLemmas.{lower_no_index}
use Rattle.gos_model.specs.Moves.{Act, Computing, Showing, Acts, Unfoldings}
use Rattle.gos_programs.specs.contexts.Contexts.{Context, SeqFirst, ParLeft, ParRight, IfTest, BinLeft, HeldRight, NotOf, AssignRight, ScopeBody, ReadIndex, WriteIndex, plug, ReadAt, WriteAt}
use Rattle.gos_programs.proofs.contexts.ScopeLemmas.{IsUnasked, import_unasked, request_unasked}
use Rattle.gos_programs.proofs.contexts.BackwardLemmas.{OneHead, OneLabel}
use Rattle.gos_programs.proofs.contexts.PluggedLemmas.{acts_of}
use Rattle.gos_programs.proofs.contexts.ReachedLemmas.{reached_lifted}
use Rattle.gos_programs.proofs.contexts.PlacedLemmas.{name_cases}
use Rattle.gos_programs.specs.variables.Waits.{HasNoWaitAt, WaitsAt, WaitsInIndex, request_of, answer_of, requests_at, answers_at, SourcesDoNotWait, NoWaitIsZero, ZeroIsNoWait, UnfoldingsKeepWaits, WaitsAreCounted, WaitsInPortIndex}

pub sources_wait : SourcesDoNotWait
sources_wait y i g Skip t h = tt
sources_wait y i g (Lit k w) t h = tt
sources_wait y i g (Bound n) t h = tt
sources_wait y i g (Import x) t h = tt
sources_wait y i g (Lam a m) t (b, e, h) = sources_wait y i (a ∷ g) m b h
sources_wait y i g (App m n) t (a, h, k, apart) = (sources_wait y i g m (Fun a t) h, sources_wait y i g n a k)
sources_wait y i g (Both m n) t (a, b, e, h, k) = (sources_wait y i g m a h, sources_wait y i g n b k)
sources_wait y i g (Fst m) t (b, h) = sources_wait y i g m (Pair t b) h
sources_wait y i g (Snd m) t (a, h) = sources_wait y i g m (Pair a t) h
sources_wait y i g (Seq m n) t (d, h, k) = (sources_wait y i g m Com h, sources_wait y i g n t k)
sources_wait y i g (Par m n) t (e, h, k, apart) = (sources_wait y i g m Com h, sources_wait y i g n Com k)
sources_wait y i g (If m n p) t (d, h, k, o) = (sources_wait y i g m (Exp 1) h, sources_wait y i g n t k, sources_wait y i g p t o)
sources_wait y i g (While m n) t (e, h, k) = (sources_wait y i g m (Exp 1) h, sources_wait y i g n Com k)
sources_wait y i g (Assign m n) t (w, e, h, k) = (sources_wait y i g m (Var w) h, sources_wait y i g n (Exp w) k)
sources_wait y i g (Deref m) t (w, e, h) = sources_wait y i g m (Var w) h
sources_wait y i g (New w m) t (d, k, h) = sources_wait y i (Var w ∷ g) m t h
sources_wait y i g (NewArray n w m) t (d, l, k, h) = sources_wait y i (array_type n w ∷ g) m t h
sources_wait y i g (Not m) t (w, e, h) = sources_wait y i g m (Exp w) h
sources_wait y i g (Bin op m n) t (w, e, h, k) = (sources_wait y i g m (Exp w) h, sources_wait y i g n (Exp w) k)
sources_wait y i g (Loc l) t h = absurd h
sources_wait y i g (Arr l) t h = absurd h
sources_wait y i g (Scope l m) t h = absurd h
sources_wait y i g (Wait x s) t h = absurd h
sources_wait y i g (Held k op n) t h = absurd h
sources_wait y i g (Put m k) t h = absurd h

none_choice : (y : Name) (b : Bool) (m n : Term) → HasNoWaitAt y m → HasNoWaitAt y n → HasNoWaitAt y (if b then m else n)
none_choice y true m n h k = h
none_choice y false m n h k = k

-- after a term was put in
pub none_put : (y : Name) (m : Term) (d : ℕ) (q : Term) → HasNoWaitAt y q → HasNoWaitAt y m → HasNoWaitAt y (put_at d q m)
none_put y Skip d q k h = tt
none_put y (Lit j w) d q k h = tt
none_put y (Bound n) d q k h = none_choice y (nat_eq n d) q (Bound n) k tt
none_put y (Import x) d q k h = tt
none_put y (Lam a m) d q k h = none_put y m (suc d) q k h
none_put y (App m n) d q k h = (none_put y m d q k h.0, none_put y n d q k h.1)
none_put y (Both m n) d q k h = (none_put y m d q k h.0, none_put y n d q k h.1)
none_put y (Fst m) d q k h = none_put y m d q k h
none_put y (Snd m) d q k h = none_put y m d q k h
none_put y (Seq m n) d q k h = (none_put y m d q k h.0, none_put y n d q k h.1)
none_put y (Par m n) d q k h = (none_put y m d q k h.0, none_put y n d q k h.1)
none_put y (If m n p) d q k h = (none_put y m d q k h.0, none_put y n d q k h.1, none_put y p d q k h.2)
none_put y (While m n) d q k h = (none_put y m d q k h.0, none_put y n d q k h.1)
none_put y (Assign m n) d q k h = (none_put y m d q k h.0, none_put y n d q k h.1)
none_put y (Deref m) d q k h = none_put y m d q k h
none_put y (New w m) d q k h = none_put y m (suc d) q k h
none_put y (NewArray n w m) d q k h = none_put y m (suc d) q k h
none_put y (Not m) d q k h = none_put y m d q k h
none_put y (Bin op m n) d q k h = (none_put y m d q k h.0, none_put y n d q k h.1)
none_put y (Loc l) d q k h = tt
none_put y (Arr l) d q k h = tt
none_put y (Scope l m) d q k h = none_put y m d q k h
none_put y (Wait x s) d q k h = h
none_put y (Held j op n) d q k h = none_put y n d q k h
none_put y (Put m j) d q k h = none_put y m d q k h

-- heads
none_rewrite : (y : Name) (m t : Term) → Rewrites m t → HasNoWaitAt y m → HasNoWaitAt y t
none_rewrite y (App m n) t (a, b, em, et) (h, k) = subst (HasNoWaitAt y) (sym et) (none_put y b 0 n k (subst (HasNoWaitAt y) em h))
none_rewrite y (Fst m) t (n, e) h = (subst (HasNoWaitAt y) e h).0
none_rewrite y (Snd m) t (n, e) h = (subst (HasNoWaitAt y) e h).1
none_rewrite y m t h s = absurd h

none_under : (y : Name) (m t : Term) → Under Rewrites m t → HasNoWaitAt y m → HasNoWaitAt y t
none_under y (App m n) t (m', e, inl h) (s, k) = subst (HasNoWaitAt y) (sym e) (none_rewrite y m m' h s, k)
none_under y (App m n) t (m', e, inr h) (s, k) = subst (HasNoWaitAt y) (sym e) (none_under y m m' h s, k)
none_under y (Fst m) t (m', e, inl h) s = subst (HasNoWaitAt y) (sym e) (none_rewrite y m m' h s)
none_under y (Fst m) t (m', e, inr h) s = subst (HasNoWaitAt y) (sym e) (none_under y m m' h s)
none_under y (Snd m) t (m', e, inl h) s = subst (HasNoWaitAt y) (sym e) (none_rewrite y m m' h s)
none_under y (Snd m) t (m', e, inr h) s = subst (HasNoWaitAt y) (sym e) (none_under y m m' h s)
none_under y m t h s = absurd h

none_aside : (y : Name) (m t : Term) → Aside Rewrites m t → HasNoWaitAt y m → HasNoWaitAt y t
none_aside y (Put m k) t (m', e, inl h) s = subst (HasNoWaitAt y) (sym e) (none_rewrite y m m' h s)
none_aside y (Put m k) t (m', e, inr h) s = subst (HasNoWaitAt y) (sym e) (none_under y m m' h s)
none_aside y (Deref m) t (m', e, inl h) s = subst (HasNoWaitAt y) (sym e) (none_rewrite y m m' h s)
none_aside y (Deref m) t (m', e, inr h) s = subst (HasNoWaitAt y) (sym e) (none_under y m m' h s)
none_aside y m t h s = absurd h

pub none_head : (y : Name) (m t : Term) → OneHead m t → HasNoWaitAt y m → HasNoWaitAt y t
none_head y m t (inl (inl h)) s = none_rewrite y m t h s
none_head y m t (inl (inr h)) s = none_under y m t h s
none_head y m t (inr h) s = none_aside y m t h s

-- both ways to say that nothing waits
pub none_waits : NoWaitIsZero
none_waits y (Seq m n) h = (none_waits y m h.0, h.1)
none_waits y (Par m n) h = (0, 0, refl, none_waits y m h.0, none_waits y n h.1)
none_waits y (If m n p) h = (none_waits y m h.0, h.1, h.2)
none_waits y (Assign m n) h = (h.0, none_waits y n h.1)
none_waits y (Not m) h = none_waits y m h
none_waits y (Bin op m n) h = (none_waits y m h.0, h.1)
none_waits y (Scope l m) h = none_waits y m h
none_waits y (Wait x n) h = sym (ap (λ (b : Bool). if b then 1 else 0) h)
none_waits y (Held k op n) h = none_waits y n h
none_waits y (Deref m) h = inl (refl, h)
none_waits y (Put m k) h = inl (refl, h)
none_waits y m h = (refl, h)

not_one : (b : Bool) (n : ℕ) → n ≡ 0 → n ≡ (if b then 1 else 0) → b ≡ false
not_one true n e h = let bad : 0 ≡ 1 = sym e ∙ h in absurd (omega (arith, bad))
not_one false n e h = refl

mutual
  no_waits : (y : Name) (n : ℕ) (m : Term) → n ≡ 0 → WaitsAt y n m → HasNoWaitAt y m
  no_waits y n (Seq a b) e h = (no_waits y n a e h.0, h.1)
  no_waits y n (Par a b) e (j, k, g, p, q) = (no_waits y j a (omega (arith, e, g)) p, no_waits y k b (omega (arith, e, g)) q)
  no_waits y n (If a b c) e h = (no_waits y n a e h.0, h.1, h.2)
  no_waits y n (Assign a b) e h = (h.0, no_waits y n b e h.1)
  no_waits y n (Not a) e h = no_waits y n a e h
  no_waits y n (Bin op a b) e h = (no_waits y n a e h.0, h.1)
  no_waits y n (Scope l a) e h = no_waits y n a e h
  no_waits y n (Wait x k) e h = not_one (bytes_eq x y) n e h
  no_waits y n (Held k op b) e h = no_waits y n b e h
  no_waits y n (Deref m) e (inl h) = h.1
  no_waits y n (Deref m) e (inr h) = index_free y n m e h
  no_waits y n (Put m k) e (inl h) = h.1
  no_waits y n (Put m k) e (inr h) = index_free y n m e h
  no_waits y n m e h = h.1

  index_free : (y : Name) (n : ℕ) (m : Term) → n ≡ 0 → WaitsInIndex y n m → HasNoWaitAt y m
  index_free y n (App h a) e (inr ((l, is), w)) = (subst (HasNoWaitAt y) (sym is) tt, no_waits y n a e w)
  index_free y n (App h (Both b a)) e (inl (head, free, f, g)) = (free, (f, no_waits y n a e g))
  index_free y n (App h a) e (inl w) = absurd w
  index_free y n m e h = absurd h

pub zero_none : ZeroIsNoWait
zero_none y m h = no_waits y 0 m refl h

value_waits : (y : Name) (n : ℕ) (v : Term) → IsValue v → WaitsAt y n v → n ≡ 0
value_waits y n v (inl e) h = (subst (WaitsAt y n) e h).0
value_waits y n v (inr (k, w, e)) h = (subst (WaitsAt y n) e h).0

-- a change that takes d waits away and adds u
abbrev Counts : Name → ℕ → ℕ → Rel
Counts y d u a b = (n : ℕ) → WaitsAt y n a → (k : ℕ) × (k + d ≡ n + u) × WaitsAt y k b

-- in the index of an access
in_index : (y : Name) (n : ℕ) (x : Name) (c a : Term)
    → ((n ≡ 0) × HasNoWaitAt y (App (Wait x 0) (Both c a))) ⊎ WaitsInIndex y n (App (Wait x 0) (Both c a))
    → (bytes_eq x y ≡ false) × HasNoWaitAt y c × WaitsAt y n a
in_index y n x c a (inl (e, (f, (g, h)))) = (f, g, subst (λ (k : ℕ). WaitsAt y k a) (sym e) (none_waits y a h))
in_index y n x c a (inr (inl (head, f, g, h))) = (f, g, h)
in_index y n x c a (inr (inr ((l, e), h))) = absurd (cc e)

-- in that of an access of an array of the program's own
no_port_waits : (y : Name) (n l : ℕ) (a : Term) → WaitsInPortIndex y n (Arr l) a → ⊥
no_port_waits y n l (Both b a) ((x, e), f, g, h) = cc e
no_port_waits y n l a h = absurd h

at_array : (y : Name) (n l : ℕ) (a : Term) → ((n ≡ 0) × HasNoWaitAt y (App (Arr l) a)) ⊎ WaitsInIndex y n (App (Arr l) a) → WaitsAt y n a
at_array y n l a (inl (e, (f, h))) = subst (λ (k : ℕ). WaitsAt y k a) (sym e) (none_waits y a h)
at_array y n l a (inr (inl h)) = absurd (no_port_waits y n l a h)
at_array y n l a (inr (inr (place, h))) = h

-- nothing waits in what stands for a number
located_waits : (y : Name) (n : ℕ) (m : Term) (l i : ℕ) → Locates m l i → ((n ≡ 0) × HasNoWaitAt y m) ⊎ WaitsInIndex y n m → n ≡ 0
located_waits y n m l i is (inl (z, h)) = z
located_waits y n m l i (inl (e, first)) (inr h) = absurd (subst (WaitsInIndex y n) e h)
located_waits y n m l i (inr (w, e)) (inr h) = (at_array y n l (Lit i w) (inr (subst (WaitsInIndex y n) e h))).0

counts_in : (y : Name) (d u : ℕ) (c : Context) (a b : Term) → Counts y d u a b → Counts y d u (plug c a) (plug c b)
counts_in y d u (SeqFirst m) a b q n (h, g) = let x = q n h in (x.0, x.1, (x.2, g))
counts_in y d u (ParLeft m) a b q n (j, k, e, h, g) =
    let x = q j h in
    let sum : x.0 + d ≡ j + u = x.1 in
    (x.0 + k, omega (arith, sum, e), (x.0, k, refl, x.2, g))
counts_in y d u (ParRight m) a b q n (j, k, e, h, g) =
    let x = q k g in
    let sum : x.0 + d ≡ k + u = x.1 in
    (j + x.0, omega (arith, sum, e), (j, x.0, refl, h, x.2))
counts_in y d u (IfTest m p) a b q n (h, g, l) = let x = q n h in (x.0, x.1, (x.2, g, l))
counts_in y d u (BinLeft op m) a b q n (h, g) = let x = q n h in (x.0, x.1, (x.2, g))
counts_in y d u (HeldRight k op) a b q n h = q n h
counts_in y d u NotOf a b q n h = q n h
counts_in y d u (AssignRight m) a b q n (h, g) = let x = q n g in (x.0, x.1, (h, x.2))
counts_in y d u (ScopeBody l) a b q n h = q n h
counts_in y d u (ReadIndex x c) a b q n h =
    let w = in_index y n x c a h in
    let r = q n w.2 in
    (r.0, r.1, inr (inl ((x, refl), w.0, w.1, r.2)))
counts_in y d u (WriteIndex x c k) a b q n h =
    let w = in_index y n x c a h in
    let r = q n w.2 in
    (r.0, r.1, inr (inl ((x, refl), w.0, w.1, r.2)))
counts_in y d u (ReadAt l) a b q n h = let r = q n (at_array y n l a h) in (r.0, r.1, inr (inr ((l, refl), r.2)))
counts_in y d u (WriteAt l k) a b q n h = let r = q n (at_array y n l a h) in (r.0, r.1, inr (inr ((l, refl), r.2)))

-- what becomes nothing that waits, where nothing waited
to_none : (y : Name) (n : ℕ) (b t : Term) → t ≡ b → n ≡ 0 → HasNoWaitAt y b → (k : ℕ) × (k + 0 ≡ n + 0) × WaitsAt y k t
to_none y n b t et e h = (0, omega (arith, e), subst (WaitsAt y 0) (sym et) (none_waits y b h))

abbrev Anything : Rel
Anything a b = Unit {0}

waits_index : (y : Name) (n : ℕ) (m : Term) → WaitsInIndex y n m → InIndex Anything m m
waits_index y n (App h a) (inr (place, w)) = inr (place, a, refl, inl tt)
waits_index y n (App h (Both b a)) (inl (head, free, f, w)) = inl (head, a, refl, inl tt)
waits_index y n (App h a) (inl w) = absurd w
waits_index y n m w = absurd w

-- heads
head_waits : (y : Name) (n : ℕ) (a b : Term) → OneHead a b → WaitsAt y n a → (n ≡ 0) × HasNoWaitAt y a
head_waits y n (App m k) b h w = w
head_waits y n (Fst m) b h w = w
head_waits y n (Snd m) b h w = w
head_waits y n (Put m k) b h (inl w) = w
head_waits y n (Put m k) b (inr (m', e, h)) (inr w) = absurd (lower_no_index Anything m m' m h (waits_index y n m w))
head_waits y n (Put m k) b (inl (inl h)) (inr w) = absurd h
head_waits y n (Put m k) b (inl (inr h)) (inr w) = absurd h
head_waits y n (Deref m) b h (inl w) = w
head_waits y n (Deref m) b (inr (m', e, h)) (inr w) = absurd (lower_no_index Anything m m' m h (waits_index y n m w))
head_waits y n (Deref m) b (inl (inl h)) (inr w) = absurd h
head_waits y n (Deref m) b (inl (inr h)) (inr w) = absurd h
head_waits y n a b (inl (inl h)) w = absurd h
head_waits y n a b (inl (inr h)) w = absurd h
head_waits y n a b (inr h) w = absurd h

count_head : (y : Name) (a b : Term) → OneHead a b → Counts y 0 0 a b
count_head y a b h n w = let g = head_waits y n a b h w in to_none y n b b refl g.0 (none_head y a b h g.1)

unfoldings_count : (y : Name) (j : ℕ) (m t : Term) → Unfoldings j m t → Counts y 0 0 m t
unfoldings_count y zero m t h n w = (n, refl, subst (WaitsAt y n) h w)
unfoldings_count y (suc j) m t (v, h, hs) n w =
    let one = reached_lifted OneHead (Counts y 0 0) (count_head y) (counts_in y 0 0) m v h n w in
    let rest = unfoldings_count y j v t hs one.0 one.2 in
    let here : one.0 + 0 ≡ n + 0 = one.1 in
    let there : rest.0 + 0 ≡ one.0 + 0 = rest.1 in
    (rest.0, omega (arith, here, there), rest.2)

pub unfoldings_keep : UnfoldingsKeepWaits
unfoldings_keep y j n m t h w =
    let all = unfoldings_count y j m t h n w in
    let sum : all.0 + 0 ≡ n + 0 = all.1 in
    let same : all.0 ≡ n = omega (arith, sum) in subst (λ (k : ℕ). WaitsAt y k t) same all.2

pub unfolds_none : (y : Name) (m t : Term) → Unfolds m t → HasNoWaitAt y m → HasNoWaitAt y t
unfolds_none y m t h f = zero_none y t (unfoldings_keep y 1 0 m t (t, h, refl) (none_waits y m f))

-- computation
count_row : (y : Name) (s s' : Store) (a b : Term) → Computes s s' a b → Counts y 0 0 a b
count_row y s s' (Seq m n) b (em, et, es) k (h, g) = to_none y k n b et (value_waits y k m (inl em) h) g
count_row y s s' (Par m n) b (em, en, et, es) k (i, j, e, h, g) =
    let one = value_waits y i m (inl em) h in
    let other = value_waits y j n (inl en) g in
    to_none y k Skip b et (omega (arith, e, one, other)) tt
count_row y s s' (If m n p) b (inl (em, et), es) k (h, g, l) = to_none y k n b et (value_waits y k m (inr (1, 1, em)) h) g
count_row y s s' (If m n p) b (inr (em, et), es) k (h, g, l) = to_none y k p b et (value_waits y k m (inr (0, 1, em)) h) l
count_row y s s' (While m n) b (et, es) k (z, h) = to_none y k (If m (Seq n (While m n)) Skip) b et z (h.0, (h.1, h), tt)
count_row y s s' (Bin op m n) b (j, w, em, et, es) k (h, g) = to_none y k (Held j op n) b et (value_waits y k m (inr (j, w, em)) h) g
count_row y s s' (Held i op n) b (j, w, en, et, es) k h =
    (0, (let e = value_waits y k n (inr (j, w, en)) h in omega (arith, e)), subst (WaitsAt y 0) (sym et) (refl, tt))
count_row y s s' (Not m) b (j, w, em, et, es) k h =
    (0, (let e = value_waits y k m (inr (j, w, em)) h in omega (arith, e)), subst (WaitsAt y 0) (sym et) (refl, tt))
count_row y s s' (Assign m n) b (j, w, en, et, es) k (g, h) = to_none y k (Put m j) b et (value_waits y k n (inr (j, w, en)) h) g
count_row y s s' (Put m i) b (e, j, old, em, here, has, et, es) k w = to_none y k Skip b et (located_waits y k m e.place j em w) tt
count_row y s s' (Deref m) b (e, j, old, em, here, has, et, es) k w =
    let z = located_waits y k m e.place j em w in (0, omega (arith, z), subst (WaitsAt y 0) (sym et) (refl, tt))
count_row y s s' (New w m) b (l, absent, et, es) k (z, h) = to_none y k (Scope l (put_at 0 (Loc l) m)) b et z (none_put y m 0 (Loc l) tt h)
count_row y s s' (NewArray n w m) b (l, absent, et, es) k (z, h) = to_none y k (Scope l (put_at 0 (Arr l) m)) b et z (none_put y m 0 (Arr l) tt h)
count_row y s s' (Scope l m) b (is, et, es) k h = (k, refl, subst (WaitsAt y k) (sym et) h)
count_row y s s' a b h k w = absurd h

-- labels
no_case : (b : Bool) → ◌≡◌ {A = ℕ} (if b && false then 1 else 0) 0
no_case true = refl
no_case false = refl

one_case : (b : Bool) → ◌≡◌ {A = ℕ} (if b && true then 1 else 0) (if b then 1 else 0)
one_case true = refl
one_case false = refl

-- a request at a port, which becomes a wait
asked_row : (y x : Name) (e v a : ℕ) (o : Label) (b : Term) (n : ℕ) → is_answer e ≡ false → o ≡ taken x e v → b ≡ Wait x a → n ≡ 0
    → (k : ℕ) × (k + answers_at y (Showing o) ≡ n + requests_at y (Showing o)) × WaitsAt y k b
asked_row y x e v a o b n asks is et z =
    let none : answers_at y (Showing o) ≡ 0 =
    ap (λ (u : Label). answers_at y (Showing u)) is ∙ (ap (λ (c : Bool). if bytes_eq x y && c then 1 else 0) asks ∙ no_case (bytes_eq x y)) in
    let one : requests_at y (Showing o) ≡ (if bytes_eq x y then 1 else 0) =
    ap (λ (u : Label). requests_at y (Showing u)) is ∙ (ap (λ (c : Bool). if bytes_eq x y && not c then 1 else 0) asks ∙ one_case (bytes_eq x y)) in
    (if bytes_eq x y then 1 else 0, omega (arith, none, one, z), subst (WaitsAt y (if bytes_eq x y then 1 else 0)) (sym et) refl)

-- what an answer leaves waits for nothing
is_an_answer : (o : Option Type') (n k : ℕ) (t : Term) → IsAnswer o n k t → is_answer n ≡ true
is_an_answer (Some Com) (suc zero) k t h = refl
is_an_answer (Some (Exp w)) (suc zero) k t h = refl
is_an_answer (Some (Var w)) (suc zero) k t h = refl
is_an_answer (Some (Var w)) (suc (suc (suc zero))) k t h = refl
is_an_answer o n k t h = absurd h

answer_none : (y : Name) (o : Option Type') (n k : ℕ) (t : Term) → IsAnswer o n k t → WaitsAt y 0 t
answer_none y (Some Com) (suc zero) k t h = subst (WaitsAt y 0) (sym h.1) (refl, tt)
answer_none y (Some (Exp w)) (suc zero) k t h = subst (WaitsAt y 0) (sym h.1) (refl, tt)
answer_none y (Some (Var w)) (suc zero) k t h = subst (WaitsAt y 0) (sym h.1) (refl, tt)
answer_none y (Some (Var w)) (suc (suc (suc zero))) k t h = subst (WaitsAt y 0) (sym h.1) (refl, tt)
answer_none y o n k t h = absurd h

answered_row : (y x : Name) (o : Label) (b : Term) (n : ℕ) → o.port ≡ Taken x → is_answer o.event ≡ true → WaitsAt y 0 b
    → n ≡ (if bytes_eq x y then 1 else 0) → (k : ℕ) × (k + answers_at y (Showing o) ≡ n + requests_at y (Showing o)) × WaitsAt y k b
answered_row y x o b n port answers none z =
    let one : answers_at y (Showing o) ≡ (if bytes_eq x y then 1 else 0) =
    ap (λ (p : Port). answer_of y p o.event) port ∙ (ap (λ (c : Bool). if bytes_eq x y && c then 1 else 0) answers ∙ one_case (bytes_eq x y)) in
    let nothing : requests_at y (Showing o) ≡ 0 =
    ap (λ (p : Port). request_of y p o.event) port ∙ (ap (λ (c : Bool). if bytes_eq x y && not c then 1 else 0) answers ∙ no_case (bytes_eq x y)) in
    (0, omega (arith, nothing, one, z), none)

-- a label of another port
elsewhere : (y x : Name) (o : Label) → o.port ≡ Taken x → bytes_eq x y ≡ false → (answers_at y (Showing o) ≡ 0) × (requests_at y (Showing o) ≡ 0)
elsewhere y x o port other = (
  ap (λ (p : Port). answer_of y p o.event) port ∙ ap (λ (c : Bool). if c && is_answer o.event then 1 else 0) other,
  ap (λ (p : Port). request_of y p o.event) port ∙ ap (λ (c : Bool). if c && not (is_answer o.event) then 1 else 0) other,
)

-- an access of another port, whose index is not asked for or has ended, has no wait
unasked_index : (y : Name) (n : ℕ) (h a : Term) → IsUnasked h → WaitsInIndex y n (App h a) → ⊥
unasked_index y n h a none (inr ((l, e), w)) = none.1 l e
unasked_index y n h (Both b c) none (inl w) = none.0 w.0.0 w.0.1
unasked_index y n h a none (inl w) = absurd w

no_index_yet : (y : Name) (n : ℕ) (m h a : Term) → m ≡ App h a → IsUnasked h
    → ((n ≡ 0) × HasNoWaitAt y m) ⊎ WaitsInIndex y n m → (n ≡ 0) × HasNoWaitAt y a
no_index_yet y n m h a em none (inl (z, f)) = (z, (subst (HasNoWaitAt y) em f).1)
no_index_yet y n m h a em none (inr w) = absurd (unasked_index y n h a none (subst (WaitsInIndex y n) em w))

index_ended : (y : Name) (n : ℕ) (m : Term) (x : Name) (c a : Term) (k w : ℕ) → m ≡ App (Wait x 0) (Both c a) → a ≡ Lit k w
    → ((n ≡ 0) × HasNoWaitAt y m) ⊎ WaitsInIndex y n m → (n ≡ 0) × HasNoWaitAt y (Both c a)
index_ended y n m x c a k w em ea h =
    let (f, g, waits) = in_index y n x c a (subst (λ (v : Term). ((n ≡ 0) × HasNoWaitAt y v) ⊎ WaitsInIndex y n v) em h) in
    (value_waits y n a (inr (k, w, ea)) waits, (g, subst (HasNoWaitAt y) (sym ea) tt))

-- what is left of an access of another port waits for nothing at this one
access_left : (y x : Name) (o : Label) (t b : Term) (n : ℕ) → o.port ≡ Taken x → bytes_eq x y ≡ false → n ≡ 0 → b ≡ t → WaitsAt y 0 t
    → (k : ℕ) × (k + answers_at y (Showing o) ≡ n + requests_at y (Showing o)) × WaitsAt y k b
access_left y x o t b n port other z et w =
    let none = elsewhere y x o port other in
    let one : answers_at y (Showing o) ≡ 0 = none.0 in
    let two : requests_at y (Showing o) ≡ 0 = none.1 in
    (0, omega (arith, one, two, z), subst (WaitsAt y 0) (sym et) w)

abbrev IsNoArray : Imports → Name → Type 0
IsNoArray i y = (j w : ℕ) → IsArrayImport i y j w → ⊥

other_array : (i : Imports) (y x : Name) (c w : ℕ) → IsNoArray i y → IsArrayImport i x c w → bytes_eq x y ≡ false
other_array i y x c w none array =
    name_cases x y (λ same t. absurd (none c w (subst (λ (v : Name). IsArrayImport i v c w) same array))) (λ f. f)

count_label : (y : Name) (i : Imports) → IsNoArray i y → (o : Label) (a b : Term) → OneLabel i o a b → Counts y (answers_at y (Showing o)) (requests_at y (Showing o)) a b
count_label y i none o (Import x) b (inl (inl (h, e, et))) n (z, g) = asked_row y x 0 0 1 o b n refl e et z
count_label y i none o (Import x) b (inl (inr (w, h, e, et))) n (z, g) = asked_row y x 0 0 1 o b n refl e et z
count_label y i none o (Deref m) b (inl (inl (x, w, em, h, e, et))) n (inl (z, g)) = asked_row y x 0 0 1 o b n refl e et z
count_label y i none o (Deref m) b (inl (inl (x, w, em, h, e, et))) n (inr g) = absurd (subst (WaitsInIndex y n) em g)
count_label y i none o (Put m j) b (inl (inl (x, w, em, h, e, et))) n (inl (z, g)) = asked_row y x 2 j 3 o b n refl e et z
count_label y i none o (Put m j) b (inl (inl (x, w, em, h, e, et))) n (inr g) = absurd (subst (WaitsInIndex y n) em g)
count_label y i none o (Wait x j) b (inr (p, e, h)) n z =
    answered_row y x o b n p (ap is_answer e ∙ is_an_answer (import_type i x) j o.value b h) (answer_none y (import_type i x) j o.value b h) z
count_label y i none o (Deref m) b (inl (inr (x, p, (c, w, l, array, inl (em, ee, ek, et))))) n g =
    let other = other_array i y x c w none array in
    let rest = no_index_yet y n m (Import x) l em (import_unasked x) g in
    access_left y x o (Deref (App (Wait x 1) (Both l l))) b n p other rest.0 et (inl (refl, (other, (rest.1, rest.1))))
count_label y i none o (Deref m) b (inl (inr (x, p, (c, w, l, array, inr (q, em, eq, ee, et))))) n g =
    let other = other_array i y x c w none array in
    let rest = index_ended y n m x l q o.value c em eq g in
    access_left y x o (Deref (App (Wait x 1) (Both l q))) b n p other rest.0 et (inl (refl, (other, rest.1)))
count_label y i none o (Deref m) b (inr (x, p, (c, w, l, q, array, em, inl (ee, ek, et)))) n g =
    let other = other_array i y x c w none array in
    let rest = no_index_yet y n m (Wait x 1) (Both l q) em (request_unasked x) g in
    access_left y x o (Deref (App (Wait x 0) (Both l l))) b n p other rest.0 et (inl (refl, (other, (rest.1.0, rest.1.0))))
count_label y i none o (Deref m) b (inr (x, p, (c, w, l, q, array, em, inr (ee, ek, et)))) n g =
    let other = other_array i y x c w none array in
    let rest = no_index_yet y n m (Wait x 1) (Both l q) em (request_unasked x) g in
    access_left y x o (Lit o.value w) b n p other rest.0 et (refl, tt)
count_label y i none o (Put m j) b (inl (inr (x, p, (c, w, l, array, inl (em, ee, ek, et))))) n g =
    let other = other_array i y x c w none array in
    let rest = no_index_yet y n m (Import x) l em (import_unasked x) g in
    access_left y x o (Put (App (Wait x 1) (Both l l)) j) b n p other rest.0 et (inl (refl, (other, (rest.1, rest.1))))
count_label y i none o (Put m j) b (inl (inr (x, p, (c, w, l, array, inr (q, em, eq, ee, et))))) n g =
    let other = other_array i y x c w none array in
    let rest = index_ended y n m x l q o.value c em eq g in
    access_left y x o (Put (App (Wait x 1) (Both l q)) j) b n p other rest.0 et (inl (refl, (other, rest.1)))
count_label y i none o (Put m j) b (inr (x, p, (c, w, l, q, array, em, inl (ee, ek, et)))) n g =
    let other = other_array i y x c w none array in
    let rest = no_index_yet y n m (Wait x 1) (Both l q) em (request_unasked x) g in
    access_left y x o (Put (App (Wait x 0) (Both l l)) j) b n p other rest.0 et (inl (refl, (other, (rest.1.0, rest.1.0))))
count_label y i none o (Put m j) b (inr (x, p, (c, w, l, q, array, em, inr (ee, ek, et)))) n g =
    let other = other_array i y x c w none array in
    let rest = no_index_yet y n m (Wait x 1) (Both l q) em (request_unasked x) g in
    access_left y x o (Skip) b n p other rest.0 et (refl, tt)
count_label y i none o a b (inl h) n w = absurd h
count_label y i none o a b (inr h) n w = absurd h

acts_count : (y : Name) (i : Imports) → IsNoArray i y → (a : Act) (s s' : Store) (m t : Term) → Acts i a s s' m t → Counts y (answers_at y a) (requests_at y a) m t
acts_count y i none Computing s s' m t h = reached_lifted (Computes s s') (Counts y 0 0) (count_row y s s') (counts_in y 0 0) m t h
acts_count y i none (Showing o) s s' m t (h, e) =
    reached_lifted (OneLabel i o) (Counts y (answers_at y (Showing o)) (requests_at y (Showing o))) (count_label y i none o)
    (counts_in y (answers_at y (Showing o)) (requests_at y (Showing o))) m t h

pub waits_counted : WaitsAreCounted
waits_counted p y a n m t s u none (j, v, hs, h) w = acts_count y p.imports none a s u v t (acts_of p.imports a s u v t h) n (unfoldings_keep y j n m v hs w)
