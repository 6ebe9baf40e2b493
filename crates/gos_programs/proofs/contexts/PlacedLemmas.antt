-- A location in the place of an import: what goes with it but labels.
use Rattle.std.specs.Prelude.{◌≡◌, ℕ, zero, suc, Bool, true, false, List, [], ◌∷◌, Some, None, nat_eq, if◌then◌else◌}
use Rattle.std.proofs.Common.{refl, sym, ap, subst, inl, inr, ◌∙◌}
use Rattle.gos_types.specs.Types.{Type', Com, Exp, Var, Pair, Fun}
use Rattle.gos_model.specs.Terms.{Name, Term, Skip, Lit, Bound, Import, Lam, App, Both, Fst, Snd, Seq, Par, If, While, Assign, Deref, New, Not, Bin, Loc, Scope, Wait, Held, Put, NewArray, Arr}
use Rattle.gos_model.specs.Substitution.{put_at}
use Rattle.gos_model.specs.Typing.{Imports, Typed, import_type, array_type}
use Rattle.gos_model.specs.Stores.{Store}
use Rattle.gos_model.specs.Reach.{Rel, Reached, Rewrites, Under, Aside}
use Rattle.gos_model.specs.Steps.{Computes, IsValue, Locates}
use Rattle.gos_model.specs.Moves.{Unfoldings}
use Rattle.gos_programs.specs.contexts.Contexts.{Context, SeqFirst, ParLeft, ParRight, IfTest, BinLeft, HeldRight, NotOf, AssignRight, ScopeBody, ReadIndex, WriteIndex, plug, ReadAt, WriteAt}
use Rattle.gos_programs.specs.contexts.Renaming.{IsInjective, IsFreeOf, beside}
use Rattle.gos_programs.proofs.contexts.BackwardLemmas.{OneHead}
use Rattle.gos_programs.proofs.contexts.ReachedLemmas.{reached_lifted}
use Rattle.gos_programs.proofs.contexts.RenamedStoreLemmas.{entry_beside, put_beside, without_beside, moved}
use Rattle.std.specs.Str.{bytes_eq}
use Rattle.gos_types.proofs.BytesLemmas.{bytes_eq_same, same_bytes_eq}
use Rattle.gos_programs.specs.contexts.LocalVariable.{BodiesArePlaced, wait_for, placed}

pub name_cases : {P : Type 0} (x y : Name) → (x ≡ y → bytes_eq x y ≡ true → P) → (bytes_eq x y ≡ false → P) → P
name_cases {P} x y same other = tested (bytes_eq x y) refl
  where
    tested : (b : Bool) → bytes_eq x y ≡ b → P
    tested true e = same (bytes_eq_same x y e) e
    tested false e = other e

-- substitution goes with it
placed_choice : (r : ℕ → ℕ) (y : Name) (z : ℕ) (b : Bool) (m n : Term) → placed r y z (if b then m else n) ≡ (if b then placed r y z m else placed r y z n)
placed_choice r y z true m n = refl
placed_choice r y z false m n = refl

stays_placed : (r : ℕ → ℕ) (y : Name) (z d : ℕ) (b : Bool) (x : Name) (q : Term)
    → (if b then Loc z else Import x) ≡ put_at d (placed r y z q) (if b then Loc z else Import x)
stays_placed r y z d true x q = refl
stays_placed r y z d false x q = refl

wait_placed : (r : ℕ → ℕ) (y : Name) (z d : ℕ) (b : Bool) (x : Name) (n : ℕ) (q : Term)
    → wait_for b z x n ≡ put_at d (placed r y z q) (wait_for b z x n)
wait_placed r y z d false x n q = refl
wait_placed r y z d true x zero q = refl
wait_placed r y z d true x (suc zero) q = refl
wait_placed r y z d true x (suc (suc n)) q = refl

pub placed_put : (r : ℕ → ℕ) (y : Name) (z : ℕ) (m : Term) (d : ℕ) (q : Term) → placed r y z (put_at d q m) ≡ put_at d (placed r y z q) (placed r y z m)
placed_put r y z Skip d q = refl
placed_put r y z (Lit k w) d q = refl
placed_put r y z (Bound n) d q = placed_choice r y z (nat_eq n d) q (Bound n)
placed_put r y z (Import x) d q = stays_placed r y z d (bytes_eq x y) x q
placed_put r y z (Lam a m) d q = λ i. Lam a (placed_put r y z m (suc d) q i)
placed_put r y z (App m n) d q = λ i. App (placed_put r y z m d q i) (placed_put r y z n d q i)
placed_put r y z (Both m n) d q = λ i. Both (placed_put r y z m d q i) (placed_put r y z n d q i)
placed_put r y z (Fst m) d q = λ i. Fst (placed_put r y z m d q i)
placed_put r y z (Snd m) d q = λ i. Snd (placed_put r y z m d q i)
placed_put r y z (Seq m n) d q = λ i. Seq (placed_put r y z m d q i) (placed_put r y z n d q i)
placed_put r y z (Par m n) d q = λ i. Par (placed_put r y z m d q i) (placed_put r y z n d q i)
placed_put r y z (If m n p) d q = λ i. If (placed_put r y z m d q i) (placed_put r y z n d q i) (placed_put r y z p d q i)
placed_put r y z (While m n) d q = λ i. While (placed_put r y z m d q i) (placed_put r y z n d q i)
placed_put r y z (Assign m n) d q = λ i. Assign (placed_put r y z m d q i) (placed_put r y z n d q i)
placed_put r y z (Deref m) d q = λ i. Deref (placed_put r y z m d q i)
placed_put r y z (New w m) d q = λ i. New w (placed_put r y z m (suc d) q i)
placed_put r y z (NewArray n w m) d q = λ i. NewArray n w (placed_put r y z m (suc d) q i)
placed_put r y z (Not m) d q = λ i. Not (placed_put r y z m d q i)
placed_put r y z (Bin op m n) d q = λ i. Bin op (placed_put r y z m d q i) (placed_put r y z n d q i)
placed_put r y z (Loc l) d q = refl
placed_put r y z (Arr l) d q = refl
placed_put r y z (Scope l m) d q = λ i. Scope (r l) (placed_put r y z m d q i)
placed_put r y z (Wait x n) d q = wait_placed r y z d (bytes_eq x y) x n q
placed_put r y z (Held k op n) d q = λ i. Held k op (placed_put r y z n d q i)
placed_put r y z (Put m k) d q = λ i. Put (placed_put r y z m d q i) k

-- a relation that holds of placed terms is lifted to reached places
abbrev Placed : (ℕ → ℕ) → Name → ℕ → Rel → Rel
Placed r y z R a b = Reached R (placed r y z a) (placed r y z b)

wait_zero : (z : ℕ) (x : Name) (b : Bool) → wait_for b z x 0 ≡ Wait x 0
wait_zero z x true = refl
wait_zero z x false = refl

placed_in : (r : ℕ → ℕ) (y : Name) (z : ℕ) (R : Rel) (c : Context) (a b : Term) → Placed r y z R a b → Placed r y z R (plug c a) (plug c b)
placed_in r y z R (SeqFirst n) a b h = inr (placed r y z b, refl, h)
placed_in r y z R (ParLeft n) a b h = inr (inl (placed r y z b, refl, h))
placed_in r y z R (ParRight n) a b h = inr (inr (placed r y z b, refl, h))
placed_in r y z R (IfTest n p) a b h = inr (placed r y z b, refl, h)
placed_in r y z R (BinLeft op n) a b h = inr (placed r y z b, refl, h)
placed_in r y z R (HeldRight k op) a b h = inr (placed r y z b, refl, h)
placed_in r y z R NotOf a b h = inr (placed r y z b, refl, h)
placed_in r y z R (AssignRight n) a b h = inr (placed r y z b, refl, h)
placed_in r y z R (ScopeBody l) a b h = inr (placed r y z b, refl, h)
placed_in r y z R (ReadIndex x n) a b h =
    let g = placed r y z in
    subst (λ (v : Term). Reached R (Deref (App v (Both (g n) (g a)))) (Deref (App v (Both (g n) (g b))))) (sym (wait_zero z x (bytes_eq x y)))
    (inr (App (Wait x 0) (Both (g n) (g b)), refl, inl ((x, refl), g b, refl, h)))
placed_in r y z R (WriteIndex x n k) a b h =
    let g = placed r y z in
    subst (λ (v : Term). Reached R (Put (App v (Both (g n) (g a))) k) (Put (App v (Both (g n) (g b))) k)) (sym (wait_zero z x (bytes_eq x y)))
    (inr (App (Wait x 0) (Both (g n) (g b)), refl, inl ((x, refl), g b, refl, h)))
placed_in r y z R (ReadAt l) a b h = inr (App (Arr (r l)) (placed r y z b), refl, inr ((r l, refl), placed r y z b, refl, h))
placed_in r y z R (WriteAt l k) a b h = inr (App (Arr (r l)) (placed r y z b), refl, inr ((r l, refl), placed r y z b, refl, h))

pub reached_placed : (r : ℕ → ℕ) (y : Name) (z : ℕ) (R S : Rel) → ((a b : Term) → R a b → S (placed r y z a) (placed r y z b)) → (m t : Term) → Reached R m t
    → Reached S (placed r y z m) (placed r y z t)
reached_placed r y z R S f m t h = reached_lifted R (Placed r y z S) (λ a b g. inl (f a b g)) (placed_in r y z S) m t h

-- heads
rewrites_placed : (r : ℕ → ℕ) (y : Name) (z : ℕ) (m t : Term) → Rewrites m t → Rewrites (placed r y z m) (placed r y z t)
rewrites_placed r y z (App m n) t (a, b, em, et) = (a, placed r y z b, ap (placed r y z) em, ap (placed r y z) et ∙ placed_put r y z b 0 n)
rewrites_placed r y z (Fst m) t (n, e) = (placed r y z n, ap (placed r y z) e)
rewrites_placed r y z (Snd m) t (n, e) = (placed r y z n, ap (placed r y z) e)
rewrites_placed r y z m t h = absurd h

under_placed : (r : ℕ → ℕ) (y : Name) (z : ℕ) (m t : Term) → Under Rewrites m t → Under Rewrites (placed r y z m) (placed r y z t)
under_placed r y z (App m n) t (m', e, inl h) = (placed r y z m', ap (placed r y z) e, inl (rewrites_placed r y z m m' h))
under_placed r y z (App m n) t (m', e, inr h) = (placed r y z m', ap (placed r y z) e, inr (under_placed r y z m m' h))
under_placed r y z (Fst m) t (m', e, inl h) = (placed r y z m', ap (placed r y z) e, inl (rewrites_placed r y z m m' h))
under_placed r y z (Fst m) t (m', e, inr h) = (placed r y z m', ap (placed r y z) e, inr (under_placed r y z m m' h))
under_placed r y z (Snd m) t (m', e, inl h) = (placed r y z m', ap (placed r y z) e, inl (rewrites_placed r y z m m' h))
under_placed r y z (Snd m) t (m', e, inr h) = (placed r y z m', ap (placed r y z) e, inr (under_placed r y z m m' h))
under_placed r y z m t h = absurd h

aside_placed : (r : ℕ → ℕ) (y : Name) (z : ℕ) (m t : Term) → Aside Rewrites m t → Aside Rewrites (placed r y z m) (placed r y z t)
aside_placed r y z (Put m k) t (m', e, inl h) = (placed r y z m', ap (placed r y z) e, inl (rewrites_placed r y z m m' h))
aside_placed r y z (Put m k) t (m', e, inr h) = (placed r y z m', ap (placed r y z) e, inr (under_placed r y z m m' h))
aside_placed r y z (Deref m) t (m', e, inl h) = (placed r y z m', ap (placed r y z) e, inl (rewrites_placed r y z m m' h))
aside_placed r y z (Deref m) t (m', e, inr h) = (placed r y z m', ap (placed r y z) e, inr (under_placed r y z m m' h))
aside_placed r y z m t h = absurd h

head_placed : (r : ℕ → ℕ) (y : Name) (z : ℕ) (m t : Term) → OneHead m t → OneHead (placed r y z m) (placed r y z t)
head_placed r y z m t (inl (inl h)) = inl (inl (rewrites_placed r y z m t h))
head_placed r y z m t (inl (inr h)) = inl (inr (under_placed r y z m t h))
head_placed r y z m t (inr h) = inr (aside_placed r y z m t h)

pub unfoldings_placed : (r : ℕ → ℕ) (y : Name) (z : ℕ) (n : ℕ) (m t : Term) → Unfoldings n m t → Unfoldings n (placed r y z m) (placed r y z t)
unfoldings_placed r y z zero m t h = ap (placed r y z) h
unfoldings_placed r y z (suc n) m t (u, h, hs) =
    (placed r y z u, reached_placed r y z OneHead OneHead (head_placed r y z) m u h, unfoldings_placed r y z n u t hs)

-- values
pub value_placed : (r : ℕ → ℕ) (y : Name) (z : ℕ) (v : Term) → IsValue v → placed r y z v ≡ v
value_placed r y z v (inl e) = ap (placed r y z) e ∙ sym e
value_placed r y z v (inr (k, w, e)) = ap (placed r y z) e ∙ sym e

-- what stands for a number does so at the new name
locates_placed : (r : ℕ → ℕ) (y : Name) (z : ℕ) (m : Term) (l i : ℕ) → Locates m l i → Locates (placed r y z m) (r l) i
locates_placed r y z m l i (inl (e, zero')) = inl (ap (placed r y z) e, zero')
locates_placed r y z m l i (inr (w, e)) = inr (w, ap (placed r y z) e)

-- computation
pub placed_row : (r : ℕ → ℕ) (y : Name) (z : ℕ) (f : Store) → IsInjective r → IsFreeOf r f → (s s' : Store) (a b : Term) → Computes s s' a b
    → Computes (beside r s f) (beside r s' f) (placed r y z a) (placed r y z b)
placed_row r y z f inj free s s' (Seq m n) b (em, et, es) = (ap (placed r y z) em, ap (placed r y z) et, ap (λ (x : Store). beside r x f) es)
placed_row r y z f inj free s s' (Par m n) b (em, en, et, es) =
    (ap (placed r y z) em, ap (placed r y z) en, ap (placed r y z) et, ap (λ (x : Store). beside r x f) es)
placed_row r y z f inj free s s' (If m n p) b (inl (em, et), es) =
    (inl (ap (placed r y z) em, ap (placed r y z) et), ap (λ (x : Store). beside r x f) es)
placed_row r y z f inj free s s' (If m n p) b (inr (em, et), es) =
    (inr (ap (placed r y z) em, ap (placed r y z) et), ap (λ (x : Store). beside r x f) es)
placed_row r y z f inj free s s' (While m n) b (et, es) = (ap (placed r y z) et, ap (λ (x : Store). beside r x f) es)
placed_row r y z f inj free s s' (Bin op m n) b (k, w, em, et, es) =
    (k, w, ap (placed r y z) em, ap (placed r y z) et, ap (λ (x : Store). beside r x f) es)
placed_row r y z f inj free s s' (Held k op n) b (j, w, en, et, es) =
    (j, w, ap (placed r y z) en, ap (placed r y z) et, ap (λ (x : Store). beside r x f) es)
placed_row r y z f inj free s s' (Not m) b (k, w, em, et, es) =
    (k, w, ap (placed r y z) em, ap (placed r y z) et, ap (λ (x : Store). beside r x f) es)
placed_row r y z f inj free s s' (Assign m n) b (k, w, en, et, es) =
    (k, w, ap (placed r y z) en, ap (placed r y z) et, ap (λ (x : Store). beside r x f) es)
placed_row r y z f inj free s s' (Put m k) b (e, j, old, em, here, has, et, es) = (
  record e { place = r e.place },
  j,
  old,
  locates_placed r y z m e.place j em,
  entry_beside r inj s f e.place (free e.place) ∙ ap (moved r) here,
  has,
  ap (placed r y z) et,
  ap (λ (x : Store). beside r x f) es ∙ put_beside r inj s f e.place j k (free e.place),
)
placed_row r y z f inj free s s' (Deref m) b (e, j, old, em, here, has, et, es) = (
  record e { place = r e.place },
  j,
  old,
  locates_placed r y z m e.place j em,
  entry_beside r inj s f e.place (free e.place) ∙ ap (moved r) here,
  has,
  ap (placed r y z) et,
  ap (λ (x : Store). beside r x f) es,
)
placed_row r y z f inj free s s' (New w m) b (l, absent, et, es) = (
  r l,
  entry_beside r inj s f l (free l) ∙ ap (moved r) absent,
  ap (placed r y z) et ∙ ap (λ (x : Term). Scope (r l) x) (placed_put r y z m 0 (Loc l)),
  ap (λ (x : Store). beside r x f) es,
)
placed_row r y z f inj free s s' (NewArray n w m) b (l, absent, et, es) = (
  r l,
  entry_beside r inj s f l (free l) ∙ ap (moved r) absent,
  ap (placed r y z) et ∙ ap (λ (x : Term). Scope (r l) x) (placed_put r y z m 0 (Arr l)),
  ap (λ (x : Store). beside r x f) es,
)
placed_row r y z f inj free s s' (Scope l m) b (is, et, es) = (
  subst IsValue (sym (value_placed r y z m is)) is,
  ap (placed r y z) et,
  ap (λ (x : Store). beside r x f) es ∙ without_beside r inj s f l (free l),
)
placed_row r y z f inj free s s' m b h = absurd h

pub import_placed : (r : ℕ → ℕ) (y : Name) (z : ℕ) (x : Name) → bytes_eq x y ≡ false → placed r y z (Import x) ≡ Import x
import_placed r y z x f = rw f refl

-- a source without the import, and without locations
pub sources_placed : (r : ℕ → ℕ) (y : Name) (z : ℕ) (i : Imports) (g : List Type') (m : Term) (t : Type') → Typed i g m t → import_type i y ≡ None
    → placed r y z m ≡ m
sources_placed r y z i g Skip t h none = refl
sources_placed r y z i g (Lit k w) t h none = refl
sources_placed r y z i g (Bound n) t h none = refl
sources_placed r y z i g (Import x) t h none =
    import_placed r y z x (name_cases x y (λ same e. let bad : None ≡ Some t = sym none ∙ (sym (ap (import_type i) same) ∙ h) in absurd cc) (λ f. f))
sources_placed r y z i g (Lam a m) t (b, e, h) none = λ j. Lam a (sources_placed r y z i (a ∷ g) m b h none j)
sources_placed r y z i g (App m n) t (a, h, k, apart) none = λ j. App (sources_placed r y z i g m (Fun a t) h none j) (sources_placed r y z i g n a k none j)
sources_placed r y z i g (Both m n) t (a, b, e, h, k) none = λ j. Both (sources_placed r y z i g m a h none j) (sources_placed r y z i g n b k none j)
sources_placed r y z i g (Fst m) t (b, h) none = λ j. Fst (sources_placed r y z i g m (Pair t b) h none j)
sources_placed r y z i g (Snd m) t (a, h) none = λ j. Snd (sources_placed r y z i g m (Pair a t) h none j)
sources_placed r y z i g (Seq m n) t (d, h, k) none = λ j. Seq (sources_placed r y z i g m Com h none j) (sources_placed r y z i g n t k none j)
sources_placed r y z i g (Par m n) t (e, h, k, apart) none = λ j. Par (sources_placed r y z i g m Com h none j) (sources_placed r y z i g n Com k none j)
sources_placed r y z i g (If m n p) t (d, h, k, o) none =
    λ j. If (sources_placed r y z i g m (Exp 1) h none j) (sources_placed r y z i g n t k none j) (sources_placed r y z i g p t o none j)
sources_placed r y z i g (While m n) t (e, h, k) none = λ j. While (sources_placed r y z i g m (Exp 1) h none j) (sources_placed r y z i g n Com k none j)
sources_placed r y z i g (Assign m n) t (w, e, h, k) none =
    λ j. Assign (sources_placed r y z i g m (Var w) h none j) (sources_placed r y z i g n (Exp w) k none j)
sources_placed r y z i g (Deref m) t (w, e, h) none = λ j. Deref (sources_placed r y z i g m (Var w) h none j)
sources_placed r y z i g (New w m) t (d, k, h) none = λ j. New w (sources_placed r y z i (Var w ∷ g) m t h none j)
sources_placed r y z i g (NewArray n w m) t (d, l, k, h) none = λ j. NewArray n w (sources_placed r y z i (array_type n w ∷ g) m t h none j)
sources_placed r y z i g (Not m) t (w, e, h) none = λ j. Not (sources_placed r y z i g m (Exp w) h none j)
sources_placed r y z i g (Bin op m n) t (w, e, h, k) none =
    λ j. Bin op (sources_placed r y z i g m (Exp w) h none j) (sources_placed r y z i g n (Exp w) k none j)
sources_placed r y z i g (Loc l) t h none = absurd h
sources_placed r y z i g (Arr l) t h none = absurd h
sources_placed r y z i g (Scope l m) t h none = absurd h
sources_placed r y z i g (Wait x s) t h none = absurd h
sources_placed r y z i g (Held k op n) t h none = absurd h
sources_placed r y z i g (Put m k) t h none = absurd h

pub bodies_placed : BodiesArePlaced
bodies_placed r y z i a m t typed none =
    placed_put r y z m 0 (Import y)
    ∙ (ap (λ (x : Term). put_at 0 x (placed r y z m)) (rw (same_bytes_eq y y refl) refl)
    ∙ ap (put_at 0 (Loc z)) (sources_placed r y z i (a ∷ []) m t typed none))
