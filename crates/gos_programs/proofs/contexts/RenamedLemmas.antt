-- What a term does it does renamed, beside other locations.
use Rattle.std.specs.Prelude.{◌≡◌, ℕ, zero, suc, Bool, true, false, List, ◌∷◌, Option, Some, nat_eq, if◌then◌else◌}
use Rattle.std.proofs.Common.{refl, sym, ap, subst, inl, inr, ◌∙◌}
use Rattle.gos_types.specs.Types.{Type', Com, Exp, Var, Pair, Fun}
use Rattle.gos_model.specs.Terms.{Term, Skip, Lit, Bound, Import, Lam, App, Both, Fst, Snd, Seq, Par, If, While, Assign, Deref, New, Not, Bin, Loc, Scope, Wait, Held, Put, NewArray, Arr}
use Rattle.gos_model.specs.Substitution.{put_at}
use Rattle.gos_model.specs.Typing.{Imports, Typed, import_type, array_type}
use Rattle.gos_model.specs.Stores.{Store}
use Rattle.gos_model.specs.Reach.{Rel, Reached, Rewrites, Under, Aside}
use Rattle.gos_model.specs.Steps.{Computes, IsValue, Locates}
use Rattle.gos_model.specs.Labels.{Label, IsAnswer}
use Rattle.gos_model.specs.Moves.{Act, Computing, Showing, Acts, Unfoldings}
use Rattle.gos_model.proofs.AccessMapLemmas.{puts_mapped, reads_mapped, writes_mapped}
use Rattle.gos_programs.specs.contexts.Contexts.{Context, SeqFirst, ParLeft, ParRight, IfTest, BinLeft, HeldRight, NotOf, AssignRight, ScopeBody, ReadIndex, WriteIndex, plug, ReadAt, WriteAt}
use Rattle.gos_programs.specs.contexts.Renaming.{renamed, IsInjective, IsFreeOf, beside}
use Rattle.gos_programs.proofs.contexts.BackwardLemmas.{OneHead, OneLabel}
use Rattle.gos_programs.proofs.contexts.ReachedLemmas.{reached_lifted}
use Rattle.gos_programs.proofs.contexts.RenamedStoreLemmas.{entry_beside, put_beside, without_beside, moved}

-- substitution goes with renaming
renamed_choice : (r : ℕ → ℕ) (b : Bool) (m n : Term) → renamed r (if b then m else n) ≡ (if b then renamed r m else renamed r n)
renamed_choice r true m n = refl
renamed_choice r false m n = refl

pub renamed_put : (r : ℕ → ℕ) (m : Term) (d : ℕ) (q : Term) → renamed r (put_at d q m) ≡ put_at d (renamed r q) (renamed r m)
renamed_put r Skip d q = refl
renamed_put r (Lit k w) d q = refl
renamed_put r (Bound n) d q = renamed_choice r (nat_eq n d) q (Bound n)
renamed_put r (Import x) d q = refl
renamed_put r (Lam a m) d q = λ i. Lam a (renamed_put r m (suc d) q i)
renamed_put r (App m n) d q = λ i. App (renamed_put r m d q i) (renamed_put r n d q i)
renamed_put r (Both m n) d q = λ i. Both (renamed_put r m d q i) (renamed_put r n d q i)
renamed_put r (Fst m) d q = λ i. Fst (renamed_put r m d q i)
renamed_put r (Snd m) d q = λ i. Snd (renamed_put r m d q i)
renamed_put r (Seq m n) d q = λ i. Seq (renamed_put r m d q i) (renamed_put r n d q i)
renamed_put r (Par m n) d q = λ i. Par (renamed_put r m d q i) (renamed_put r n d q i)
renamed_put r (If m n p) d q = λ i. If (renamed_put r m d q i) (renamed_put r n d q i) (renamed_put r p d q i)
renamed_put r (While m n) d q = λ i. While (renamed_put r m d q i) (renamed_put r n d q i)
renamed_put r (Assign m n) d q = λ i. Assign (renamed_put r m d q i) (renamed_put r n d q i)
renamed_put r (Deref m) d q = λ i. Deref (renamed_put r m d q i)
renamed_put r (New w m) d q = λ i. New w (renamed_put r m (suc d) q i)
renamed_put r (NewArray n w m) d q = λ i. NewArray n w (renamed_put r m (suc d) q i)
renamed_put r (Not m) d q = λ i. Not (renamed_put r m d q i)
renamed_put r (Bin op m n) d q = λ i. Bin op (renamed_put r m d q i) (renamed_put r n d q i)
renamed_put r (Loc l) d q = refl
renamed_put r (Arr l) d q = refl
renamed_put r (Scope l m) d q = λ i. Scope (r l) (renamed_put r m d q i)
renamed_put r (Wait x s) d q = refl
renamed_put r (Held k op n) d q = λ i. Held k op (renamed_put r n d q i)
renamed_put r (Put m k) d q = λ i. Put (renamed_put r m d q i) k

-- a source has no locations
pub sources_renamed : (r : ℕ → ℕ) (i : Imports) (g : List Type') (m : Term) (t : Type') → Typed i g m t → renamed r m ≡ m
sources_renamed r i g Skip t h = refl
sources_renamed r i g (Lit k w) t h = refl
sources_renamed r i g (Bound n) t h = refl
sources_renamed r i g (Import x) t h = refl
sources_renamed r i g (Lam a m) t (b, e, h) = λ j. Lam a (sources_renamed r i (a ∷ g) m b h j)
sources_renamed r i g (App m n) t (a, h, k, apart) = λ j. App (sources_renamed r i g m (Fun a t) h j) (sources_renamed r i g n a k j)
sources_renamed r i g (Both m n) t (a, b, e, h, k) = λ j. Both (sources_renamed r i g m a h j) (sources_renamed r i g n b k j)
sources_renamed r i g (Fst m) t (b, h) = λ j. Fst (sources_renamed r i g m (Pair t b) h j)
sources_renamed r i g (Snd m) t (a, h) = λ j. Snd (sources_renamed r i g m (Pair a t) h j)
sources_renamed r i g (Seq m n) t (d, h, k) = λ j. Seq (sources_renamed r i g m Com h j) (sources_renamed r i g n t k j)
sources_renamed r i g (Par m n) t (e, h, k, apart) = λ j. Par (sources_renamed r i g m Com h j) (sources_renamed r i g n Com k j)
sources_renamed r i g (If m n p) t (d, h, k, o) = λ j. If (sources_renamed r i g m (Exp 1) h j) (sources_renamed r i g n t k j) (sources_renamed r i g p t o j)
sources_renamed r i g (While m n) t (e, h, k) = λ j. While (sources_renamed r i g m (Exp 1) h j) (sources_renamed r i g n Com k j)
sources_renamed r i g (Assign m n) t (w, e, h, k) = λ j. Assign (sources_renamed r i g m (Var w) h j) (sources_renamed r i g n (Exp w) k j)
sources_renamed r i g (Deref m) t (w, e, h) = λ j. Deref (sources_renamed r i g m (Var w) h j)
sources_renamed r i g (New w m) t (d, k, h) = λ j. New w (sources_renamed r i (Var w ∷ g) m t h j)
sources_renamed r i g (NewArray n w m) t (d, l, k, h) = λ j. NewArray n w (sources_renamed r i (array_type n w ∷ g) m t h j)
sources_renamed r i g (Not m) t (w, e, h) = λ j. Not (sources_renamed r i g m (Exp w) h j)
sources_renamed r i g (Bin op m n) t (w, e, h, k) = λ j. Bin op (sources_renamed r i g m (Exp w) h j) (sources_renamed r i g n (Exp w) k j)
sources_renamed r i g (Loc l) t h = absurd h
sources_renamed r i g (Arr l) t h = absurd h
sources_renamed r i g (Scope l m) t h = absurd h
sources_renamed r i g (Wait x s) t h = absurd h
sources_renamed r i g (Held k op n) t h = absurd h
sources_renamed r i g (Put m k) t h = absurd h

-- a relation that holds of renamed terms is lifted to reached places
abbrev Renamed : (ℕ → ℕ) → Rel → Rel
Renamed r R a b = Reached R (renamed r a) (renamed r b)

renamed_in : (r : ℕ → ℕ) (R : Rel) (c : Context) (a b : Term) → Renamed r R a b → Renamed r R (plug c a) (plug c b)
renamed_in r R (SeqFirst n) a b h = inr (renamed r b, refl, h)
renamed_in r R (ParLeft n) a b h = inr (inl (renamed r b, refl, h))
renamed_in r R (ParRight n) a b h = inr (inr (renamed r b, refl, h))
renamed_in r R (IfTest n p) a b h = inr (renamed r b, refl, h)
renamed_in r R (BinLeft op n) a b h = inr (renamed r b, refl, h)
renamed_in r R (HeldRight k op) a b h = inr (renamed r b, refl, h)
renamed_in r R NotOf a b h = inr (renamed r b, refl, h)
renamed_in r R (AssignRight n) a b h = inr (renamed r b, refl, h)
renamed_in r R (ScopeBody l) a b h = inr (renamed r b, refl, h)
renamed_in r R (ReadIndex x n) a b h = inr (App (Wait x 0) (Both (renamed r n) (renamed r b)), refl, inl ((x, refl), renamed r b, refl, h))
renamed_in r R (WriteIndex x n k) a b h = inr (App (Wait x 0) (Both (renamed r n) (renamed r b)), refl, inl ((x, refl), renamed r b, refl, h))
renamed_in r R (ReadAt l) a b h = inr (App (Arr (r l)) (renamed r b), refl, inr ((r l, refl), renamed r b, refl, h))
renamed_in r R (WriteAt l k) a b h = inr (App (Arr (r l)) (renamed r b), refl, inr ((r l, refl), renamed r b, refl, h))

pub reached_renamed : (r : ℕ → ℕ) (R S : Rel) → ((a b : Term) → R a b → S (renamed r a) (renamed r b)) → (m t : Term) → Reached R m t
    → Reached S (renamed r m) (renamed r t)
reached_renamed r R S f m t h = reached_lifted R (Renamed r S) (λ a b g. inl (f a b g)) (renamed_in r S) m t h

-- heads
rewrites_renamed : (r : ℕ → ℕ) (m t : Term) → Rewrites m t → Rewrites (renamed r m) (renamed r t)
rewrites_renamed r (App m n) t (a, b, em, et) = (a, renamed r b, ap (renamed r) em, ap (renamed r) et ∙ renamed_put r b 0 n)
rewrites_renamed r (Fst m) t (n, e) = (renamed r n, ap (renamed r) e)
rewrites_renamed r (Snd m) t (n, e) = (renamed r n, ap (renamed r) e)
rewrites_renamed r m t h = absurd h

under_renamed : (r : ℕ → ℕ) (m t : Term) → Under Rewrites m t → Under Rewrites (renamed r m) (renamed r t)
under_renamed r (App m n) t (m', e, inl h) = (renamed r m', ap (renamed r) e, inl (rewrites_renamed r m m' h))
under_renamed r (App m n) t (m', e, inr h) = (renamed r m', ap (renamed r) e, inr (under_renamed r m m' h))
under_renamed r (Fst m) t (m', e, inl h) = (renamed r m', ap (renamed r) e, inl (rewrites_renamed r m m' h))
under_renamed r (Fst m) t (m', e, inr h) = (renamed r m', ap (renamed r) e, inr (under_renamed r m m' h))
under_renamed r (Snd m) t (m', e, inl h) = (renamed r m', ap (renamed r) e, inl (rewrites_renamed r m m' h))
under_renamed r (Snd m) t (m', e, inr h) = (renamed r m', ap (renamed r) e, inr (under_renamed r m m' h))
under_renamed r m t h = absurd h

aside_renamed : (r : ℕ → ℕ) (m t : Term) → Aside Rewrites m t → Aside Rewrites (renamed r m) (renamed r t)
aside_renamed r (Put m k) t (m', e, inl h) = (renamed r m', ap (renamed r) e, inl (rewrites_renamed r m m' h))
aside_renamed r (Put m k) t (m', e, inr h) = (renamed r m', ap (renamed r) e, inr (under_renamed r m m' h))
aside_renamed r (Deref m) t (m', e, inl h) = (renamed r m', ap (renamed r) e, inl (rewrites_renamed r m m' h))
aside_renamed r (Deref m) t (m', e, inr h) = (renamed r m', ap (renamed r) e, inr (under_renamed r m m' h))
aside_renamed r m t h = absurd h

head_renamed : (r : ℕ → ℕ) (m t : Term) → OneHead m t → OneHead (renamed r m) (renamed r t)
head_renamed r m t (inl (inl h)) = inl (inl (rewrites_renamed r m t h))
head_renamed r m t (inl (inr h)) = inl (inr (under_renamed r m t h))
head_renamed r m t (inr h) = inr (aside_renamed r m t h)

pub unfoldings_renamed : (r : ℕ → ℕ) (n : ℕ) (m t : Term) → Unfoldings n m t → Unfoldings n (renamed r m) (renamed r t)
unfoldings_renamed r zero m t h = ap (renamed r) h
unfoldings_renamed r (suc n) m t (u, h, hs) =
    (renamed r u, reached_renamed r OneHead OneHead (head_renamed r) m u h, unfoldings_renamed r n u t hs)

-- labels
answer_renamed : (r : ℕ → ℕ) (o : Option Type') (n k : ℕ) (t : Term) → IsAnswer o n k t → IsAnswer o n k (renamed r t)
answer_renamed r (Some Com) (suc zero) k t h = (h.0, ap (renamed r) h.1)
answer_renamed r (Some (Exp w)) (suc zero) k t h = (h.0, ap (renamed r) h.1)
answer_renamed r (Some (Var w)) (suc zero) k t h = (h.0, ap (renamed r) h.1)
answer_renamed r (Some (Var w)) (suc (suc (suc zero))) k t h = (h.0, ap (renamed r) h.1)
answer_renamed r o n k t h = absurd h

label_renamed : (r : ℕ → ℕ) (i : Imports) (o : Label) (a b : Term) → OneLabel i o a b → OneLabel i o (renamed r a) (renamed r b)
label_renamed r i o (Import x) b (inl (inl (h, e, et))) = inl (inl (h, e, ap (renamed r) et))
label_renamed r i o (Import x) b (inl (inr (w, h, e, et))) = inl (inr (w, h, e, ap (renamed r) et))
label_renamed r i o (Deref m) b (inl (inl (x, w, em, h, e, et))) = inl (inl (x, w, ap (renamed r) em, h, e, ap (renamed r) et))
label_renamed r i o (Put m n) b (inl (inl (x, w, em, h, e, et))) = inl (inl (x, w, ap (renamed r) em, h, e, ap (renamed r) et))
label_renamed r i o (Wait x n) b (inr (p, e, h)) = inr (p, e, answer_renamed r (import_type i x) n o.value b h)
label_renamed r i o (Deref m) b (inl (inr (x, p, h))) =
    inl (inr (x, p, puts_mapped i i (renamed r) (λ (u : Term). Deref u) x (record { app = λ h n. refl; both = λ m n. refl; access = λ m. refl; skip = refl; literal = λ k w. refl; import = refl; wait = λ s. refl }) refl 2 0 o.event o.value m b h))
label_renamed r i o (Deref m) b (inr (x, p, h)) =
    inr (x, p, reads_mapped i i (renamed r) (λ (u : Term). Deref u) x (record { app = λ h n. refl; both = λ m n. refl; access = λ m. refl; skip = refl; literal = λ k w. refl; import = refl; wait = λ s. refl }) refl o.event o.value m b h)
label_renamed r i o (Put m n) b (inl (inr (x, p, h))) =
    inl (inr (x, p, puts_mapped i i (renamed r) (λ (u : Term). Put u n) x (record { app = λ h n. refl; both = λ m n. refl; access = λ m. refl; skip = refl; literal = λ k w. refl; import = refl; wait = λ s. refl }) refl 4 n o.event o.value m b h))
label_renamed r i o (Put m n) b (inr (x, p, h)) =
    inr (x, p, writes_mapped i i (renamed r) (λ (u : Term). Put u n) x (record { app = λ h n. refl; both = λ m n. refl; access = λ m. refl; skip = refl; literal = λ k w. refl; import = refl; wait = λ s. refl }) refl o.event o.value m b h)
label_renamed r i o a b (inl h) = absurd h
label_renamed r i o a b (inr h) = absurd h

-- values
pub value_renamed : (r : ℕ → ℕ) (v : Term) → IsValue v → renamed r v ≡ v
value_renamed r v (inl e) = ap (renamed r) e ∙ sym e
value_renamed r v (inr (k, w, e)) = ap (renamed r) e ∙ sym e

-- what stands for a number does so at the new name
pub locates_renamed : (r : ℕ → ℕ) (m : Term) (l i : ℕ) → Locates m l i → Locates (renamed r m) (r l) i
locates_renamed r m l i (inl (e, z)) = inl (ap (renamed r) e, z)
locates_renamed r m l i (inr (w, e)) = inr (w, ap (renamed r) e)

-- computation
row_beside : (r : ℕ → ℕ) (f : Store) → IsInjective r → IsFreeOf r f → (s s' : Store) (a b : Term) → Computes s s' a b
    → Computes (beside r s f) (beside r s' f) (renamed r a) (renamed r b)
row_beside r f inj free s s' (Seq m n) b (em, et, es) = (ap (renamed r) em, ap (renamed r) et, ap (λ (x : Store). beside r x f) es)
row_beside r f inj free s s' (Par m n) b (em, en, et, es) =
    (ap (renamed r) em, ap (renamed r) en, ap (renamed r) et, ap (λ (x : Store). beside r x f) es)
row_beside r f inj free s s' (If m n p) b (inl (em, et), es) =
    (inl (ap (renamed r) em, ap (renamed r) et), ap (λ (x : Store). beside r x f) es)
row_beside r f inj free s s' (If m n p) b (inr (em, et), es) =
    (inr (ap (renamed r) em, ap (renamed r) et), ap (λ (x : Store). beside r x f) es)
row_beside r f inj free s s' (While m n) b (et, es) = (ap (renamed r) et, ap (λ (x : Store). beside r x f) es)
row_beside r f inj free s s' (Bin op m n) b (k, w, em, et, es) =
    (k, w, ap (renamed r) em, ap (renamed r) et, ap (λ (x : Store). beside r x f) es)
row_beside r f inj free s s' (Held k op n) b (j, w, en, et, es) =
    (j, w, ap (renamed r) en, ap (renamed r) et, ap (λ (x : Store). beside r x f) es)
row_beside r f inj free s s' (Not m) b (k, w, em, et, es) =
    (k, w, ap (renamed r) em, ap (renamed r) et, ap (λ (x : Store). beside r x f) es)
row_beside r f inj free s s' (Assign m n) b (k, w, en, et, es) =
    (k, w, ap (renamed r) en, ap (renamed r) et, ap (λ (x : Store). beside r x f) es)
row_beside r f inj free s s' (Put m k) b (e, j, old, em, here, has, et, es) = (
  record e { place = r e.place },
  j,
  old,
  locates_renamed r m e.place j em,
  entry_beside r inj s f e.place (free e.place) ∙ ap (moved r) here,
  has,
  ap (renamed r) et,
  ap (λ (x : Store). beside r x f) es ∙ put_beside r inj s f e.place j k (free e.place),
)
row_beside r f inj free s s' (Deref m) b (e, j, old, em, here, has, et, es) = (
  record e { place = r e.place },
  j,
  old,
  locates_renamed r m e.place j em,
  entry_beside r inj s f e.place (free e.place) ∙ ap (moved r) here,
  has,
  ap (renamed r) et,
  ap (λ (x : Store). beside r x f) es,
)
row_beside r f inj free s s' (New w m) b (l, absent, et, es) = (
  r l,
  entry_beside r inj s f l (free l) ∙ ap (moved r) absent,
  ap (renamed r) et ∙ ap (λ (x : Term). Scope (r l) x) (renamed_put r m 0 (Loc l)),
  ap (λ (x : Store). beside r x f) es,
)
row_beside r f inj free s s' (NewArray n w m) b (l, absent, et, es) = (
  r l,
  entry_beside r inj s f l (free l) ∙ ap (moved r) absent,
  ap (renamed r) et ∙ ap (λ (x : Term). Scope (r l) x) (renamed_put r m 0 (Arr l)),
  ap (λ (x : Store). beside r x f) es,
)
row_beside r f inj free s s' (Scope l m) b (is, et, es) = (
  subst IsValue (sym (value_renamed r m is)) is,
  ap (renamed r) et,
  ap (λ (x : Store). beside r x f) es ∙ without_beside r inj s f l (free l),
)
row_beside r f inj free s s' m b h = absurd h

pub acts_beside : (r : ℕ → ℕ) (f : Store) (i : Imports) (a : Act) (s u : Store) (m t : Term)
    → IsInjective r → IsFreeOf r f → Acts i a s u m t → Acts i a (beside r s f) (beside r u f) (renamed r m) (renamed r t)
acts_beside r f i Computing s u m t inj free h =
    reached_renamed r (Computes s u) (Computes (beside r s f) (beside r u f)) (row_beside r f inj free s u) m t h
acts_beside r f i (Showing o) s u m t inj free (h, e) =
    (reached_renamed r (OneLabel i o) (OneLabel i o) (label_renamed r i o) m t h, ap (λ (x : Store). beside r x f) e)
