-- A doing is what happens at the place in some contexts, and happens in each context.
use Rattle.std.specs.Prelude.{◌≡◌, ℕ, zero, suc, List, [], ◌∷◌, ◌++◌}
use Rattle.std.proofs.Common.{refl, sym, ap, subst, inl, inr, ◌∙◌}
use Rattle.gos_model.specs.Terms.{Term, App, Both, Fst, Snd, Seq, Par, If, Assign, Deref, Not, Bin, Scope, Wait, Held, Put, Arr}
use Rattle.gos_model.specs.Typing.{Imports}
use Rattle.gos_model.specs.Stores.{Store}
use Rattle.gos_model.specs.Reach.{Rel, Reached, InIndex, Rewrites}
use Rattle.gos_model.specs.Paths.{ReachedAt, IndexAt}
use Rattle.gos_model.specs.Steps.{Computes}
use Rattle.gos_model.specs.Moves.{Computing as Silent, Showing as Shows}
use Rattle.gos_programs.specs.contexts.Contexts.{Context, SeqFirst, ParLeft, ParRight, IfTest, BinLeft, HeldRight, NotOf, AssignRight, ScopeBody, ReadIndex, WriteIndex, plug, plug_all, ReadAt, WriteAt}
use Rattle.gos_programs.proofs.contexts.BackwardLemmas.{OneLabel}
use Rattle.gos_programs.proofs.contexts.PluggedLemmas.{reached_plugged}
use Rattle.gos_programs.proofs.variables.UnfoldedLemmas.{of_access}
use Rattle.gos_swaps.specs.doings.Heads.{UnderAt, HeadAt, HeadInIndexAt}
use Rattle.gos_swaps.specs.doings.Doings.{Doing, Unfolding, Computing, Showing, DoesAt, ActsHavePaths}
use Rattle.gos_swaps.specs.doings.Sides.{way, path_through, DoesWithin}

-- R changes the term itself, with no path left
abbrev pub AtOnce : Rel → List ℕ → Rel
AtOnce R [] m t = R m t
AtOnce R (k ∷ rest) m t = ⊥

-- or a head of it, with the rest of the path
abbrev pub HeadHere : Rel → List ℕ → Rel
HeadHere R [] m t = R m t
HeadHere R (zero ∷ rest) (App m n) t = (m' : Term) × (t ≡ App m' n) × UnderAt rest R m m'
HeadHere R (zero ∷ rest) (Fst m) t = (m' : Term) × (t ≡ Fst m') × UnderAt rest R m m'
HeadHere R (zero ∷ rest) (Snd m) t = (m' : Term) × (t ≡ Snd m') × UnderAt rest R m m'
HeadHere R (zero ∷ rest) (Put m k) t = (m' : Term) × (t ≡ Put m' k) × UnderAt rest R m m'
HeadHere R (zero ∷ rest) (Deref m) t = (m' : Term) × (t ≡ Deref m') × UnderAt rest R m m'
HeadHere R (i ∷ rest) m t = ⊥

-- what happens to the term of a reached place
abbrev pub Here : Imports → Doing → Store → Store → List ℕ → Rel
Here i Unfolding s s' rest m t = HeadHere Rewrites rest m t × (s' ≡ s)
Here i Computing s s' rest m t = AtOnce (Computes s s') rest m t
Here i (Showing o) s s' rest m t = AtOnce (OneLabel i o) rest m t × (s' ≡ s)

-- H holds at the place in some contexts, with the rest of the path
abbrev pub Found : (List ℕ → Rel) → List ℕ → Rel
Found H path m t =
    (cs : List Context) × (rest : List ℕ) × (x : Term) × (y : Term)
    × (path ≡ path_through cs rest) × (m ≡ plug_all cs x) × (t ≡ plug_all cs y) × H rest x y

found_in : (H : List ℕ → Rel) (c : Context) (path : List ℕ) (m m' t : Term) → t ≡ plug c m' → Found H path m m'
    → Found H (way c ++ path) (plug c m) t
found_in H c path m m' t e (cs, rest, x, y, ep, em, et, h) =
    (c ∷ cs, rest, x, y, ap (λ (z : List ℕ). way c ++ z) ep, ap (plug c) em, e ∙ ap (plug c) et, h)

-- in the index of an access, which w makes of it
found_access : (H : List ℕ → Rel) (w a : Term → Term) (c : Context) (path : List ℕ) (h k n n' m t : Term) → h ≡ k → m ≡ App h (a n') → t ≡ w m
    → ((v : Term) → plug c v ≡ w (App k (a v))) → Found H path n n' → Found H (way c ++ path) (w (App h (a n))) t
found_access H w a c path h k n n' m t eh em et at f =
    subst (λ (z : Term). Found H (way c ++ path) z t) (at n ∙ ap (λ (v : Term). w (App v (a n))) (sym eh))
    (found_in H c path n n' t (of_access w a c h k n' m t eh em et at) f)

mutual
  found_reached : (R : Rel) (path : List ℕ) (m t : Term) → ReachedAt path R m t → Found (AtOnce R) path m t
  found_reached R [] m t h = ([], [], m, t, refl, refl, refl, h)
  found_reached R (zero ∷ path) (Seq m n) t (m', e, h) = found_in (AtOnce R) (SeqFirst n) path m m' t e (found_reached R path m m' h)
  found_reached R (zero ∷ path) (Par m n) t (m', e, h) = found_in (AtOnce R) (ParLeft n) path m m' t e (found_reached R path m m' h)
  found_reached R (suc zero ∷ path) (Par m n) t (n', e, h) = found_in (AtOnce R) (ParRight m) path n n' t e (found_reached R path n n' h)
  found_reached R (zero ∷ path) (If m n p) t (m', e, h) = found_in (AtOnce R) (IfTest n p) path m m' t e (found_reached R path m m' h)
  found_reached R (zero ∷ path) (Bin op m n) t (m', e, h) = found_in (AtOnce R) (BinLeft op n) path m m' t e (found_reached R path m m' h)
  found_reached R (zero ∷ path) (Held k op n) t (n', e, h) = found_in (AtOnce R) (HeldRight k op) path n n' t e (found_reached R path n n' h)
  found_reached R (zero ∷ path) (Not m) t (m', e, h) = found_in (AtOnce R) NotOf path m m' t e (found_reached R path m m' h)
  found_reached R (suc zero ∷ path) (Assign m n) t (n', e, h) = found_in (AtOnce R) (AssignRight m) path n n' t e (found_reached R path n n' h)
  found_reached R (zero ∷ path) (Scope l m) t (m', e, h) = found_in (AtOnce R) (ScopeBody l) path m m' t e (found_reached R path m m' h)
  found_reached R (zero ∷ path) (Deref m) t (m', e, h) = found_reached_read R path m m' t e h
  found_reached R (zero ∷ path) (Put m k) t (m', e, h) = found_reached_write R path m m' t k e h
  found_reached R (i ∷ path) m t h = absurd h

  found_reached_read : (R : Rel) (path : List ℕ) (m m' t : Term) → t ≡ Deref m' → IndexAt path R m m' → Found (AtOnce R) (zero ∷ path) (Deref m) t
  found_reached_read R (suc zero ∷ path) (App h a) m' t e (inr ((l, eh), b, em, g)) =
      found_access (AtOnce R) (λ (v : Term). Deref v) (λ (v : Term). v) (ReadAt l) path h (Arr l) a b m' t eh em e (λ v. refl) (found_reached R path a b g)
  found_reached_read R (suc zero ∷ suc zero ∷ path) (App h (Both n a)) m' t e (inl ((x, eh), b, em, g)) =
      found_access (AtOnce R) (λ (v : Term). Deref v) (λ (v : Term). Both n v) (ReadIndex x n) path h (Wait x 0) a b m' t eh em e (λ v. refl) (found_reached R path a b g)
  found_reached_read R (suc zero ∷ path) (App h a) m' t e (inl g) = absurd g
  found_reached_read R path m m' t e h = absurd h

  found_reached_write : (R : Rel) (path : List ℕ) (m m' t : Term) (k : ℕ) → t ≡ Put m' k → IndexAt path R m m' → Found (AtOnce R) (zero ∷ path) (Put m k) t
  found_reached_write R (suc zero ∷ path) (App h a) m' t k e (inr ((l, eh), b, em, g)) =
      found_access (AtOnce R) (λ (v : Term). Put v k) (λ (v : Term). v) (WriteAt l k) path h (Arr l) a b m' t eh em e (λ v. refl) (found_reached R path a b g)
  found_reached_write R (suc zero ∷ suc zero ∷ path) (App h (Both n a)) m' t k e (inl ((x, eh), b, em, g)) =
      found_access (AtOnce R) (λ (v : Term). Put v k) (λ (v : Term). Both n v) (WriteIndex x n k) path h (Wait x 0) a b m' t eh em e (λ v. refl) (found_reached R path a b g)
  found_reached_write R (suc zero ∷ path) (App h a) m' t k e (inl g) = absurd g
  found_reached_write R path m m' t k e h = absurd h

mutual
  found_head : (R : Rel) (path : List ℕ) (m t : Term) → HeadAt path R m t → Found (HeadHere R) path m t
  found_head R [] m t h = ([], [], m, t, refl, refl, refl, h)
  found_head R (zero ∷ path) (Seq m n) t (m', e, h) = found_in (HeadHere R) (SeqFirst n) path m m' t e (found_head R path m m' h)
  found_head R (zero ∷ path) (Par m n) t (m', e, h) = found_in (HeadHere R) (ParLeft n) path m m' t e (found_head R path m m' h)
  found_head R (suc zero ∷ path) (Par m n) t (n', e, h) = found_in (HeadHere R) (ParRight m) path n n' t e (found_head R path n n' h)
  found_head R (zero ∷ path) (If m n p) t (m', e, h) = found_in (HeadHere R) (IfTest n p) path m m' t e (found_head R path m m' h)
  found_head R (zero ∷ path) (Bin op m n) t (m', e, h) = found_in (HeadHere R) (BinLeft op n) path m m' t e (found_head R path m m' h)
  found_head R (zero ∷ path) (Held k op n) t (n', e, h) = found_in (HeadHere R) (HeldRight k op) path n n' t e (found_head R path n n' h)
  found_head R (zero ∷ path) (Not m) t (m', e, h) = found_in (HeadHere R) NotOf path m m' t e (found_head R path m m' h)
  found_head R (suc zero ∷ path) (Assign m n) t (n', e, h) = found_in (HeadHere R) (AssignRight m) path n n' t e (found_head R path n n' h)
  found_head R (zero ∷ path) (Scope l m) t (m', e, h) = found_in (HeadHere R) (ScopeBody l) path m m' t e (found_head R path m m' h)
  found_head R (zero ∷ path) (App m n) t h = ([], zero ∷ path, App m n, t, refl, refl, refl, h)
  found_head R (zero ∷ path) (Fst m) t h = ([], zero ∷ path, Fst m, t, refl, refl, refl, h)
  found_head R (zero ∷ path) (Snd m) t h = ([], zero ∷ path, Snd m, t, refl, refl, refl, h)
  found_head R (zero ∷ path) (Put m k) t (m', e, inl h) = ([], zero ∷ path, Put m k, t, refl, refl, refl, (m', e, h))
  found_head R (zero ∷ path) (Deref m) t (m', e, inl h) = ([], zero ∷ path, Deref m, t, refl, refl, refl, (m', e, h))
  found_head R (zero ∷ path) (Put m k) t (m', e, inr h) = found_head_write R path m m' t k e h
  found_head R (zero ∷ path) (Deref m) t (m', e, inr h) = found_head_read R path m m' t e h
  found_head R (i ∷ path) m t h = absurd h

  found_head_read : (R : Rel) (path : List ℕ) (m m' t : Term) → t ≡ Deref m' → HeadInIndexAt path R m m' → Found (HeadHere R) (zero ∷ path) (Deref m) t
  found_head_read R (suc zero ∷ path) (App h a) m' t e (inr ((l, eh), b, em, g)) =
      found_access (HeadHere R) (λ (v : Term). Deref v) (λ (v : Term). v) (ReadAt l) path h (Arr l) a b m' t eh em e (λ v. refl) (found_head R path a b g)
  found_head_read R (suc zero ∷ suc zero ∷ path) (App h (Both n a)) m' t e (inl ((x, eh), b, em, g)) =
      found_access (HeadHere R) (λ (v : Term). Deref v) (λ (v : Term). Both n v) (ReadIndex x n) path h (Wait x 0) a b m' t eh em e (λ v. refl) (found_head R path a b g)
  found_head_read R (suc zero ∷ path) (App h a) m' t e (inl g) = absurd g
  found_head_read R path m m' t e h = absurd h

  found_head_write : (R : Rel) (path : List ℕ) (m m' t : Term) (k : ℕ) → t ≡ Put m' k → HeadInIndexAt path R m m' → Found (HeadHere R) (zero ∷ path) (Put m k) t
  found_head_write R (suc zero ∷ path) (App h a) m' t k e (inr ((l, eh), b, em, g)) =
      found_access (HeadHere R) (λ (v : Term). Put v k) (λ (v : Term). v) (WriteAt l k) path h (Arr l) a b m' t eh em e (λ v. refl) (found_head R path a b g)
  found_head_write R (suc zero ∷ suc zero ∷ path) (App h (Both n a)) m' t k e (inl ((x, eh), b, em, g)) =
      found_access (HeadHere R) (λ (v : Term). Put v k) (λ (v : Term). Both n v) (WriteIndex x n k) path h (Wait x 0) a b m' t eh em e (λ v. refl) (found_head R path a b g)
  found_head_write R (suc zero ∷ path) (App h a) m' t k e (inl g) = absurd g
  found_head_write R path m m' t k e h = absurd h

pub found : (i : Imports) (path : List ℕ) (a : Doing) (s s' : Store) (m t : Term) → DoesAt i path a s s' m t → Found (Here i a s s') path m t
found i path Unfolding s s' m t (h, e) =
    let (cs, rest, x, y, ep, em, et, g) = found_head Rewrites path m t h in (cs, rest, x, y, ep, em, et, (g, e))
found i path Computing s s' m t h = found_reached (Computes s s') path m t h
found i path (Showing o) s s' m t (h, e) =
    let (cs, rest, x, y, ep, em, et, g) = found_reached (OneLabel i o) path m t h in (cs, rest, x, y, ep, em, et, (g, e))

-- what happens here is a doing
head_here : (R : Rel) (rest : List ℕ) (m t : Term) → HeadHere R rest m t → HeadAt rest R m t
head_here R [] m t h = h
head_here R (zero ∷ rest) (App m n) t h = h
head_here R (zero ∷ rest) (Fst m) t h = h
head_here R (zero ∷ rest) (Snd m) t h = h
head_here R (zero ∷ rest) (Put m k) t (m', e, h) = (m', e, inl h)
head_here R (zero ∷ rest) (Deref m) t (m', e, h) = (m', e, inl h)
head_here R (i ∷ rest) m t h = absurd h

reached_here : (R : Rel) (rest : List ℕ) (m t : Term) → AtOnce R rest m t → ReachedAt rest R m t
reached_here R [] m t h = h
reached_here R (k ∷ rest) m t h = absurd h

pub does_here : (i : Imports) (a : Doing) (s s' : Store) (rest : List ℕ) (m t : Term) → Here i a s s' rest m t → DoesAt i rest a s s' m t
does_here i Unfolding s s' rest m t (h, e) = (head_here Rewrites rest m t h, e)
does_here i Computing s s' rest m t h = reached_here (Computes s s') rest m t h
does_here i (Showing o) s s' rest m t (h, e) = (reached_here (OneLabel i o) rest m t h, e)

-- in a context
pub reached_within : (R : Rel) (c : Context) (path : List ℕ) (m t : Term) → ReachedAt path R m t → ReachedAt (way c ++ path) R (plug c m) (plug c t)
reached_within R (SeqFirst n) path m t h = (t, refl, h)
reached_within R (ParLeft n) path m t h = (t, refl, h)
reached_within R (ParRight n) path m t h = (t, refl, h)
reached_within R (IfTest n p) path m t h = (t, refl, h)
reached_within R (BinLeft op n) path m t h = (t, refl, h)
reached_within R (HeldRight k op) path m t h = (t, refl, h)
reached_within R NotOf path m t h = (t, refl, h)
reached_within R (AssignRight n) path m t h = (t, refl, h)
reached_within R (ScopeBody l) path m t h = (t, refl, h)
reached_within R (ReadIndex x n) path m t h = (App (Wait x 0) (Both n t), refl, inl ((x, refl), t, refl, h))
reached_within R (WriteIndex x n k) path m t h = (App (Wait x 0) (Both n t), refl, inl ((x, refl), t, refl, h))
reached_within R (ReadAt l) path m t h = (App (Arr l) t, refl, inr ((l, refl), t, refl, h))
reached_within R (WriteAt l k) path m t h = (App (Arr l) t, refl, inr ((l, refl), t, refl, h))

pub head_within : (R : Rel) (c : Context) (path : List ℕ) (m t : Term) → HeadAt path R m t → HeadAt (way c ++ path) R (plug c m) (plug c t)
head_within R (SeqFirst n) path m t h = (t, refl, h)
head_within R (ParLeft n) path m t h = (t, refl, h)
head_within R (ParRight n) path m t h = (t, refl, h)
head_within R (IfTest n p) path m t h = (t, refl, h)
head_within R (BinLeft op n) path m t h = (t, refl, h)
head_within R (HeldRight k op) path m t h = (t, refl, h)
head_within R NotOf path m t h = (t, refl, h)
head_within R (AssignRight n) path m t h = (t, refl, h)
head_within R (ScopeBody l) path m t h = (t, refl, h)
head_within R (ReadIndex x n) path m t h = (App (Wait x 0) (Both n t), refl, inr (inl ((x, refl), t, refl, h)))
head_within R (WriteIndex x n k) path m t h = (App (Wait x 0) (Both n t), refl, inr (inl ((x, refl), t, refl, h)))
head_within R (ReadAt l) path m t h = (App (Arr l) t, refl, inr (inr ((l, refl), t, refl, h)))
head_within R (WriteAt l k) path m t h = (App (Arr l) t, refl, inr (inr ((l, refl), t, refl, h)))

pub does_within : DoesWithin
does_within i c path Unfolding s s' m t (h, e) = (head_within Rewrites c path m t h, e)
does_within i c path Computing s s' m t h = reached_within (Computes s s') c path m t h
does_within i c path (Showing o) s s' m t (h, e) = (reached_within (OneLabel i o) c path m t h, e)

pub does_through : (i : Imports) (cs : List Context) (path : List ℕ) (a : Doing) (s s' : Store) (m t : Term)
    → DoesAt i path a s s' m t → DoesAt i (path_through cs path) a s s' (plug_all cs m) (plug_all cs t)
does_through i [] path a s s' m t h = h
does_through i (c ∷ cs) path a s s' m t h =
    does_within i c (path_through cs path) a s s' (plug_all cs m) (plug_all cs t) (does_through i cs path a s s' m t h)

-- in a side of a `||` in contexts
pub does_on_left : (i : Imports) (cs : List Context) (p path : List ℕ) (a : Doing) (s s' : Store) (m n k t : Term)
    → p ≡ path_through cs (zero ∷ path) → t ≡ plug_all cs (Par m k) → DoesAt i path a s s' m n → DoesAt i p a s s' t (plug_all cs (Par n k))
does_on_left i cs p path a s s' m n k t ep et h =
    subst (λ (z : List ℕ). DoesAt i z a s s' t (plug_all cs (Par n k))) (sym ep)
    (subst (λ (z : Term). DoesAt i (path_through cs (zero ∷ path)) a s s' z (plug_all cs (Par n k))) (sym et)
    (does_through i cs (zero ∷ path) a s s' (Par m k) (Par n k) (does_within i (ParLeft k) path a s s' m n h)))

pub does_on_right : (i : Imports) (cs : List Context) (p path : List ℕ) (a : Doing) (s s' : Store) (m n k t : Term)
    → p ≡ path_through cs (suc zero ∷ path) → t ≡ plug_all cs (Par k m) → DoesAt i path a s s' m n → DoesAt i p a s s' t (plug_all cs (Par k n))
does_on_right i cs p path a s s' m n k t ep et h =
    subst (λ (z : List ℕ). DoesAt i z a s s' t (plug_all cs (Par k n))) (sym ep)
    (subst (λ (z : Term). DoesAt i (path_through cs (suc zero ∷ path)) a s s' z (plug_all cs (Par k n))) (sym et)
    (does_through i cs (suc zero ∷ path) a s s' (Par k m) (Par k n) (does_within i (ParRight k) path a s s' m n h)))

-- what holds of a change, and in each context of what it holds of, holds of each change at a path
through : (Q : List ℕ → Rel) → ((c : Context) (path : List ℕ) (a b : Term) → Q path a b → Q (way c ++ path) (plug c a) (plug c b))
    → (cs : List Context) (rest : List ℕ) (x y : Term) → Q rest x y → Q (path_through cs rest) (plug_all cs x) (plug_all cs y)
through Q g [] rest x y h = h
through Q g (c ∷ cs) rest x y h = g c (path_through cs rest) (plug_all cs x) (plug_all cs y) (through Q g cs rest x y h)

all_through : (H Q : List ℕ → Rel) → ((rest : List ℕ) (a b : Term) → H rest a b → Q rest a b)
    → ((c : Context) (path : List ℕ) (a b : Term) → Q path a b → Q (way c ++ path) (plug c a) (plug c b))
    → (path : List ℕ) (m t : Term) → Found H path m t → Q path m t
all_through H Q f g path m t (cs, rest, x, y, ep, em, et, h) =
    let there : Q (path_through cs rest) (plug_all cs x) (plug_all cs y) = through Q g cs rest x y (f rest x y h) in
    let one : Q (path_through cs rest) (plug_all cs x) t = subst (λ (z : Term). Q (path_through cs rest) (plug_all cs x) z) (sym et) there in
    let two : Q (path_through cs rest) m t = subst (λ (z : Term). Q (path_through cs rest) z t) (sym em) one in
    subst (λ (z : List ℕ). Q z m t) (sym ep) two

pub reached_lifted_at : (R : Rel) (Q : List ℕ → Rel) → ((a b : Term) → R a b → Q [] a b)
    → ((c : Context) (path : List ℕ) (a b : Term) → Q path a b → Q (way c ++ path) (plug c a) (plug c b))
    → (path : List ℕ) (m t : Term) → ReachedAt path R m t → Q path m t
reached_lifted_at R Q f g path m t h = all_through (AtOnce R) Q here g path m t (found_reached R path m t h)
  where
    here : (rest : List ℕ) (a b : Term) → AtOnce R rest a b → Q rest a b
    here [] a b k = f a b k
    here (n ∷ rest) a b k = absurd k

pub head_lifted_at : (R : Rel) (Q : List ℕ → Rel) → ((rest : List ℕ) (a b : Term) → HeadHere R rest a b → Q rest a b)
    → ((c : Context) (path : List ℕ) (a b : Term) → Q path a b → Q (way c ++ path) (plug c a) (plug c b))
    → (path : List ℕ) (m t : Term) → HeadAt path R m t → Q path m t
head_lifted_at R Q f g path m t h = all_through (HeadHere R) Q f g path m t (found_head R path m t h)

-- steps and labels
mutual
  reached_path : (R : Rel) (m t : Term) → Reached R m t → (path : List ℕ) × ReachedAt path R m t
  reached_path R m t (inl h) = ([], h)
  reached_path R (Seq m n) t (inr (m', e, h)) = let p = reached_path R m m' h in (0 ∷ p.0, (m', e, p.1))
  reached_path R (Par m n) t (inr (inl (m', e, h))) = let p = reached_path R m m' h in (0 ∷ p.0, (m', e, p.1))
  reached_path R (Par m n) t (inr (inr (n', e, h))) = let p = reached_path R n n' h in (1 ∷ p.0, (n', e, p.1))
  reached_path R (If m n q) t (inr (m', e, h)) = let p = reached_path R m m' h in (0 ∷ p.0, (m', e, p.1))
  reached_path R (Bin op m n) t (inr (m', e, h)) = let p = reached_path R m m' h in (0 ∷ p.0, (m', e, p.1))
  reached_path R (Held k op n) t (inr (n', e, h)) = let p = reached_path R n n' h in (0 ∷ p.0, (n', e, p.1))
  reached_path R (Not m) t (inr (m', e, h)) = let p = reached_path R m m' h in (0 ∷ p.0, (m', e, p.1))
  reached_path R (Assign m n) t (inr (n', e, h)) = let p = reached_path R n n' h in (1 ∷ p.0, (n', e, p.1))
  reached_path R (Scope l m) t (inr (m', e, h)) = let p = reached_path R m m' h in (0 ∷ p.0, (m', e, p.1))
  reached_path R (Deref m) t (inr (m', e, h)) = let p = index_path R m m' h in (0 ∷ p.0, (m', e, p.1))
  reached_path R (Put m k) t (inr (m', e, h)) = let p = index_path R m m' h in (0 ∷ p.0, (m', e, p.1))
  reached_path R m t (inr h) = absurd h

  index_path : (R : Rel) (m t : Term) → InIndex R m t → (path : List ℕ) × IndexAt path R m t
  index_path R (App h a) t (inr (place, b, e, k)) = let p = reached_path R a b k in (1 ∷ p.0, inr (place, b, e, p.1))
  index_path R (App h (Both n a)) t (inl (head, b, e, k)) = let p = reached_path R a b k in (1 ∷ 1 ∷ p.0, inl (head, b, e, p.1))
  index_path R (App h a) t (inl k) = absurd k
  index_path R m t h = absurd h

path_reached : (R : Rel) (path : List ℕ) (m t : Term) → ReachedAt path R m t → Reached R m t
path_reached R path m t h =
    reached_lifted_at R (λ (p : List ℕ) (a b : Term). Reached R a b) (λ a b k. inl k) (λ c p a b k. reached_plugged R c a b k) path m t h

pub acts_have_paths : ActsHavePaths
acts_have_paths i Silent s s' m t =
    (reached_path (Computes s s') m t, λ h. path_reached (Computes s s') h.0 m t h.1)
acts_have_paths i (Shows o) s s' m t = (
  λ h. let p = reached_path (OneLabel i o) m t h.0 in (p.0, (p.1, h.1)),
  λ h. (path_reached (OneLabel i o) h.0 m t h.1.0, h.1.1),
)
