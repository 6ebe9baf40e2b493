-- Two doings are at one place and of one kind, or they are in the two sides of a `||`.
use Rattle.std.specs.Prelude.{◌≡◌, ◌⊎◌, ℕ, zero, suc, List, [], ◌∷◌, ◌++◌, IsFalse}
use Rattle.std.proofs.Common.{arith, refl, sym, ap, subst, inl, inr, ◌∙◌}
use Rattle.gos_model.specs.Terms.{Name, Term, Skip, Lit, Import, Lam, App, Both, Fst, Snd, Seq, Par, If, Assign, Deref, Not, Bin, Loc, Scope, Wait, Held, Put, Arr}
use Rattle.gos_model.specs.Typing.{Imports}
use Rattle.gos_model.specs.Stores.{Store}
use Rattle.gos_model.specs.Reach.{Rewrites}
use Rattle.gos_model.specs.Steps.{Computes, IsValue, Locates}
use Rattle.gos_model.specs.Labels.{Port, Given, Taken, Label, is_output_at, is_output}
use Rattle.gos_types.specs.Types.{Type', Exp, Var, Fun}
use Rattle.gos_model.specs.Accesses.{IsArrayImport, AccessPuts, ReadEnds, WriteEnds, AccessTakes}
use Rattle.gos_model.specs.ArrayPorts.{AreGround}
use Rattle.gos_model.proofs.HeadLemmas.{Lower}
use Rattle.gos_programs.specs.contexts.Contexts.{Context, SeqFirst, ParLeft, ParRight, IfTest, BinLeft, HeldRight, NotOf, AssignRight, ScopeBody, ReadIndex, WriteIndex, plug, plug_all, ReadAt, WriteAt}
use Rattle.gos_programs.proofs.contexts.BackwardLemmas.{index_value, OneHead, OneLabel}
use Rattle.gos_swaps.specs.doings.Heads.{UnderAt}
use Rattle.gos_swaps.specs.doings.Doings.{Doing, Unfolding, Computing, Showing, DoesAt, SameSort, OneSort, SameKind, OneKind}
use Rattle.gos_swaps.specs.doings.Sides.{way, path_through, OnSides, PlacesAreOnSides}
use Rattle.gos_swaps.proofs.doings.HeadLemmas.{lower_of}
use Rattle.gos_swaps.proofs.doings.PlaceLemmas.{HeadHere, Here, Found, found, does_here, does_through}

-- the contexts of a term, one level deep
abbrev pub Inside : Term → Context → Term → Type 0
Inside (Seq m n) c x = (c ≡ SeqFirst n) × (x ≡ m)
Inside (Par m n) c x = ((c ≡ ParLeft n) × (x ≡ m)) ⊎ ((c ≡ ParRight m) × (x ≡ n))
Inside (If m n p) c x = (c ≡ IfTest n p) × (x ≡ m)
Inside (Bin op m n) c x = (c ≡ BinLeft op n) × (x ≡ m)
Inside (Held k op n) c x = (c ≡ HeldRight k op) × (x ≡ n)
Inside (Not m) c x = (c ≡ NotOf) × (x ≡ m)
Inside (Assign m n) c x = (c ≡ AssignRight m) × (x ≡ n)
Inside (Scope l m) c x = (c ≡ ScopeBody l) × (x ≡ m)
Inside (Deref (App (Wait y zero) (Both n m))) c x = (c ≡ ReadIndex y n) × (x ≡ m)
Inside (Put (App (Wait y zero) (Both n m)) k) c x = (c ≡ WriteIndex y n k) × (x ≡ m)
Inside (Deref (App (Arr l) m)) c x = (c ≡ ReadAt l) × (x ≡ m)
Inside (Put (App (Arr l) m) k) c x = (c ≡ WriteAt l k) × (x ≡ m)
Inside m c x = ⊥

pub inside : (c : Context) (x : Term) → Inside (plug c x) c x
inside (SeqFirst n) x = (refl, refl)
inside (ParLeft n) x = inl (refl, refl)
inside (ParRight n) x = inr (refl, refl)
inside (IfTest n p) x = (refl, refl)
inside (BinLeft op n) x = (refl, refl)
inside (HeldRight k op) x = (refl, refl)
inside NotOf x = (refl, refl)
inside (AssignRight n) x = (refl, refl)
inside (ScopeBody l) x = (refl, refl)
inside (ReadIndex y n) x = (refl, refl)
inside (WriteIndex y n k) x = (refl, refl)
inside (ReadAt l) x = (refl, refl)
inside (WriteAt l k) x = (refl, refl)

-- x stands on the left of y
abbrev pub IsLeftOf : Context → Context → Term → Term → Type 0
IsLeftOf c d x y = (c ≡ ParLeft y) × (d ≡ ParRight x)

-- One term has one context, or it is a `||`.
abbrev pub Ways : Context → Context → Term → Term → Type 0
Ways c d x y = ((c ≡ d) × (x ≡ y)) ⊎ (IsLeftOf c d x y ⊎ IsLeftOf d c y x)

ways_of : (c d : Context) (x y : Term) → Inside (plug d y) c x → Ways c d x y
ways_of c (SeqFirst n) x y h = inl h
ways_of c (ParLeft n) x y (inl h) = inl h
ways_of c (ParLeft n) x y (inr (a, b)) = inr (inr (ap (λ (z : Term). ParLeft z) (sym b), a))
ways_of c (ParRight n) x y (inl (a, b)) = inr (inl (a, ap (λ (z : Term). ParRight z) (sym b)))
ways_of c (ParRight n) x y (inr h) = inl h
ways_of c (IfTest n p) x y h = inl h
ways_of c (BinLeft op n) x y h = inl h
ways_of c (HeldRight k op) x y h = inl h
ways_of c NotOf x y h = inl h
ways_of c (AssignRight n) x y h = inl h
ways_of c (ScopeBody l) x y h = inl h
ways_of c (ReadIndex z n) x y h = inl h
ways_of c (WriteIndex z n k) x y h = inl h
ways_of c (ReadAt l) x y h = inl h
ways_of c (WriteAt l k) x y h = inl h

pub ways : (c d : Context) (x y : Term) → plug c x ≡ plug d y → Ways c d x y
ways c d x y e = ways_of c d x y (subst (λ (z : Term). Inside z c x) e (inside c x))

-- a value is no context, and nothing happens to it
pub value_alone : (v : Term) (c : Context) (x : Term) → IsValue v → v ≡ plug c x → ⊥
value_alone v c x (inl e) f = subst (λ (z : Term). Inside z c x) (sym f ∙ e) (inside c x)
value_alone v c x (inr (k, w, e)) f = subst (λ (z : Term). Inside z c x) (sym f ∙ e) (inside c x)

pub one_of : (rest : List ℕ) (m t : Term) → HeadHere Rewrites rest m t → OneHead m t
one_of [] m t h = inl (inl h)
one_of (zero ∷ rest) (App m n) t (m', e, h) = inl (inr (m', e, lower_of Rewrites rest m m' h))
one_of (zero ∷ rest) (Fst m) t (m', e, h) = inl (inr (m', e, lower_of Rewrites rest m m' h))
one_of (zero ∷ rest) (Snd m) t (m', e, h) = inl (inr (m', e, lower_of Rewrites rest m m' h))
one_of (zero ∷ rest) (Put m k) t (m', e, h) = inr (m', e, lower_of Rewrites rest m m' h)
one_of (zero ∷ rest) (Deref m) t (m', e, h) = inr (m', e, lower_of Rewrites rest m m' h)
one_of (i ∷ rest) m t h = absurd h

-- two relations of which nothing holds
pub neither : ⊥ ⊎ ⊥ → ⊥
neither (inl h) = h
neither (inr h) = h

pub none_of_three : (⊥ ⊎ ⊥) ⊎ ⊥ → ⊥
none_of_three (inl h) = neither h
none_of_three (inr h) = h

skip_rests : (i : Imports) (a : Doing) (s s' : Store) (rest : List ℕ) (t : Term) → Here i a s s' rest Skip t → ⊥
skip_rests i Unfolding s s' rest t (h, e) = none_of_three (one_of rest Skip t h)
skip_rests i Computing s s' [] t h = h
skip_rests i Computing s s' (k ∷ rest) t h = h
skip_rests i (Showing o) s s' [] t (h, e) = neither h
skip_rests i (Showing o) s s' (k ∷ rest) t (h, e) = h

lit_rests : (i : Imports) (a : Doing) (s s' : Store) (rest : List ℕ) (k w : ℕ) (t : Term) → Here i a s s' rest (Lit k w) t → ⊥
lit_rests i Unfolding s s' rest k w t (h, e) = none_of_three (one_of rest (Lit k w) t h)
lit_rests i Computing s s' [] k w t h = h
lit_rests i Computing s s' (n ∷ rest) k w t h = h
lit_rests i (Showing o) s s' [] k w t (h, e) = neither h
lit_rests i (Showing o) s s' (n ∷ rest) k w t (h, e) = h

value_rests : (i : Imports) (a : Doing) (s s' : Store) (rest : List ℕ) (v t : Term) → IsValue v → Here i a s s' rest v t → ⊥
value_rests i a s s' rest v t (inl e) h = skip_rests i a s s' rest t (subst (λ (z : Term). Here i a s s' rest z t) e h)
value_rests i a s s' rest v t (inr (k, w, e)) h = lit_rests i a s s' rest k w t (subst (λ (z : Term). Here i a s s' rest z t) e h)

pub value_quiet : (i : Imports) (p : List ℕ) (a : Doing) (s s' : Store) (v t : Term) → IsValue v → DoesAt i p a s s' v t → ⊥
value_quiet i p a s s' v t is h = of_place (found i p a s s' v t h)
  where
    of_place : Found (Here i a s s') p v t → ⊥
    of_place ([], rest, x, y, ep, em, et, here) = value_rests i a s s' rest x y (subst IsValue em is) here
    of_place (c ∷ cs, rest, x, y, ep, em, et, here) = value_alone v c (plug_all cs x) is em

-- an access: a port, or one that waits, is applied
abbrev pub IsPort : Name → Term → Type 0
IsPort x h = (h ≡ Import x) ⊎ ((s : ℕ) × (h ≡ Wait x s))

abbrev pub IsAccess : Name → Term → Type 0
IsAccess x m = (h : Term) × (n : Term) × (m ≡ App h n) × IsPort x h

puts_access : (i : Imports) (f : Term → Term) (ask a : ℕ) (x : Name) (e k : ℕ) (m t : Term) → AccessPuts i f ask a x e k m t → IsAccess x m
puts_access i f ask a x e k m t (c, w, n, array, inl (em, ee, ek, et)) = (Import x, n, em, inl refl)
puts_access i f ask a x e k m t (c, w, n, array, inr (j, em, ej, ee, et)) = (Wait x 0, Both n j, em, inr (0, refl))

takes_access : (i : Imports) (f : Term → Term) (Ends : ℕ → ℕ → ℕ → Term → Type 0) (x : Name) (e k : ℕ) (m t : Term) → AccessTakes i f Ends x e k m t
    → IsAccess x m
takes_access i f Ends x e k m t (c, w, n, j, array, em, h) = (Wait x 1, Both n j, em, inr (1, refl))

-- what `!` or `put` shows a label of: the import of its port, or an access of it, which is no ground port
abbrev pub IsShown : Imports → Label → Term → Type 0
IsShown i o m = (x : Name) × (o.port ≡ Taken x) × ((m ≡ Import x) ⊎ (IsAccess x m × (AreGround i → ⊥)))

array_not_ground : (i : Imports) (x : Name) (c w : ℕ) → IsArrayImport i x c w → AreGround i → ⊥
array_not_ground i x c w array ground = ground x (Fun (Exp c) (Var w)) array

pub shown_read : (i : Imports) (o : Label) (m t : Term) → OneLabel i o (Deref m) t → IsShown i o m
shown_read i o m t (inl (inl (x, w, em, h, e, et))) = (x, ap (λ (z : Label). z.port) e, inl em)
shown_read i o m t (inl (inr (x, port, h))) =
    (x, port, inr (puts_access i (λ (u : Term). Deref u) 2 0 x o.event o.value m t h, array_not_ground i x h.0 h.1 h.3))
shown_read i o m t (inr (x, port, h)) =
    (x, port, inr (takes_access i (λ (u : Term). Deref u) ReadEnds x o.event o.value m t h, array_not_ground i x h.0 h.1 h.4))

pub shown_write : (i : Imports) (o : Label) (m t : Term) (k : ℕ) → OneLabel i o (Put m k) t → IsShown i o m
shown_write i o m t k (inl (inl (x, w, em, h, e, et))) = (x, ap (λ (z : Label). z.port) e, inl em)
shown_write i o m t k (inl (inr (x, port, h))) =
    (x, port, inr (puts_access i (λ (u : Term). Put u k) 4 k x o.event o.value m t h, array_not_ground i x h.0 h.1 h.3))
shown_write i o m t k (inr (x, port, h)) =
    (x, port, inr (takes_access i (λ (u : Term). Put u k) WriteEnds x o.event o.value m t h, array_not_ground i x h.0 h.1 h.4))

pub no_head : (c : Context) (m v : Term) → OneHead (plug c m) v → ⊥
no_head (SeqFirst n) m v h = none_of_three h
no_head (ParLeft n) m v h = none_of_three h
no_head (ParRight n) m v h = none_of_three h
no_head (IfTest n p) m v h = none_of_three h
no_head (BinLeft op n) m v h = none_of_three h
no_head (HeldRight k op) m v h = none_of_three h
no_head NotOf m v h = none_of_three h
no_head (AssignRight n) m v h = none_of_three h
no_head (ScopeBody l) m v h = none_of_three h
no_head (ReadIndex x n) m v h = grind (arith, h)
no_head (WriteIndex x n k) m v h = grind (arith, h)
no_head (ReadAt l) m v h = grind (arith, h)
no_head (WriteAt l k) m v h = grind (arith, h)

-- the number of an index is a label, and no other context shows one
waits_once : (x y : Name) (n z b j : Term) → App (Wait x 0) (Both n z) ≡ App (Wait y 1) (Both b j) → ⊥
waits_once x y n z b j e = let same : Wait x 0 ≡ Wait y 1 = cc e in let bad : zero ≡ suc zero = cc same in absurd (omega (arith, bad))

index_puts :
    (i : Imports) (f : Term → Term) (ask a : ℕ) (x y : Name) (e k : ℕ) (n z t : Term) → AccessPuts i f ask a y e k (App (Wait x 0) (Both n z)) t
    → IsValue z
index_puts i f ask a x y e k n z t (c, w, b, array, inl (em, ee, ek, et)) = let bad : Wait x 0 ≡ Import y = cc em in absurd (cc bad)
index_puts i f ask a x y e k n z t (c, w, b, array, inr (j, em, ej, ee, et)) =
    let pair : Both n z ≡ Both b j = cc em in let same : z ≡ j = cc pair in inr (k, c, same ∙ ej)

index_read : (i : Imports) (o : Label) (x : Name) (n z v : Term) → OneLabel i o (Deref (App (Wait x 0) (Both n z))) v → IsValue z
index_read i o x n z v (inl (inl (y, w, em, h, e, et))) = absurd (cc em)
index_read i o x n z v (inl (inr (y, port, h))) = index_puts i (λ (u : Term). Deref u) 2 0 x y o.event o.value n z v h
index_read i o x n z v (inr (y, port, (c, w, b, j, array, em, h))) = absurd (waits_once x y n z b j em)

index_write : (i : Imports) (o : Label) (x : Name) (n z v : Term) (k : ℕ) → OneLabel i o (Put (App (Wait x 0) (Both n z)) k) v → IsValue z
index_write i o x n z v k (inl (inl (y, w, em, h, e, et))) = absurd (cc em)
index_write i o x n z v k (inl (inr (y, port, h))) = index_puts i (λ (u : Term). Put u k) 4 k x y o.event o.value n z v h
index_write i o x n z v k (inr (y, port, (c, w, b, j, array, em, h))) = absurd (waits_once x y n z b j em)

-- an array of the program's own shows none
pub array_not_shown : (i : Imports) (o : Label) (l : ℕ) (n : Term) → IsShown i o (App (Arr l) n) → ⊥
array_not_shown i o l n (x, port, inl em) = cc em
array_not_shown i o l n (x, port, inr ((h, m, em, inl is), array)) = let same : Arr l ≡ h = cc em in cc (same ∙ is)
array_not_shown i o l n (x, port, inr ((h, m, em, inr (s, is)), array)) = let same : Arr l ≡ h = cc em in cc (same ∙ is)

label_value : (i : Imports) (o : Label) (c : Context) (m v : Term) → OneLabel i o (plug c m) v → IsValue m
label_value i o (SeqFirst n) m v h = absurd (neither h)
label_value i o (ParLeft n) m v h = absurd (neither h)
label_value i o (ParRight n) m v h = absurd (neither h)
label_value i o (IfTest n p) m v h = absurd (neither h)
label_value i o (BinLeft op n) m v h = absurd (neither h)
label_value i o (HeldRight k op) m v h = absurd (neither h)
label_value i o NotOf m v h = absurd (neither h)
label_value i o (AssignRight n) m v h = absurd (neither h)
label_value i o (ScopeBody l) m v h = absurd (neither h)
label_value i o (ReadIndex x n) m v h = index_read i o x n m v h
label_value i o (WriteIndex x n k) m v h = index_write i o x n m v k h
label_value i o (ReadAt l) m v h = absurd (array_not_shown i o l m (shown_read i o (App (Arr l) m) v h))
label_value i o (WriteAt l k) m v h = absurd (array_not_shown i o l m (shown_write i o (App (Arr l) m) v k h))

-- a port stands for no number of the store
pub port_not_located : (x : Name) (n : Term) (l i : ℕ) → Locates (App (Wait x 0) n) l i → ⊥
port_not_located x n l i (inl (e, first)) = cc e
port_not_located x n l i (inr (w, e)) = let bad : Wait x 0 ≡ Arr l = cc e in cc bad

-- where something happens to a context, its term is a value
row_value : (s s' : Store) (c : Context) (z t : Term) → Computes s s' (plug c z) t → IsValue z
row_value s s' (SeqFirst n) z t (em, et, es) = inl em
row_value s s' (ParLeft n) z t (em, en, et, es) = inl em
row_value s s' (ParRight n) z t (em, en, et, es) = inl en
row_value s s' (IfTest n p) z t (inl (em, et), es) = inr (1, 1, em)
row_value s s' (IfTest n p) z t (inr (em, et), es) = inr (0, 1, em)
row_value s s' (BinLeft op n) z t (k, w, em, et, es) = inr (k, w, em)
row_value s s' (HeldRight k op) z t (j, w, en, et, es) = inr (j, w, en)
row_value s s' NotOf z t (k, w, em, et, es) = inr (k, w, em)
row_value s s' (AssignRight n) z t (k, w, en, et, es) = inr (k, w, en)
row_value s s' (ScopeBody l) z t (is, et, es) = is
row_value s s' (ReadIndex x n) z t (e, j, old, em, here, has, et, es) = absurd (port_not_located x (Both n z) e.place j em)
row_value s s' (WriteIndex x n k) z t (e, j, old, em, here, has, et, es) = absurd (port_not_located x (Both n z) e.place j em)
row_value s s' (ReadAt l) z t (e, j, old, em, here, has, et, es) = index_value l z e.place j em
row_value s s' (WriteAt l k) z t (e, j, old, em, here, has, et, es) = index_value l z e.place j em

pub context_value : (i : Imports) (a : Doing) (s s' : Store) (rest : List ℕ) (c : Context) (z t : Term) → Here i a s s' rest (plug c z) t → IsValue z
context_value i Unfolding s s' rest c z t (h, e) = absurd (no_head c z t (one_of rest (plug c z) t h))
context_value i Computing s s' [] c z t h = row_value s s' c z t h
context_value i Computing s s' (k ∷ rest) c z t h = absurd h
context_value i (Showing o) s s' [] c z t (h, e) = label_value i o c z t h
context_value i (Showing o) s s' (k ∷ rest) c z t (h, e) = absurd h

-- so nothing happens in a context to whose whole something happens
nothing_below : (i : Imports) (a b : Doing) (s s' r r' : Store) (rest more : List ℕ) (c : Context) (ds : List Context) (y t x : Term)
    → Here i a s s' rest (plug c (plug_all ds y)) t → Here i b r r' more y x → ⊥
nothing_below i a b s s' r r' rest more c [] y t x h g = value_rests i b r r' more y x (context_value i a s s' rest c y t h) g
nothing_below i a b s s' r r' rest more c (d ∷ ds) y t x h g =
    value_alone (plug d (plug_all ds y)) d (plug_all ds y) (context_value i a s s' rest c (plug d (plug_all ds y)) t h) refl

-- of a head one place is rewritten
not_in_lam : (m : Term) (a : Type') (b t : Term) → m ≡ Lam a b → Lower m t → ⊥
not_in_lam m a b t e h = neither (subst (λ (z : Term). Lower z t) e h)

not_in_both : (m a b t : Term) → m ≡ Both a b → Lower m t → ⊥
not_in_both m a b t e h = neither (subst (λ (z : Term). Lower z t) e h)

under_one : (p q : List ℕ) (m t r : Term) → UnderAt p Rewrites m t → UnderAt q Rewrites m r → p ≡ q
under_one [] [] m t r h g = refl
under_one [] (zero ∷ q) (App m n) t r (a, b, em, et) (m', e, g) = absurd (not_in_lam m a b m' em (lower_of Rewrites q m m' g))
under_one [] (zero ∷ q) (Fst m) t r (n, e) (m', f, g) = absurd (not_in_both m t n m' e (lower_of Rewrites q m m' g))
under_one [] (zero ∷ q) (Snd m) t r (n, e) (m', f, g) = absurd (not_in_both m n t m' e (lower_of Rewrites q m m' g))
under_one (zero ∷ p) [] (App m n) t r (m', e, g) (a, b, em, et) = absurd (not_in_lam m a b m' em (lower_of Rewrites p m m' g))
under_one (zero ∷ p) [] (Fst m) t r (m', f, g) (n, e) = absurd (not_in_both m r n m' e (lower_of Rewrites p m m' g))
under_one (zero ∷ p) [] (Snd m) t r (m', f, g) (n, e) = absurd (not_in_both m n r m' e (lower_of Rewrites p m m' g))
under_one (zero ∷ p) (zero ∷ q) (App m n) t r (m', e, h) (m'', f, g) = ap (λ (z : List ℕ). 0 ∷ z) (under_one p q m m' m'' h g)
under_one (zero ∷ p) (zero ∷ q) (Fst m) t r (m', e, h) (m'', f, g) = ap (λ (z : List ℕ). 0 ∷ z) (under_one p q m m' m'' h g)
under_one (zero ∷ p) (zero ∷ q) (Snd m) t r (m', e, h) (m'', f, g) = ap (λ (z : List ℕ). 0 ∷ z) (under_one p q m m' m'' h g)
under_one [] (j ∷ q) m t r h g = absurd g
under_one (zero ∷ p) (suc j ∷ q) m t r h g = absurd g
under_one (i ∷ p) q m t r h g = absurd h

head_one : (p q : List ℕ) (m t r : Term) → HeadHere Rewrites p m t → HeadHere Rewrites q m r → p ≡ q
head_one [] [] m t r h g = refl
head_one [] (zero ∷ q) (App m n) t r (a, b, em, et) (m', e, g) = absurd (not_in_lam m a b m' em (lower_of Rewrites q m m' g))
head_one [] (zero ∷ q) (Fst m) t r (n, e) (m', f, g) = absurd (not_in_both m t n m' e (lower_of Rewrites q m m' g))
head_one [] (zero ∷ q) (Snd m) t r (n, e) (m', f, g) = absurd (not_in_both m n t m' e (lower_of Rewrites q m m' g))
head_one [] (zero ∷ q) (Put m k) t r h g = absurd h
head_one [] (zero ∷ q) (Deref m) t r h g = absurd h
head_one (zero ∷ p) [] (App m n) t r (m', e, g) (a, b, em, et) = absurd (not_in_lam m a b m' em (lower_of Rewrites p m m' g))
head_one (zero ∷ p) [] (Fst m) t r (m', f, g) (n, e) = absurd (not_in_both m r n m' e (lower_of Rewrites p m m' g))
head_one (zero ∷ p) [] (Snd m) t r (m', f, g) (n, e) = absurd (not_in_both m n r m' e (lower_of Rewrites p m m' g))
head_one (zero ∷ p) [] (Put m k) t r h g = absurd g
head_one (zero ∷ p) [] (Deref m) t r h g = absurd g
head_one (zero ∷ p) (zero ∷ q) (App m n) t r (m', e, h) (m'', f, g) = ap (λ (z : List ℕ). 0 ∷ z) (under_one p q m m' m'' h g)
head_one (zero ∷ p) (zero ∷ q) (Fst m) t r (m', e, h) (m'', f, g) = ap (λ (z : List ℕ). 0 ∷ z) (under_one p q m m' m'' h g)
head_one (zero ∷ p) (zero ∷ q) (Snd m) t r (m', e, h) (m'', f, g) = ap (λ (z : List ℕ). 0 ∷ z) (under_one p q m m' m'' h g)
head_one (zero ∷ p) (zero ∷ q) (Put m k) t r (m', e, h) (m'', f, g) = ap (λ (z : List ℕ). 0 ∷ z) (under_one p q m m' m'' h g)
head_one (zero ∷ p) (zero ∷ q) (Deref m) t r (m', e, h) (m'', f, g) = ap (λ (z : List ℕ). 0 ∷ z) (under_one p q m m' m'' h g)
head_one [] (j ∷ q) m t r h g = absurd g
head_one (zero ∷ p) (suc j ∷ q) m t r h g = absurd g
head_one (i ∷ p) q m t r h g = absurd h

-- a head is no row of computation and no label, and a row of computation is no label
no_lower_loc : (m : Term) (l : ℕ) (v : Term) → m ≡ Loc l → Lower m v → ⊥
no_lower_loc m l v e h = neither (subst (λ (z : Term). Lower z v) e h)

pub no_lower_import : (m : Term) (x : Name) (v : Term) → m ≡ Import x → Lower m v → ⊥
no_lower_import m x v e h = neither (subst (λ (z : Term). Lower z v) e h)

no_lower_located : (m : Term) (l i : ℕ) (v : Term) → Locates m l i → Lower m v → ⊥
no_lower_located m l i v (inl (e, first)) h = no_lower_loc m l v e h
no_lower_located m l i v (inr (w, e)) h = of_parts (subst (λ (z : Term). Lower z v) e h)
  where
    of_parts : Lower (App (Arr l) (Lit i w)) v → ⊥
    of_parts (inl (a, b, f, et)) = cc f
    of_parts (inr (h', f, g)) = neither g

head_no_row : (s s' : Store) (m t v : Term) → OneHead m v → Computes s s' m t → ⊥
head_no_row s s' (Put m k) t v (inr (c, e, h)) (d, j, old, em, here, has, et, es) = no_lower_located m d.place j c em h
head_no_row s s' (Deref m) t v (inr (c, e, h)) (d, j, old, em, here, has, et, es) = no_lower_located m d.place j c em h
head_no_row s s' (App m n) t v h g = g
head_no_row s s' (Fst m) t v h g = g
head_no_row s s' (Snd m) t v h g = g
head_no_row s s' m t v (inl (inl h)) g = absurd h
head_no_row s s' m t v (inl (inr h)) g = absurd h
head_no_row s s' m t v (inr h) g = absurd h

no_lower_port : (x : Name) (h v : Term) → IsPort x h → Lower h v → ⊥
no_lower_port x h v (inl e) lower = neither (subst (λ (z : Term). Lower z v) e lower)
no_lower_port x h v (inr (s, e)) lower = neither (subst (λ (z : Term). Lower z v) e lower)

no_function : (x : Name) (h : Term) (a : Type') (b : Term) → IsPort x h → h ≡ Lam a b → ⊥
no_function x h a b (inl e) f = let bad : Import x ≡ Lam a b = sym e ∙ f in absurd (cc bad)
no_function x h a b (inr (s, e)) f = let bad : Wait x s ≡ Lam a b = sym e ∙ f in absurd (cc bad)

pub no_lower_access : (x : Name) (m v : Term) → IsAccess x m → Lower m v → ⊥
no_lower_access x m v (h, n, em, port) lower = of_parts (subst (λ (z : Term). Lower z v) em lower)
  where
    of_parts : Lower (App h n) v → ⊥
    of_parts (inl (a, b, eh, et)) = no_function x h a b port eh
    of_parts (inr (h', e, g)) = no_lower_port x h h' port g

shown_no_lower : (i : Imports) (o : Label) (m v : Term) → IsShown i o m → Lower m v → ⊥
shown_no_lower i o m v (x, port, inl em) g = no_lower_import m x v em g
shown_no_lower i o m v (x, port, inr (access, array)) g = no_lower_access x m v access g

head_no_label : (i : Imports) (o : Label) (m t v : Term) → OneHead m v → OneLabel i o m t → ⊥
head_no_label i o (Put m k) t v (inr (c, f, g)) h = shown_no_lower i o m c (shown_write i o m t k h) g
head_no_label i o (Deref m) t v (inr (c, f, g)) h = shown_no_lower i o m c (shown_read i o m t h) g
head_no_label i o (App m n) t v g h = neither h
head_no_label i o (Fst m) t v g h = neither h
head_no_label i o (Snd m) t v g h = neither h
head_no_label i o m t v (inl (inl g)) h = absurd g
head_no_label i o m t v (inl (inr g)) h = absurd g
head_no_label i o m t v (inr g) h = absurd g

loc_no_import : (m : Term) (l : ℕ) (x : Name) → m ≡ Loc l → m ≡ Import x → ⊥
loc_no_import m l x e f = let bad : Loc l ≡ Import x = sym e ∙ f in absurd (cc bad)

loc_not_shown : (i : Imports) (o : Label) (m : Term) (l : ℕ) → m ≡ Loc l → IsShown i o m → ⊥
loc_not_shown i o m l em (x, port, inl ex) = loc_no_import m l x em ex
loc_not_shown i o m l em (x, port, inr ((h, n, ea, is), array)) = let bad : Loc l ≡ App h n = sym em ∙ ea in absurd (cc bad)

located_not_shown : (i : Imports) (o : Label) (m : Term) (l j : ℕ) → Locates m l j → IsShown i o m → ⊥
located_not_shown i o m l j (inl (e, first)) h = loc_not_shown i o m l e h
located_not_shown i o m l j (inr (w, e)) h = array_not_shown i o l (Lit j w) (subst (λ (z : Term). IsShown i o z) e h)

row_no_label : (s s' : Store) (i : Imports) (o : Label) (m t v : Term) → Computes s s' m t → OneLabel i o m v → ⊥
row_no_label s s' i o (Put m k) t v (d, j, old, em, here, has, et, es) h = located_not_shown i o m d.place j em (shown_write i o m v k h)
row_no_label s s' i o (Deref m) t v (d, j, old, em, here, has, et, es) h = located_not_shown i o m d.place j em (shown_read i o m v h)
row_no_label s s' i o (Import x) t v h g = h
row_no_label s s' i o (Wait x n) t v h g = h
row_no_label s s' i o m t v h (inl g) = absurd g
row_no_label s s' i o m t v h (inr g) = absurd g

-- the port of a label is that of its place
abbrev port_at : Term → Port
port_at (Import x) = Taken x
port_at (App m n) = port_at m
port_at (Deref m) = port_at m
port_at (Put m k) = port_at m
port_at (Wait x n) = Taken x
port_at m = Given

access_port : (x : Name) (m : Term) → IsAccess x m → port_at m ≡ Taken x
access_port x m (h, n, em, inl e) = ap port_at em ∙ ap port_at e
access_port x m (h, n, em, inr (s, e)) = ap port_at em ∙ ap port_at e

shown_port : (i : Imports) (o : Label) (m : Term) → IsShown i o m → o.port ≡ port_at m
shown_port i o m (x, port, inl em) = port ∙ sym (ap port_at em)
shown_port i o m (x, port, inr (access, array)) = port ∙ sym (access_port x m access)

port_of : (i : Imports) (o : Label) (m t : Term) → OneLabel i o m t → o.port ≡ port_at m
port_of i o (Import x) t (inl (inl (h, e, et))) = ap (λ (z : Label). z.port) e
port_of i o (Import x) t (inl (inr (w, h, e, et))) = ap (λ (z : Label). z.port) e
port_of i o (Deref m) t h = shown_port i o m (shown_read i o m t h)
port_of i o (Put m k) t h = shown_port i o m (shown_write i o m t k h)
port_of i o (Wait x n) t (inr (p, e, h)) = p
port_of i o m t (inl h) = absurd h
port_of i o m t (inr h) = absurd h

-- an access that waits for its array
abbrev Awaits : Term → Type 0
Awaits (Deref (App (Wait x (suc s)) n)) = Unit {0}
Awaits (Put (App (Wait x (suc s)) n) k) = Unit {0}
Awaits m = ⊥

-- and the event that of its place, but for an access that waits, which is none of a ground port and takes inputs alone
abbrev event_at : Term → ℕ
event_at (Import x) = 0
event_at (Deref (App (Import x) n)) = 2
event_at (Deref m) = 0
event_at (Put (Import x) k) = 2
event_at (Put (App (Import x) n) k) = 4
event_at (Put m k) = 0
event_at (Wait x n) = n
event_at m = 0

abbrev IsEventAt : Imports → Label → Term → Type 0
IsEventAt i o m = ((Awaits m → ⊥) × (o.event ≡ event_at m)) ⊎ (Awaits m × IsFalse (is_output o) × (AreGround i → ⊥))

input_at : (o : Label) (x : Name) (n : ℕ) → o.port ≡ Taken x → o.event ≡ n → IsFalse (is_output_at (Taken x) n) → IsFalse (is_output o)
input_at o x n port event input = ap (λ (p : Port). is_output_at p o.event) port ∙ (ap (λ (e : ℕ). is_output_at (Taken x) e) event ∙ input)

read_event : (i : Imports) (o : Label) (m t : Term) → OneLabel i o (Deref m) t → IsEventAt i o (Deref m)
read_event i o m t (inl (inl (x, w, em, h, e, et))) = inl (
  (λ a. subst (λ (z : Term). Awaits (Deref z)) em a),
  ap (λ (z : Label). z.event) e ∙ sym (ap (λ (z : Term). event_at (Deref z)) em),
)
read_event i o m t (inl (inr (x, port, (c, w, n, array, inl (em, ee, ek, et))))) =
    inl ((λ a. subst (λ (z : Term). Awaits (Deref z)) em a), ee ∙ sym (ap (λ (z : Term). event_at (Deref z)) em))
read_event i o m t (inl (inr (x, port, (c, w, n, array, inr (j, em, ej, ee, et))))) =
    inl ((λ a. subst (λ (z : Term). Awaits (Deref z)) em a), ee ∙ sym (ap (λ (z : Term). event_at (Deref z)) em))
read_event i o m t (inr (x, port, (c, w, n, j, array, em, inl (ee, ek, et)))) =
    inr (subst (λ (z : Term). Awaits (Deref z)) (sym em) tt, input_at o x 1 port ee refl, array_not_ground i x c w array)
read_event i o m t (inr (x, port, (c, w, n, j, array, em, inr (ee, fits, et)))) =
    inr (subst (λ (z : Term). Awaits (Deref z)) (sym em) tt, input_at o x 3 port ee refl, array_not_ground i x c w array)

write_event : (i : Imports) (o : Label) (m t : Term) (k : ℕ) → OneLabel i o (Put m k) t → IsEventAt i o (Put m k)
write_event i o m t k (inl (inl (x, w, em, h, e, et))) = inl (
  (λ a. subst (λ (z : Term). Awaits (Put z k)) em a),
  ap (λ (z : Label). z.event) e ∙ sym (ap (λ (z : Term). event_at (Put z k)) em),
)
write_event i o m t k (inl (inr (x, port, (c, w, n, array, inl (em, ee, ek, et))))) =
    inl ((λ a. subst (λ (z : Term). Awaits (Put z k)) em a), ee ∙ sym (ap (λ (z : Term). event_at (Put z k)) em))
write_event i o m t k (inl (inr (x, port, (c, w, n, array, inr (j, em, ej, ee, et))))) =
    inl ((λ a. subst (λ (z : Term). Awaits (Put z k)) em a), ee ∙ sym (ap (λ (z : Term). event_at (Put z k)) em))
write_event i o m t k (inr (x, port, (c, w, n, j, array, em, inl (ee, ek, et)))) =
    inr (subst (λ (z : Term). Awaits (Put z k)) (sym em) tt, input_at o x 1 port ee refl, array_not_ground i x c w array)
write_event i o m t k (inr (x, port, (c, w, n, j, array, em, inr (ee, none, et)))) =
    inr (subst (λ (z : Term). Awaits (Put z k)) (sym em) tt, input_at o x 5 port ee refl, array_not_ground i x c w array)

event_of : (i : Imports) (o : Label) (m t : Term) → OneLabel i o m t → IsEventAt i o m
event_of i o (Import x) t (inl (inl (h, e, et))) = inl ((λ a. a), ap (λ (z : Label). z.event) e)
event_of i o (Import x) t (inl (inr (w, h, e, et))) = inl ((λ a. a), ap (λ (z : Label). z.event) e)
event_of i o (Deref m) t h = read_event i o m t h
event_of i o (Put m k) t h = write_event i o m t k h
event_of i o (Wait x n) t (inr (p, e, h)) = inl ((λ a. a), e)
event_of i o m t (inl h) = absurd h
event_of i o m t (inr h) = absurd h

-- of one sort, and of one kind where no import is of an array
abbrev pub AreSame : Imports → Doing → Doing → Type 0
AreSame i a b = SameSort a b × (AreGround i → SameKind a b)

same_labels : (i : Imports) (o k : Label) (m t r : Term) → OneLabel i o m t → OneLabel i k m r → AreSame i (Showing o) (Showing k)
same_labels i o k m t r h g = by_events (event_of i o m t h) (event_of i k m r g)
  where
    port : o.port ≡ k.port
    port = port_of i o m t h ∙ sym (port_of i k m r g)

    by_events : IsEventAt i o m → IsEventAt i k m → AreSame i (Showing o) (Showing k)
    by_events (inl (quiet, e)) (inl (still, f)) = ((port, inl (e ∙ sym f)), λ ground. (port, e ∙ sym f))
    by_events (inl (quiet, e)) (inr (waits, input, array)) = absurd (quiet waits)
    by_events (inr (waits, input, array)) (inl (quiet, e)) = absurd (quiet waits)
    by_events (inr (waits, input, array)) (inr (also, other, more)) = ((port, inr (input, other)), λ ground. absurd (array ground))

-- at one term, one thing at one rest of the path
here_one : (i : Imports) (a b : Doing) (s u r v : Store) (p q : List ℕ) (m x y : Term) → Here i a s u p m x → Here i b r v q m y
    → (p ≡ q) × AreSame i a b
here_one i Unfolding Unfolding s u r v p q m x y (h, e) (g, f) = (head_one p q m x y h g, (tt, λ ground. tt))
here_one i Unfolding Computing s u r v p [] m x y (h, e) g = absurd (head_no_row r v m y x (one_of p m x h) g)
here_one i Unfolding Computing s u r v p (n ∷ q) m x y h g = absurd g
here_one i Unfolding (Showing o) s u r v p [] m x y (h, e) (g, f) = absurd (head_no_label i o m y x (one_of p m x h) g)
here_one i Unfolding (Showing o) s u r v p (n ∷ q) m x y h (g, f) = absurd g
here_one i Computing Unfolding s u r v [] q m x y h (g, f) = absurd (head_no_row s u m x y (one_of q m y g) h)
here_one i Computing Unfolding s u r v (n ∷ p) q m x y h g = absurd h
here_one i Computing Computing s u r v [] [] m x y h g = (refl, (tt, λ ground. tt))
here_one i Computing Computing s u r v [] (n ∷ q) m x y h g = absurd g
here_one i Computing Computing s u r v (n ∷ p) q m x y h g = absurd h
here_one i Computing (Showing o) s u r v [] [] m x y h (g, f) = absurd (row_no_label s u i o m x y h g)
here_one i Computing (Showing o) s u r v [] (n ∷ q) m x y h (g, f) = absurd g
here_one i Computing (Showing o) s u r v (n ∷ p) q m x y h g = absurd h
here_one i (Showing o) Unfolding s u r v [] q m x y (h, e) (g, f) = absurd (head_no_label i o m x y (one_of q m y g) h)
here_one i (Showing o) Unfolding s u r v (n ∷ p) q m x y (h, e) g = absurd h
here_one i (Showing o) Computing s u r v [] [] m x y (h, e) g = absurd (row_no_label r v i o m y x g h)
here_one i (Showing o) Computing s u r v [] (n ∷ q) m x y h g = absurd g
here_one i (Showing o) Computing s u r v (n ∷ p) q m x y (h, e) g = absurd h
here_one i (Showing o) (Showing k) s u r v [] [] m x y (h, e) (g, f) = (refl, same_labels i o k m x y h g)
here_one i (Showing o) (Showing k) s u r v [] (n ∷ q) m x y h (g, f) = absurd g
here_one i (Showing o) (Showing k) s u r v (n ∷ p) q m x y (h, e) g = absurd h

-- both sides under other words
sides_are :
    (i : Imports) (p q p' q' : List ℕ) (a b : Doing) (s u v : Store) (m t r m' t' r' : Term)
    → p' ≡ p → q' ≡ q → m' ≡ m → t' ≡ t → r' ≡ r → OnSides i p q a b s u v m t r → OnSides i p' q' a b s u v m' t' r'
sides_are i p q p' q' a b s u v m t r m' t' r' ep eq em et er o =
    record {
      around = o.around;
      left = o.left;
      right = o.right;
      left_path = o.left_path;
      right_path = o.right_path;
      new_left = o.new_left;
      new_right = o.new_right;
      whole = em ∙ o.whole;
      first_path = ep ∙ o.first_path;
      second_path = eq ∙ o.second_path;
      after_first = et ∙ o.after_first;
      after_second = er ∙ o.after_second;
      does_left = o.does_left;
      does_right = o.does_right;
    }

-- and in a context
sides_in :
    (i : Imports) (c : Context) (p q : List ℕ) (a b : Doing) (s u v : Store) (m t r : Term)
    → OnSides i p q a b s u v m t r → OnSides i (way c ++ p) (way c ++ q) a b s u v (plug c m) (plug c t) (plug c r)
sides_in i c p q a b s u v m t r o =
    record {
      around = c ∷ o.around;
      left = o.left;
      right = o.right;
      left_path = o.left_path;
      right_path = o.right_path;
      new_left = o.new_left;
      new_right = o.new_right;
      whole = ap (plug c) o.whole;
      first_path = ap (λ (z : List ℕ). way c ++ z) o.first_path;
      second_path = ap (λ (z : List ℕ). way c ++ z) o.second_path;
      after_first = ap (plug c) o.after_first;
      after_second = ap (plug c) o.after_second;
      does_left = o.does_left;
      does_right = o.does_right;
    }

-- where two doings of one term are
abbrev pub Places : Imports → List ℕ → List ℕ → Doing → Doing → Store → Store → Store → Store → Term → Term → Term → Type 0
Places i p q a b s u r v m x y =
    ((p ≡ q) × AreSame i a b) ⊎ (r ≡ s → OnSides i p q a b s u v m x y ⊎ OnSides i q p b a s v u m y x)

here_sides :
    (i : Imports) (c d : Context) (cs ds : List Context) (a b : Doing) (s u v : Store) (p q : List ℕ) (x x' y y' : Term)
    → IsLeftOf c d (plug_all cs x) (plug_all ds y) → Here i a s u p x x' → Here i b s v q y y'
    → OnSides i (path_through (c ∷ cs) p) (path_through (d ∷ ds) q) a b s u v (plug_all (c ∷ cs) x) (plug_all (c ∷ cs) x') (plug_all (d ∷ ds) y')
here_sides i c d cs ds a b s u v p q x x' y y' (ec, ed) h g =
    record {
      around = [];
      left = plug_all cs x;
      right = plug_all ds y;
      left_path = path_through cs p;
      right_path = path_through ds q;
      new_left = plug_all cs x';
      new_right = plug_all ds y';
      whole = ap (λ (z : Context). plug z (plug_all cs x)) ec;
      first_path = ap (λ (z : Context). way z ++ path_through cs p) ec;
      second_path = ap (λ (z : Context). way z ++ path_through ds q) ed;
      after_first = ap (λ (z : Context). plug z (plug_all cs x')) ec;
      after_second = ap (λ (z : Context). plug z (plug_all ds y')) ed;
      does_left = does_through i cs p a s u x x' (does_here i a s u p x x' h);
      does_right = does_through i ds q b s v y y' (does_here i b s v q y y' g);
    }

-- the places below one context
places_in :
    (i : Imports) (c d : Context) (p q : List ℕ) (a b : Doing) (s u r v : Store) (m x y : Term)
    → c ≡ d → Places i p q a b s u r v m x y → Places i (way c ++ p) (way d ++ q) a b s u r v (plug c m) (plug c x) (plug d y)
places_in i c d p q a b s u r v m x y e (inl (same, kind)) =
    inl (ap (λ (z : List ℕ). way c ++ z) same ∙ ap (λ (z : Context). way z ++ q) e, kind)
places_in i c d p q a b s u r v m x y e (inr f) = inr (λ es. by_sides (f es))
  where
    by_sides : OnSides i p q a b s u v m x y ⊎ OnSides i q p b a s v u m y x
        → OnSides i (way c ++ p) (way d ++ q) a b s u v (plug c m) (plug c x) (plug d y)
        ⊎ OnSides i (way d ++ q) (way c ++ p) b a s v u (plug c m) (plug d y) (plug c x)
    by_sides (inl o) = inl (
        sides_are i (way c ++ p) (way c ++ q) (way c ++ p) (way d ++ q) a b s u v (plug c m) (plug c x) (plug c y) (plug c m) (plug c x) (plug d y)
        refl (ap (λ (z : Context). way z ++ q) (sym e)) refl refl (ap (λ (z : Context). plug z y) (sym e)) (sides_in i c p q a b s u v m x y o)
        )
    by_sides (inr o) = inr (
        sides_are i (way c ++ q) (way c ++ p) (way d ++ q) (way c ++ p) b a s v u (plug c m) (plug c y) (plug c x) (plug c m) (plug d y) (plug c x)
        (ap (λ (z : Context). way z ++ q) (sym e)) refl refl (ap (λ (z : Context). plug z y) (sym e)) refl (sides_in i c q p b a s v u m y x o)
        )

places_of :
    (i : Imports) (cs ds : List Context) (a b : Doing) (s u r v : Store) (p q : List ℕ) (x x' y y' : Term)
    → plug_all cs x ≡ plug_all ds y → Here i a s u p x x' → Here i b r v q y y'
    → Places i (path_through cs p) (path_through ds q) a b s u r v (plug_all cs x) (plug_all cs x') (plug_all ds y')
places_of i [] [] a b s u r v p q x x' y y' e h g =
    inl (here_one i a b s u r v p q x x' y' h (subst (λ (z : Term). Here i b r v q z y') (sym e) g))
places_of i [] (d ∷ ds) a b s u r v p q x x' y y' e h g =
    absurd (nothing_below i a b s u r v p q d ds y x' y' (subst (λ (z : Term). Here i a s u p z x') e h) g)
places_of i (c ∷ cs) [] a b s u r v p q x x' y y' e h g =
    absurd (nothing_below i b a r v s u q p c cs x y' x' (subst (λ (z : Term). Here i b r v q z y') (sym e) g) h)
places_of i (c ∷ cs) (d ∷ ds) a b s u r v p q x x' y y' e h g =
    by_ways (ways c d (plug_all cs x) (plug_all ds y) e) (λ ex. places_of i cs ds a b s u r v p q x x' y y' ex h g)
  where
    by_ways : Ways c d (plug_all cs x) (plug_all ds y)
        → (plug_all cs x ≡ plug_all ds y
        → Places i (path_through cs p) (path_through ds q) a b s u r v (plug_all cs x) (plug_all cs x') (plug_all ds y'))
        → Places i (path_through (c ∷ cs) p) (path_through (d ∷ ds) q) a b s u r v (plug_all (c ∷ cs) x) (plug_all (c ∷ cs) x') (plug_all (d ∷ ds) y')
    by_ways (inl (ec, ex)) later =
        places_in i c d (path_through cs p) (path_through ds q) a b s u r v (plug_all cs x) (plug_all cs x') (plug_all ds y') ec (later ex)
    by_ways (inr (inl left)) later = inr (λ es.
        inl (here_sides i c d cs ds a b s u v p q x x' y y' left h (subst (λ (z : Store). Here i b z v q y y') es g)))
    by_ways (inr (inr right)) later = inr (λ es.
        let o = here_sides i d c ds cs b a s v u q p y y' x x' right (subst (λ (z : Store). Here i b z v q y y') es g) h in
        inr (sides_are i (path_through (d ∷ ds) q) (path_through (c ∷ cs) p) (path_through (d ∷ ds) q) (path_through (c ∷ cs) p) b a s v u
        (plug_all (d ∷ ds) y) (plug_all (d ∷ ds) y') (plug_all (c ∷ cs) x') (plug_all (c ∷ cs) x) (plug_all (d ∷ ds) y') (plug_all (c ∷ cs) x')
        refl refl e refl refl o))

-- so of any two doings
pub places :
    (i : Imports) (p q : List ℕ) (a b : Doing) (s u r v : Store) (m t w : Term) → DoesAt i p a s u m t → DoesAt i q b r v m w
    → Places i p q a b s u r v m t w
places i p q a b s u r v m t w h g = of_both (found i p a s u m t h) (found i q b r v m w g)
  where
    of_both : Found (Here i a s u) p m t → Found (Here i b r v) q m w → Places i p q a b s u r v m t w
    of_both (cs, rest, x, x', ep, em, et, h') (ds, more, y, y', eq, em', ew, g') =
        by_places (places_of i cs ds a b s u r v rest more x x' y y' (sym em ∙ em') h' g')
      where
        by_places : Places i (path_through cs rest) (path_through ds more) a b s u r v (plug_all cs x) (plug_all cs x') (plug_all ds y')
            → Places i p q a b s u r v m t w
        by_places (inl (same, kind)) = inl (ep ∙ (same ∙ sym eq), kind)
        by_places (inr f) = inr (λ es. by_sides (f es))
          where
            by_sides : OnSides i (path_through cs rest) (path_through ds more) a b s u v (plug_all cs x) (plug_all cs x') (plug_all ds y')
                ⊎ OnSides i (path_through ds more) (path_through cs rest) b a s v u (plug_all cs x) (plug_all ds y') (plug_all cs x')
                → OnSides i p q a b s u v m t w ⊎ OnSides i q p b a s v u m w t
            by_sides (inl o) =
                inl (sides_are i (path_through cs rest) (path_through ds more) p q a b s u v (plug_all cs x) (plug_all cs x') (plug_all ds y') m t w
                ep eq em et ew o)
            by_sides (inr o) =
                inr (sides_are i (path_through ds more) (path_through cs rest) q p b a s v u (plug_all cs x) (plug_all ds y') (plug_all cs x') m w t
                eq ep em ew et o)

pub places_are_on_sides : PlacesAreOnSides
places_are_on_sides i p q a b s u v m t r other h g = by_places (places i p q a b s u s v m t r h g)
  where
    by_places : Places i p q a b s u s v m t r → OnSides i p q a b s u v m t r ⊎ OnSides i q p b a s v u m r t
    by_places (inl (same, kind)) = absurd (other same)
    by_places (inr f) = f refl

-- both sides have different paths
without_front : (xs ys zs : List ℕ) → xs ++ ys ≡ xs ++ zs → ys ≡ zs
without_front [] ys zs e = e
without_front (x ∷ xs) ys zs e = without_front xs ys zs (ap rest_of e)
  where
    rest_of : List ℕ → List ℕ
    rest_of [] = []
    rest_of (k ∷ ks) = ks

abbrev first_of : List ℕ → ℕ
first_of [] = 0
first_of (k ∷ ks) = k

paths_differ : (cs : List Context) (p q : List ℕ) → path_through cs (zero ∷ p) ≡ path_through cs (suc zero ∷ q) → ⊥
paths_differ [] p q e = let bad : zero ≡ suc zero = ap first_of e in absurd (omega (arith, bad))
paths_differ (c ∷ cs) p q e = paths_differ cs p q (without_front (way c) (path_through cs (zero ∷ p)) (path_through cs (suc zero ∷ q)) e)

pub sides_differ :
    (i : Imports) (p q : List ℕ) (a b : Doing) (s u v : Store) (m t r : Term) → OnSides i p q a b s u v m t r → p ≡ q → ⊥
sides_differ i p q a b s u v m t r o e =
    paths_differ o.around o.left_path o.right_path (sym o.first_path ∙ (e ∙ o.second_path))

same_place : (i : Imports) (p : List ℕ) (a b : Doing) (s u v : Store) (m t r : Term) → DoesAt i p a s u m t → DoesAt i p b s v m r → AreSame i a b
same_place i p a b s u v m t r h g = by_places (places i p p a b s u s v m t r h g)
  where
    by_places : Places i p p a b s u s v m t r → AreSame i a b
    by_places (inl (same, kind)) = kind
    by_places (inr f) = by_sides (f refl)
      where
        by_sides : OnSides i p p a b s u v m t r ⊎ OnSides i p p b a s v u m r t → AreSame i a b
        by_sides (inl o) = absurd (paths_differ o.around o.left_path o.right_path (sym o.first_path ∙ o.second_path))
        by_sides (inr o) = absurd (paths_differ o.around o.left_path o.right_path (sym o.first_path ∙ o.second_path))

pub one_sort : OneSort
one_sort i p a b s u v m t r h g = (same_place i p a b s u v m t r h g).0

pub one_kind : OneKind
one_kind i p a b s u v m t r ground h g = (same_place i p a b s u v m t r h g).1 ground
