-- Moves keep the locations of the store to those of open blocks.
use Rattle.std.specs.Prelude.{◌≡◌, ◌⊎◌, ℕ, zero, suc, List, [], ◌∷◌, Option, Some, None}
use Rattle.std.proofs.Common.{arith, refl, sym, ap, subst, inl, inr, ◌∙◌}
use Rattle.gos_types.specs.Types.{Type', Com, Exp, Var}
use Rattle.gos_model.specs.Terms.{Name, Term, Lit, Import, App, Fst, Snd, Seq, Par, If, While, Assign, Deref, New, Not, Bin, Loc, Scope, Wait, Held, Put, Both, NewArray, Arr}
use Rattle.gos_model.specs.Substitution.{instantiate}
use Rattle.gos_model.specs.Typing.{Imports, import_type}
use Rattle.gos_model.specs.Stores.{Entry, variable_at, Store, entry_at, without, array_at}
use Rattle.gos_model.specs.Reach.{Rel, InIndex}
use Rattle.gos_model.specs.Steps.{Computes, IsValue, Locates}
use Rattle.gos_model.specs.Labels.{Label, IsAnswer}
use Rattle.gos_model.specs.Moves.{Program, Config, Idle, Running, Act, Computing, Showing, Acts, Unfoldings, Move, Moves}
use Rattle.gos_model.proofs.NumberLemmas.{number_cases}
use Rattle.gos_model.proofs.HeadLemmas.{Lower, lower_no_index}
use Rattle.gos_programs.specs.contexts.Contexts.{Context, SeqFirst, ParLeft, ParRight, IfTest, BinLeft, HeldRight, NotOf, AssignRight, ScopeBody, ReadIndex, WriteIndex, plug, ReadAt, WriteAt}
use Rattle.gos_programs.specs.contexts.Scopes.{IsShut, OpensInPlace, OpensInIndex, IsOpen, IsOpenInIndex, KeepsScopes, MovesKeepScopes, RunsKeepScopes, EndsEmpty, OpensInPortIndex, IsOpenInPortIndex}
use Rattle.gos_programs.proofs.contexts.StoreLemmas.{not_both, first_at, later_at, without_same, without_absent, put_absent}
use Rattle.gos_programs.proofs.contexts.ReachedLemmas.{reached_lifted}
use Rattle.gos_programs.proofs.contexts.ShutLemmas.{shut_put, shut_in_place, shut_head}
use Rattle.gos_programs.proofs.contexts.BackwardLemmas.{OneHead, OneLabel}
use Rattle.gos_programs.proofs.contexts.PluggedLemmas.{acts_of}

-- there is something at a location, or nothing
abbrev Present : Store → ℕ → Type 0
Present s l = (e : Entry) × (entry_at s l ≡ Some e)

abbrev Absent : Store → ℕ → Type 0
Absent s l = entry_at s l ≡ None

-- Of a change of a with store s to b with store s': what is in s' and was open, or was not in s, is open now.
abbrev Kept : Store → Store → Rel
Kept s s' a b = OpensInPlace b × ((l : ℕ) → Present s' l → IsOpen l a ⊎ Absent s l → IsOpen l b)

abbrev Keeps : Store → Store → Rel
Keeps s s' a b = OpensInPlace a → Kept s s' a b

-- the index of an access
pub in_index : (x : Name) (n a : Term) → IsShut (App (Wait x 0) (Both n a)) ⊎ OpensInIndex (App (Wait x 0) (Both n a)) → IsShut n × OpensInPlace a
in_index x n a (inl (w, (f, g))) = (f, shut_in_place a g)
in_index x n a (inr (inl (head, f, g))) = (f, g)
in_index x n a (inr (inr ((l, e), g))) = absurd (cc e)

-- where the index of an access at a port has an open block
pub open_in_port : (l : ℕ) (x : Name) (n a : Term) → IsOpenInIndex l (App (Wait x 0) (Both n a)) → IsOpen l a
open_in_port l x n a (inl (head, o)) = o
open_in_port l x n a (inr ((k, e), o)) = absurd (cc e)

-- the index of an access of an array of the program's own
no_port_opens : (x : ℕ) (a : Term) → OpensInPortIndex (Arr x) a → ⊥
no_port_opens x (Both n m) ((y, e), f, g) = cc e
no_port_opens x a h = absurd h

no_port_open : (l x : ℕ) (a : Term) → IsOpenInPortIndex l (Arr x) a → ⊥
no_port_open l x (Both n m) ((y, e), o) = cc e
no_port_open l x a h = absurd h

pub at_array : (x : ℕ) (a : Term) → IsShut (App (Arr x) a) ⊎ OpensInIndex (App (Arr x) a) → OpensInPlace a
at_array x a (inl (w, g)) = shut_in_place a g
at_array x a (inr (inl h)) = absurd (no_port_opens x a h)
at_array x a (inr (inr (place, g))) = g

pub open_at_array : (l x : ℕ) (a : Term) → IsOpenInIndex l (App (Arr x) a) → IsOpen l a
open_at_array l x a (inl h) = absurd (no_port_open l x a h)
open_at_array l x a (inr (place, o)) = o

kept_at_array : (s s' : Store) (x : ℕ) (a b : Term) → Keeps s s' a b → OpensInPlace a
    → (IsShut (App (Arr x) b) ⊎ OpensInIndex (App (Arr x) b))
    × ((l : ℕ) → Present s' l → IsOpenInIndex l (App (Arr x) a) ⊎ Absent s l → IsOpenInIndex l (App (Arr x) b))
kept_at_array s s' x a b q i =
    let k = q i in
    (inr (inr ((x, refl), k.0)), λ l p h. inr ((x, refl), k.1 l p (elim h [ inl o ↦ inl (open_at_array l x a o) | inr g ↦ inr g ])))

kept_in_index : (s s' : Store) (x : Name) (n a b : Term) → Keeps s s' a b → IsShut n × OpensInPlace a
    → (IsShut (App (Wait x 0) (Both n b)) ⊎ OpensInIndex (App (Wait x 0) (Both n b)))
    × ((l : ℕ) → Present s' l → IsOpenInIndex l (App (Wait x 0) (Both n a)) ⊎ Absent s l → IsOpenInIndex l (App (Wait x 0) (Both n b)))
kept_in_index s s' x n a b q (f, i) =
    let k = q i in
    (inr (inl ((x, refl), f, k.0)), λ l p h. inl ((x, refl), k.1 l p (elim h [ inl o ↦ inl (open_in_port l x n a o) | inr g ↦ inr g ])))

kept_in : (s s' : Store) (c : Context) (a b : Term) → Keeps s s' a b → Keeps s s' (plug c a) (plug c b)
kept_in s s' (SeqFirst n) a b q (i, j) = let k = q i in ((k.0, j), k.1)
kept_in s s' (ParLeft n) a b q (i, j) =
    let k = q i in (
      (k.0, j),
      λ l p h. elim h [ inl o ↦ elim o [ inl x ↦ inl (k.1 l p (inl x)) | inr y ↦ inr y ] | inr g ↦ inl (k.1 l p (inr g)) ],
    )
kept_in s s' (ParRight n) a b q (i, j) =
    let k = q j in (
      (i, k.0),
      λ l p h. elim h [ inl o ↦ elim o [ inl x ↦ inl x | inr y ↦ inr (k.1 l p (inl y)) ] | inr g ↦ inr (k.1 l p (inr g)) ],
    )
kept_in s s' (IfTest n r) a b q (i, j, o) = let k = q i in ((k.0, j, o), k.1)
kept_in s s' (BinLeft op n) a b q (i, j) = let k = q i in ((k.0, j), k.1)
kept_in s s' (HeldRight n op) a b q i = q i
kept_in s s' NotOf a b q i = q i
kept_in s s' (AssignRight n) a b q (i, j) = let k = q j in ((i, k.0), k.1)
kept_in s s' (ScopeBody x) a b q i =
    let k = q i in (
      k.0,
      λ l p h. elim h [ inl o ↦ elim o [ inl e ↦ inl e | inr y ↦ inr (k.1 l p (inl y)) ] | inr g ↦ inr (k.1 l p (inr g)) ],
    )
kept_in s s' (ReadIndex x n) a b q i = kept_in_index s s' x n a b q (in_index x n a i)
kept_in s s' (WriteIndex x n k) a b q i = kept_in_index s s' x n a b q (in_index x n a i)
kept_in s s' (ReadAt x) a b q i = kept_at_array s s' x a b q (at_array x a i)
kept_in s s' (WriteAt x k) a b q i = kept_at_array s s' x a b q (at_array x a i)

-- where the store stays and nothing was open, nothing has to be
stays : (s s' : Store) (a b : Term) → s' ≡ s → ((l : ℕ) → IsOpen l a → ⊥) → OpensInPlace b → Kept s s' a b
stays s s' a b e shut i = (i, λ l p h. elim h [ inl o ↦ absurd (shut l o) | inr g ↦ absurd (both l p g) ])
  where
    both : (l : ℕ) → Present s' l → Absent s l → ⊥
    both l (d, h) g = not_both (entry_at s l) d g (sym (ap (λ (x : Store). entry_at x l) e) ∙ h)

pub value_shut : (v : Term) (l : ℕ) → IsValue v → IsOpen l v → ⊥
value_shut v l (inl e) o = subst (IsOpen l) e o
value_shut v l (inr (k, w, e)) o = subst (IsOpen l) e o

lit_shut : (k w : ℕ) (v : Term) → v ≡ Lit k w → (l : ℕ) → IsOpen l v → ⊥
lit_shut k w v e l o = subst (IsOpen l) e o

-- where all that was there before was there also in s
shrinks : (s s' : Store) (a b : Term) → ((l : ℕ) → Absent s l → Absent s' l) → ((l : ℕ) → Present s' l → IsOpen l a → ⊥) → OpensInPlace b
    → Kept s s' a b
shrinks s s' a b less shut i = (i, λ l p h. elim h [ inl o ↦ absurd (shut l p o) | inr g ↦ absurd (both l p g) ])
  where
    both : (l : ℕ) → Present s' l → Absent s l → ⊥
    both l (d, h) g = not_both (entry_at s' l) d (less l g) h

-- a block that opens
opens : (s s' : Store) (a m q b : Term) (first : Entry) → ((l : ℕ) → IsOpen l a → ⊥) → IsShut m → IsShut q
    → b ≡ Scope first.place (instantiate m q) → s' ≡ first ∷ s → Kept s s' a b
opens s s' a m q b first none shut closed eb es =
    let x : ℕ = first.place in
    subst (λ (y : Term). Kept s s' a y) (sym eb) (
      shut_in_place (instantiate m q) (shut_put m 0 q closed shut),
      λ l p h. elim h [ inl o ↦ absurd (none l o) | inr g ↦ number_cases x l (λ e t. inl e) (λ other f. absurd (new l p g other)) ],
    )
  where
    new : (l : ℕ) → Present s' l → Absent s l → (first.place ≡ l → ⊥) → ⊥
    new l (d, h) g other =
        not_both (entry_at s' l) d (ap (λ (y : Store). entry_at y l) es ∙ (later_at first s l other ∙ g)) h

-- a block that closes
closes : (s s' : Store) (k : ℕ) (m b : Term) → OpensInPlace m → IsValue m → b ≡ m → s' ≡ without s k → Kept s s' (Scope k m) b
closes s s' k m b i is eb es = shrinks s s' (Scope k m) b less shut (subst OpensInPlace (sym eb) i)
  where
    less : (l : ℕ) → Absent s l → Absent s' l
    less l g = ap (λ (y : Store). entry_at y l) es ∙ without_absent s k l g

    shut : (l : ℕ) → Present s' l → (k ≡ l) ⊎ IsOpen l m → ⊥
    shut l (d, h) (inl e) =
        not_both (entry_at s' l) d (ap (λ (y : Store). entry_at y l) es ∙ subst (λ (y : ℕ). entry_at (without s k) y ≡ None) e (without_same s k)) h
    shut l p (inr o) = value_shut m l is o

-- where an access may have an open block in its index, and where not
abbrev Anything : Rel
Anything a b = Unit {0}

opens_index : (m : Term) → OpensInIndex m → InIndex Anything m m
opens_index (App h n) (inr (place, i)) = inr (place, n, refl, inl tt)
opens_index (App h (Both b n)) (inl (head, f, i)) = inl (head, n, refl, inl tt)
opens_index (App h n) (inl i) = absurd i
opens_index m i = absurd i

open_index : (l : ℕ) (m : Term) → IsOpenInIndex l m → InIndex Anything m m
open_index l (App h n) (inr (place, o)) = inr (place, n, refl, inl tt)
open_index l (App h (Both b n)) (inl (head, o)) = inl (head, n, refl, inl tt)
open_index l (App h n) (inl o) = absurd o
open_index l m o = absurd o

located_not_open : (m : Term) (x i : ℕ) → Locates m x i → (l : ℕ) → IsOpenInIndex l m → ⊥
located_not_open m x i (inl (e, z)) l o = subst (IsOpenInIndex l) e o
located_not_open m x i (inr (w, e)) l o = open_at_array l x (Lit i w) (subst (IsOpenInIndex l) e o)

import_not_open : (m : Term) (x : Name) → m ≡ Import x → (l : ℕ) → IsOpenInIndex l m → ⊥
import_not_open m x e l o = subst (IsOpenInIndex l) e o

head_not_open : (m t : Term) → Lower m t → (l : ℕ) → IsOpenInIndex l m → ⊥
head_not_open m t lower l o = lower_no_index Anything m t m lower (open_index l m o)

pub shut_head_aside : (m t : Term) → Lower m t → IsShut m ⊎ OpensInIndex m → IsShut m
shut_head_aside m t lower (inl h) = h
shut_head_aside m t lower (inr i) = absurd (lower_no_index Anything m t m lower (opens_index m i))

-- an index that is not asked for: of a port that doesn't wait for it
abbrev pub IsUnasked : Term → Type 0
IsUnasked h = ((x : Name) → h ≡ Wait x 0 → ⊥) × ((l : ℕ) → h ≡ Arr l → ⊥)

pub import_unasked : (x : Name) → IsUnasked (Import x)
import_unasked x = (λ y e. cc e, λ l e. cc e)

pub request_unasked : (x : Name) → IsUnasked (Wait x 1)
request_unasked x = (λ y e. let bad : ◌≡◌ {A = ℕ} 1 0 = cc e in omega (arith, bad), λ l e. cc e)

unasked_index : (h a : Term) → IsUnasked h → OpensInIndex (App h a) → ⊥
unasked_index h a other (inr ((l, e), i)) = other.1 l e
unasked_index h (Both n m) other (inl i) = other.0 i.0.0 i.0.1
unasked_index h a other (inl i) = absurd i

unasked_open : (l : ℕ) (h a : Term) → IsUnasked h → IsOpenInIndex l (App h a) → ⊥
unasked_open l h a other (inr ((k, e), o)) = other.1 k e
unasked_open l h (Both n m) other (inl o) = other.0 o.0.0 o.0.1
unasked_open l h a other (inl o) = absurd o

pub unasked_shut : (m h a : Term) → m ≡ App h a → IsUnasked h → IsShut m ⊎ OpensInIndex m → IsShut a
unasked_shut m h a em other i = by (subst (λ (v : Term). IsShut v ⊎ OpensInIndex v) em i)
  where
    by : IsShut (App h a) ⊎ OpensInIndex (App h a) → IsShut a
    by (inl g) = g.1
    by (inr g) = absurd (unasked_index h a other g)

unasked_not_open : (m h a : Term) → m ≡ App h a → IsUnasked h → (l : ℕ) → IsOpenInIndex l m → ⊥
unasked_not_open m h a em other l o = unasked_open l h a other (subst (IsOpenInIndex l) em o)

pub asked_shut : (m : Term) (x : Name) (n j : Term) (k w : ℕ) → m ≡ App (Wait x 0) (Both n j) → j ≡ Lit k w → IsShut m ⊎ OpensInIndex m → IsShut (Both n j)
asked_shut m x n j k w em ej i = ((in_index x n j (subst (λ (v : Term). IsShut v ⊎ OpensInIndex v) em i)).0, subst IsShut (sym ej) tt)

asked_not_open : (m : Term) (x : Name) (n j : Term) (k w : ℕ) → m ≡ App (Wait x 0) (Both n j) → j ≡ Lit k w → (l : ℕ) → IsOpenInIndex l m → ⊥
asked_not_open m x n j k w em ej l o = subst (IsOpen l) ej (open_in_port l x n j (subst (IsOpenInIndex l) em o))

rows_keep : (s s' : Store) (a b : Term) → Computes s s' a b → Keeps s s' a b
rows_keep s s' (Seq m n) b (em, et, es) (i, j) =
    stays s s' (Seq m n) b es (λ l o. value_shut m l (inl em) o) (subst OpensInPlace (sym et) (shut_in_place n j))
rows_keep s s' (Par m n) b (em, en, et, es) (i, j) =
    stays s s' (Par m n) b es
    (λ l o. elim o [ inl x ↦ value_shut m l (inl em) x | inr y ↦ value_shut n l (inl en) y ]) (subst OpensInPlace (sym et) tt)
rows_keep s s' (If m n p) b (inl (em, et), es) (i, j, k) =
    stays s s' (If m n p) b es (lit_shut 1 1 m em) (subst OpensInPlace (sym et) (shut_in_place n j))
rows_keep s s' (If m n p) b (inr (em, et), es) (i, j, k) =
    stays s s' (If m n p) b es (lit_shut 0 1 m em) (subst OpensInPlace (sym et) (shut_in_place p k))
rows_keep s s' (While m n) b (et, es) (i, j) =
    stays s s' (While m n) b es (λ l o. o) (subst OpensInPlace (sym et) (shut_in_place m i, (j, (i, j)), tt))
rows_keep s s' (Bin op m n) b (k, w, em, et, es) (i, j) =
    stays s s' (Bin op m n) b es (lit_shut k w m em) (subst OpensInPlace (sym et) (shut_in_place n j))
rows_keep s s' (Held k op n) b (j, w, en, et, es) i =
    stays s s' (Held k op n) b es (lit_shut j w n en) (subst OpensInPlace (sym et) tt)
rows_keep s s' (Not m) b (k, w, em, et, es) i =
    stays s s' (Not m) b es (lit_shut k w m em) (subst OpensInPlace (sym et) tt)
rows_keep s s' (Assign m n) b (k, w, en, et, es) (i, j) =
    stays s s' (Assign m n) b es (lit_shut k w n en) (subst OpensInPlace (sym et) (inl i))
rows_keep s s' (Put m k) b (e, j, old, em, here, has, et, es) i =
    shrinks s s' (Put m k) b (λ x g. ap (λ (y : Store). entry_at y x) es ∙ put_absent s e.place j k x g) (λ x p o. located_not_open m e.place j em x o) (subst OpensInPlace (sym et) tt)
rows_keep s s' (Deref m) b (e, j, old, em, at, has, et, es) i =
    stays s s' (Deref m) b es (located_not_open m e.place j em) (subst OpensInPlace (sym et) tt)
rows_keep s s' (New w m) b (l, absent, et, es) i = opens s s' (New w m) m (Loc l) b (variable_at l w 0) (λ x o. o) i tt et es
rows_keep s s' (NewArray n w m) b (l, absent, et, es) i = opens s s' (NewArray n w m) m (Arr l) b (array_at l w n) (λ x o. o) i tt et es
rows_keep s s' (Scope k m) b (is, et, es) i = closes s s' k m b i is et es
rows_keep s s' m b h i = absurd h

heads_keep : (s : Store) (a b : Term) → OneHead a b → Keeps s s a b
heads_keep s (App m n) b h i = stays s s (App m n) b refl (λ l o. o) (shut_in_place b (shut_head (App m n) b h i))
heads_keep s (Fst m) b h i = stays s s (Fst m) b refl (λ l o. o) (shut_in_place b (shut_head (Fst m) b h i))
heads_keep s (Snd m) b h i = stays s s (Snd m) b refl (λ l o. o) (shut_in_place b (shut_head (Snd m) b h i))
heads_keep s (Put m k) b (inr (m', e, h)) i =
    stays s s (Put m k) b refl (head_not_open m m' h) (shut_in_place b (shut_head (Put m k) b (inr (m', e, h)) (shut_head_aside m m' h i)))
heads_keep s (Deref m) b (inr (m', e, h)) i =
    stays s s (Deref m) b refl (head_not_open m m' h) (shut_in_place b (shut_head (Deref m) b (inr (m', e, h)) (shut_head_aside m m' h i)))
heads_keep s a b (inl (inl h)) i = absurd h
heads_keep s a b (inl (inr h)) i = absurd h
heads_keep s a b (inr h) i = absurd h

waits : (s : Store) (a b : Term) (x : Name) (n : ℕ) → b ≡ Wait x n → ((l : ℕ) → IsOpen l a → ⊥) → Kept s s a b
waits s a b x n e shut = stays s s a b refl shut (subst OpensInPlace (sym e) tt)

-- an answer leaves a value
answer_in_place : (o : Option Type') (n k : ℕ) (t : Term) → IsAnswer o n k t → OpensInPlace t
answer_in_place (Some Com) (suc zero) k t h = subst OpensInPlace (sym h.1) tt
answer_in_place (Some (Exp w)) (suc zero) k t h = subst OpensInPlace (sym h.1) tt
answer_in_place (Some (Var w)) (suc zero) k t h = subst OpensInPlace (sym h.1) tt
answer_in_place (Some (Var w)) (suc (suc (suc zero))) k t h = subst OpensInPlace (sym h.1) tt
answer_in_place o n k t h = absurd h

labels_keep : (i : Imports) (o : Label) (s : Store) (a b : Term) → OneLabel i o a b → Keeps s s a b
labels_keep i o s (Import x) b (inl (inl (h, e, et))) k = waits s (Import x) b x 1 et (λ l o. o)
labels_keep i o s (Import x) b (inl (inr (w, h, e, et))) k = waits s (Import x) b x 1 et (λ l o. o)
labels_keep i o s (Deref m) b (inl (inl (x, w, em, h, e, et))) k = waits s (Deref m) b x 1 et (import_not_open m x em)
labels_keep i o s (Put m n) b (inl (inl (x, w, em, h, e, et))) k = waits s (Put m n) b x 3 et (import_not_open m x em)
labels_keep i o s (Wait x n) b (inr h) k = stays s s (Wait x n) b refl (λ l o. o) (answer_in_place (import_type i x) n o.value b h.2)
labels_keep i o s (Deref m) b (inl (inr (x, p, (c, w, j, array, inl (em, ee, ek, et))))) k =
    let shut = unasked_shut m (Import x) j em (import_unasked x) k in
    stays s s (Deref m) b refl (unasked_not_open m (Import x) j em (import_unasked x)) (subst OpensInPlace (sym et) (inl (tt, (shut, shut))))
labels_keep i o s (Deref m) b (inl (inr (x, p, (c, w, n', array, inr (j, em, ej, ee, et))))) k =
    stays s s (Deref m) b refl (asked_not_open m x n' j o.value c em ej) (subst OpensInPlace (sym et) (inl (tt, asked_shut m x n' j o.value c em ej k)))
labels_keep i o s (Deref m) b (inr (x, p, (c, w, n', j, array, em, inl (ee, ek, et)))) k =
    let shut = unasked_shut m (Wait x 1) (Both n' j) em (request_unasked x) k in
    stays s s (Deref m) b refl (unasked_not_open m (Wait x 1) (Both n' j) em (request_unasked x)) (subst OpensInPlace (sym et) (inl (tt, (shut.0, shut.0))))
labels_keep i o s (Deref m) b (inr (x, p, (c, w, n', j, array, em, inr (ee, ek, et)))) k =
    stays s s (Deref m) b refl (unasked_not_open m (Wait x 1) (Both n' j) em (request_unasked x)) (subst OpensInPlace (sym et) tt)
labels_keep i o s (Put m n) b (inl (inr (x, p, (c, w, j, array, inl (em, ee, ek, et))))) k =
    let shut = unasked_shut m (Import x) j em (import_unasked x) k in
    stays s s (Put m n) b refl (unasked_not_open m (Import x) j em (import_unasked x)) (subst OpensInPlace (sym et) (inl (tt, (shut, shut))))
labels_keep i o s (Put m n) b (inl (inr (x, p, (c, w, n', array, inr (j, em, ej, ee, et))))) k =
    stays s s (Put m n) b refl (asked_not_open m x n' j o.value c em ej) (subst OpensInPlace (sym et) (inl (tt, asked_shut m x n' j o.value c em ej k)))
labels_keep i o s (Put m n) b (inr (x, p, (c, w, n', j, array, em, inl (ee, ek, et)))) k =
    let shut = unasked_shut m (Wait x 1) (Both n' j) em (request_unasked x) k in
    stays s s (Put m n) b refl (unasked_not_open m (Wait x 1) (Both n' j) em (request_unasked x)) (subst OpensInPlace (sym et) (inl (tt, (shut.0, shut.0))))
labels_keep i o s (Put m n) b (inr (x, p, (c, w, n', j, array, em, inr (ee, ek, et)))) k =
    stays s s (Put m n) b refl (unasked_not_open m (Wait x 1) (Both n' j) em (request_unasked x)) (subst OpensInPlace (sym et) tt)
labels_keep i o s a b (inl h) k = absurd h
labels_keep i o s a b (inr h) k = absurd h

-- a change keeps the scopes
keeps_after : (s s' : Store) (m t : Term) → Keeps s s' m t → KeepsScopes m s → KeepsScopes t s'
keeps_after s s' m t q (i, each) = let k = q i in (k.0, λ l e h. found l e h (entry_at s l) refl)
  where
    found : (l : ℕ) (e : Entry) → entry_at s' l ≡ Some e → (o : Option Entry) → entry_at s l ≡ o → IsOpen l t
    found l e h None g = (q i).1 l (e, h) (inr g)
    found l e h (Some d) g = (q i).1 l (e, h) (inl (each l d g))

pub unfoldings_keep : (s : Store) (n : ℕ) (m t : Term) → Unfoldings n m t → KeepsScopes m s → KeepsScopes t s
unfoldings_keep s zero m t h k = subst (λ (x : Term). KeepsScopes x s) h k
unfoldings_keep s (suc n) m t (u, h, hs) k =
    unfoldings_keep s n u t hs (keeps_after s s m u (reached_lifted OneHead (Keeps s s) (heads_keep s) (kept_in s s) m u h) k)

acts_keep : (i : Imports) (a : Act) (s s' : Store) (m t : Term) → Acts i a s s' m t → KeepsScopes m s → KeepsScopes t s'
acts_keep i Computing s s' m t h k =
    keeps_after s s' m t (reached_lifted (Computes s s') (Keeps s s') (rows_keep s s') (kept_in s s') m t h) k
acts_keep i (Showing o) s s' m t (h, e) k =
    subst (λ (x : Store). KeepsScopes t x) (sym e)
    (keeps_after s s m t (reached_lifted (OneLabel i o) (Keeps s s) (labels_keep i o s) (kept_in s s) m t h) k)

-- in place alone
pub unfoldings_keep_place : (n : ℕ) (m t : Term) → Unfoldings n m t → OpensInPlace m → OpensInPlace t
unfoldings_keep_place zero m t h k = subst OpensInPlace h k
unfoldings_keep_place (suc n) m t (u, h, hs) k =
    unfoldings_keep_place n u t hs (reached_lifted OneHead (Keeps [] []) (heads_keep []) (kept_in [] []) m u h k).0

pub acts_keep_place : (i : Imports) (a : Act) (s s' : Store) (m t : Term) → Acts i a s s' m t → OpensInPlace m → OpensInPlace t
acts_keep_place i Computing s s' m t h k = (reached_lifted (Computes s s') (Keeps s s') (rows_keep s s') (kept_in s s') m t h k).0
acts_keep_place i (Showing o) s s' m t (h, e) k = (reached_lifted (OneLabel i o) (Keeps s s) (labels_keep i o s) (kept_in s s) m t h k).0

-- of a configuration
abbrev Keeping : Config → Type 0
Keeping Idle = Unit {0}
Keeping (Running m s) = KeepsScopes m s

move_keeps : (p : Program) (a : Act) (c d : Config) → IsShut p.body → Move p a c d → Keeping c → Keeping d
move_keeps p a Idle d shut (e, h) k = subst Keeping (sym h) (shut_in_place p.body shut, λ l e h. absurd cc)
move_keeps p a (Running m s) Idle shut h k = tt
move_keeps p a (Running m s) (Running t u) shut (n, v, hs, h) k =
    acts_keep p.imports a s u v t (acts_of p.imports a s u v t h) (unfoldings_keep s n m v hs k)

all_keep : (p : Program) (acts : List Act) (c d : Config) → IsShut p.body → Moves p acts c d → Keeping c → Keeping d
all_keep p [] c d shut h k = subst Keeping h k
all_keep p (a ∷ acts) c d shut (b, h, hs) k = all_keep p acts b d shut hs (move_keeps p a c b shut h k)

pub moves_keep_scopes : MovesKeepScopes
moves_keep_scopes p acts m t s u shut k h = all_keep p acts (Running m s) (Running t u) shut h k

pub runs_keep_scopes : RunsKeepScopes
runs_keep_scopes p acts t s shut h = all_keep p acts Idle (Running t s) shut h tt

pub none_left : (v : Term) (s : Store) → KeepsScopes v s → IsValue v → s ≡ []
none_left v [] k is = refl
none_left v (e ∷ s) (i, each) is = absurd (value_shut v e.place is (each e.place e (first_at e s e.place refl)))

pub ends_empty : EndsEmpty
ends_empty p acts v s shut h is = none_left v s (runs_keep_scopes p acts v s shut h) is
