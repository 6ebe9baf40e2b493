-- In a run of a source each location has its entry.
use Rattle.std.specs.Prelude.{◌≡◌, ◌⊎◌, ℕ, zero, suc, List, [], ◌∷◌, Option, Some, None, set}
use Rattle.std.proofs.Common.{refl, sym, ap, subst, inl, inr, ◌∙◌}
use Rattle.gos_types.specs.Types.{Type', Com, Exp, Var}
use Rattle.gos_model.specs.Terms.{Name, Term, Skip, Lit, Bound, Import, Lam, App, Both, Fst, Snd, Seq, Par, If, While, Assign, Deref, New, Not, Bin, Loc, Scope, Wait, Held, Put, NewArray, Arr}
use Rattle.gos_model.specs.Substitution.{instantiate}
use Rattle.gos_model.specs.Typing.{Imports, import_type}
use Rattle.gos_model.specs.Stores.{Entry, variable_at, Store, entry_at, store_put, array_at}
use Rattle.gos_model.specs.Reach.{Rel}
use Rattle.gos_model.specs.Steps.{Computes, IsValue}
use Rattle.gos_model.specs.Labels.{Label, IsAnswer}
use Rattle.gos_model.specs.Moves.{Program, Config, Idle, Running, Act, Computing, Showing, Acts, Unfoldings, Move, Moves}
use Rattle.gos_model.proofs.NumberLemmas.{number_cases}
use Rattle.gos_programs.specs.contexts.Contexts.{Context, SeqFirst, ParLeft, ParRight, IfTest, BinLeft, HeldRight, NotOf, AssignRight, ScopeBody, ReadIndex, WriteIndex, plug, ReadAt, WriteAt}
use Rattle.gos_programs.specs.contexts.Scopes.{IsShut, OpensInPlace, OpensInIndex, IsOpen, IsOpenInIndex}
use Rattle.gos_programs.specs.contexts.Standing.{Present, StandsIn, Has, InScope, OpensDiffer, DifferInIndex, RunsStay, DifferInPortIndex}
use Rattle.gos_programs.proofs.contexts.BackwardLemmas.{OneHead, OneLabel}
use Rattle.gos_programs.proofs.contexts.PluggedLemmas.{acts_of}
use Rattle.gos_programs.proofs.contexts.ReachedLemmas.{reached_lifted}
use Rattle.gos_programs.proofs.contexts.StoreLemmas.{not_both, first_at, later_at, without_other, put_same, put_other, numbered}
use Rattle.gos_programs.proofs.contexts.ShutLemmas.{sources_are_shut, shut_put, shut_in_place, shut_head}
use Rattle.gos_programs.proofs.contexts.ScopeLemmas.{in_index, shut_head_aside, import_unasked, request_unasked, unasked_shut, asked_shut, acts_keep_place, unfoldings_keep_place, open_in_port, at_array, open_at_array}
use Rattle.gos_programs.proofs.contexts.InScopeLemmas.{sources_scoped, unfoldings_scoped, acts_scoped}

abbrev Absent : Store → ℕ → Type 0
Absent s l = entry_at s l ≡ None

-- where no block is open none is at a reached place
mutual
  pub shut_not_open : (m : Term) (l : ℕ) → IsShut m → IsOpen l m → ⊥
  shut_not_open (Seq m n) l h o = shut_not_open m l h.0 o
  shut_not_open (Par m n) l h (inl o) = shut_not_open m l h.0 o
  shut_not_open (Par m n) l h (inr o) = shut_not_open n l h.1 o
  shut_not_open (If m n p) l h o = shut_not_open m l h.0 o
  shut_not_open (Bin op m n) l h o = shut_not_open m l h.0 o
  shut_not_open (Held k op n) l h o = shut_not_open n l h o
  shut_not_open (Not m) l h o = shut_not_open m l h o
  shut_not_open (Assign m n) l h o = shut_not_open n l h.1 o
  shut_not_open (Scope k m) l h o = absurd h
  shut_not_open (Deref m) l h o = index_not_open m l h o
  shut_not_open (Put m k) l h o = index_not_open m l h o
  shut_not_open m l h o = absurd o

  index_not_open : (m : Term) (l : ℕ) → IsShut m → IsOpenInIndex l m → ⊥
  index_not_open (App g n) l h (inr (place, o)) = shut_not_open n l h.1 o
  index_not_open (App g (Both b n)) l h (inl (head, o)) = shut_not_open n l h.1.1 o
  index_not_open (App g n) l h (inl o) = absurd o
  index_not_open m l h o = absurd o

mutual
  pub shut_differ : (m : Term) → IsShut m → OpensDiffer m
  shut_differ (Seq m n) h = shut_differ m h.0
  shut_differ (Par m n) h = (shut_differ m h.0, shut_differ n h.1, (λ l o q. shut_not_open m l h.0 o))
  shut_differ (If m n p) h = shut_differ m h.0
  shut_differ (Bin op m n) h = shut_differ m h.0
  shut_differ (Held k op n) h = shut_differ n h
  shut_differ (Not m) h = shut_differ m h
  shut_differ (Assign m n) h = shut_differ n h.1
  shut_differ (Scope k m) h = absurd h
  shut_differ (Deref m) h = index_differs m h
  shut_differ (Put m k) h = index_differs m h
  shut_differ m h = tt

  index_differs : (m : Term) → IsShut m → DifferInIndex m
  index_differs (App g n) h = (port_differs g n h.1, λ place. shut_differ n h.1)
  index_differs m h = tt

  port_differs : (g n : Term) → IsShut n → DifferInPortIndex g n
  port_differs g (Both b n) h = λ head. shut_differ n h.1
  port_differs g n h = tt

-- Of a change of a with store s to b with store s': open blocks differ and are in the store; what is open was open,
-- or was not in the store; and what was in the store and not open is there still.
record Follows (s s' : Store) (a b : Term) : Type 0 where
  differ : OpensDiffer b
  there : (l : ℕ) → IsOpen l b → Present s' l
  before : (l : ℕ) → IsOpen l b → IsOpen l a ⊎ Absent s l
  rest : (l : ℕ) → Present s l → (IsOpen l a → ⊥) → Present s' l

abbrev Stay : Store → Store → Rel
Stay s s' a b = OpensInPlace a → OpensDiffer a → ((l : ℕ) → IsOpen l a → Present s l) → Follows s s' a b

both_ways : (s : Store) (l : ℕ) → Present s l → Absent s l → ⊥
both_ways s l (e, h) g = not_both (entry_at s l) e g h

-- in the index of an access
stay_in_index : (s s' : Store) (x : Name) (n a b : Term) → Stay s s' a b → OpensInPlace a → OpensDiffer a
    → ((l : ℕ) → IsOpenInIndex l (App (Wait x 0) (Both n a)) → Present s l)
    → Follows s s' (Deref (App (Wait x 0) (Both n a))) (Deref (App (Wait x 0) (Both n b)))
stay_in_index s s' x n a b q i d t =
    let k = q i d (λ l o. t l (inl ((x, refl), o))) in
    record {
      differ = (λ head. k.differ, λ place. tt);
      there = λ l o. k.there l (open_in_port l x n b o);
      before = λ l o. elim (k.before l (open_in_port l x n b o)) [ inl y ↦ inl (inl ((x, refl), y)) | inr g ↦ inr g ];
      rest = λ l p not. k.rest l p (λ y. not (inl ((x, refl), y)));
    }

-- in that of an access of an array of the program's own
no_port_differs : (x : ℕ) (b : Term) → DifferInPortIndex (Arr x) b
no_port_differs x (Both n m) = λ head. absurd (cc head.1)
no_port_differs x b = tt

stay_at_array : (s s' : Store) (x : ℕ) (a b : Term) → Stay s s' a b → OpensInPlace a → OpensDiffer a
    → ((l : ℕ) → IsOpenInIndex l (App (Arr x) a) → Present s l) → Follows s s' (Deref (App (Arr x) a)) (Deref (App (Arr x) b))
stay_at_array s s' x a b q i d t =
    let k = q i d (λ l o. t l (inr ((x, refl), o))) in
    record {
      differ = (no_port_differs x b, λ place. k.differ);
      there = λ l o. k.there l (open_at_array l x b o);
      before = λ l o. elim (k.before l (open_at_array l x b o)) [ inl y ↦ inl (inr ((x, refl), y)) | inr g ↦ inr g ];
      rest = λ l p not. k.rest l p (λ y. not (inr ((x, refl), y)));
    }

stay_in : (s s' : Store) (c : Context) (a b : Term) → Stay s s' a b → Stay s s' (plug c a) (plug c b)
stay_in s s' (SeqFirst n) a b q (i, j) d t = let k = q i d t in record { differ = k.differ; there = k.there; before = k.before; rest = k.rest }
stay_in s s' (ParLeft n) a b q (i, j) (d, d', apart) t =
    let k = q i d (λ l o. t l (inl o)) in
    record {
      differ = (k.differ, d', (λ l o o'. elim (k.before l o) [ inl x ↦ apart l x o' | inr g ↦ both_ways s l (t l (inr o')) g ]));
      there = λ l o. elim o [ inl x ↦ k.there l x | inr y ↦ k.rest l (t l (inr y)) (λ x. apart l x y) ];
      before = λ l o. elim o [ inl x ↦ elim (k.before l x) [ inl z ↦ inl (inl z) | inr g ↦ inr g ] | inr y ↦ inl (inr y) ];
      rest = λ l p not. k.rest l p (λ x. not (inl x));
    }
stay_in s s' (ParRight n) a b q (i, j) (d, d', apart) t =
    let k = q j d' (λ l o. t l (inr o)) in
    record {
      differ = (d, k.differ, (λ l o o'. elim (k.before l o') [ inl x ↦ apart l o x | inr g ↦ both_ways s l (t l (inl o)) g ]));
      there = λ l o. elim o [ inl x ↦ k.rest l (t l (inl x)) (λ y. apart l x y) | inr y ↦ k.there l y ];
      before = λ l o. elim o [ inl x ↦ inl (inl x) | inr y ↦ elim (k.before l y) [ inl z ↦ inl (inr z) | inr g ↦ inr g ] ];
      rest = λ l p not. k.rest l p (λ x. not (inr x));
    }
stay_in s s' (IfTest n p) a b q (i, j, o) d t = let k = q i d t in record { differ = k.differ; there = k.there; before = k.before; rest = k.rest }
stay_in s s' (BinLeft op n) a b q (i, j) d t = let k = q i d t in record { differ = k.differ; there = k.there; before = k.before; rest = k.rest }
stay_in s s' (HeldRight n op) a b q i d t = let k = q i d t in record { differ = k.differ; there = k.there; before = k.before; rest = k.rest }
stay_in s s' NotOf a b q i d t = let k = q i d t in record { differ = k.differ; there = k.there; before = k.before; rest = k.rest }
stay_in s s' (AssignRight n) a b q (i, j) d t = let k = q j d t in record { differ = k.differ; there = k.there; before = k.before; rest = k.rest }
stay_in s s' (ScopeBody x) a b q i (new, d) t =
    let k = q i d (λ l o. t l (inr o)) in
    record {
      differ = ((λ o. elim (k.before x o) [ inl y ↦ new y | inr g ↦ both_ways s x (t x (inl refl)) g ]), k.differ);
      there = λ l o. elim o [ inl e ↦ subst (Present s') e (k.rest x (t x (inl refl)) new) | inr y ↦ k.there l y ];
      before = λ l o. elim o [ inl e ↦ inl (inl e) | inr y ↦ elim (k.before l y) [ inl z ↦ inl (inr z) | inr g ↦ inr g ] ];
      rest = λ l p not. k.rest l p (λ y. not (inr y));
    }
stay_in s s' (ReadIndex x n) a b q i d t = stay_in_index s s' x n a b q (in_index x n a i).1 (d.0 (x, refl)) t
stay_in s s' (WriteIndex x n k) a b q i d t =
    let j = stay_in_index s s' x n a b q (in_index x n a i).1 (d.0 (x, refl)) t in
    record { differ = j.differ; there = j.there; before = j.before; rest = j.rest }
stay_in s s' (ReadAt x) a b q i d t = stay_at_array s s' x a b q (at_array x a i) (d.1 (x, refl)) t
stay_in s s' (WriteAt x k) a b q i d t =
    let j = stay_at_array s s' x a b q (at_array x a i) (d.1 (x, refl)) t in
    record { differ = j.differ; there = j.there; before = j.before; rest = j.rest }

-- to a term without open blocks, where what isn't open stays
ends : (s s' : Store) (a b : Term) → IsShut b → ((l : ℕ) → Present s l → (IsOpen l a → ⊥) → Present s' l) → Follows s s' a b
ends s s' a b shut rest =
    record {
      differ = shut_differ b shut;
      there = λ l o. absurd (shut_not_open b l shut o);
      before = λ l o. absurd (shut_not_open b l shut o);
      rest = rest;
    }

same : (s s' : Store) (a b : Term) → s' ≡ s → IsShut b → Follows s s' a b
same s s' a b e shut = ends s s' a b shut (λ l p not. subst (λ (x : Store). Present x l) (sym e) p)

put_present : (s : Store) (x j k l : ℕ) → Present s l → Present (store_put s x j k) l
put_present s x j k l (e, h) =
    number_cases x l
    (λ is y.
    let here : entry_at (store_put s x j k) x ≡ Some (record e { numbers = set e.numbers j k }) =
    put_same s x j k ∙ ap (numbered j k) (ap (entry_at s) is ∙ h) in
    subst (Present (store_put s x j k)) is (record e { numbers = set e.numbers j k }, here))
    (λ other f. (e, put_other s x j k l other ∙ h))

value_is_shut : (v : Term) → IsValue v → IsShut v
value_is_shut v (inl e) = subst IsShut (sym e) tt
value_is_shut v (inr (k, w, e)) = subst IsShut (sym e) tt

-- a block that opens, with the location of its entry put in
opened_stay : (s s' : Store) (a m q b : Term) (e : Entry) → IsShut m → IsShut q → entry_at s e.place ≡ None
    → b ≡ Scope e.place (instantiate m q) → s' ≡ e ∷ s → Follows s s' a b
opened_stay s s' a m q b e i closed absent et es =
    let x : ℕ = e.place in
    let body = instantiate m q in
    let shut : IsShut body = shut_put m 0 q closed i in
    let opened : Follows s (e ∷ s) a (Scope x body) =
    record {
      differ = ((λ o. shut_not_open body x shut o), shut_differ body shut);
      there = λ l o. elim o [ inl g ↦ (e, first_at e s l g) | inr y ↦ absurd (shut_not_open body l shut y) ];
      before = λ l o. elim o [ inl g ↦ inr (subst (Absent s) g absent) | inr y ↦ absurd (shut_not_open body l shut y) ];
      rest = λ l p not. number_cases x l (λ g y. (e, first_at e s l g)) (λ other f. (p.0, later_at e s l other ∙ p.1));
    } in
    subst (λ (y : Store). Follows s y a b) (sym es) (subst (λ (y : Term). Follows s (e ∷ s) a y) (sym et) opened)

row_stay : (s s' : Store) (a b : Term) → Computes s s' a b → Stay s s' a b
row_stay s s' (Seq m n) b (em, et, es) (i, j) d t = same s s' (Seq m n) b es (subst IsShut (sym et) j)
row_stay s s' (Par m n) b (em, en, et, es) i d t = same s s' (Par m n) b es (subst IsShut (sym et) tt)
row_stay s s' (If m n p) b (inl (em, et), es) (i, j, k) d t = same s s' (If m n p) b es (subst IsShut (sym et) j)
row_stay s s' (If m n p) b (inr (em, et), es) (i, j, k) d t = same s s' (If m n p) b es (subst IsShut (sym et) k)
row_stay s s' (While m n) b (et, es) (i, j) d t = same s s' (While m n) b es (subst IsShut (sym et) (i, (j, (i, j)), tt))
row_stay s s' (Bin op m n) b (k, w, em, et, es) (i, j) d t = same s s' (Bin op m n) b es (subst IsShut (sym et) j)
row_stay s s' (Held k op n) b (j, w, en, et, es) i d t = same s s' (Held k op n) b es (subst IsShut (sym et) tt)
row_stay s s' (Not m) b (k, w, em, et, es) i d t = same s s' (Not m) b es (subst IsShut (sym et) tt)
row_stay s s' (Assign m n) b (k, w, en, et, es) (i, j) d t = same s s' (Assign m n) b es (subst IsShut (sym et) i)
row_stay s s' (Put m k) b (e, j, old, em, here, has, et, es) i d t =
    ends s s' (Put m k) b (subst IsShut (sym et) tt) (λ x p not. subst (λ (y : Store). Present y x) (sym es) (put_present s e.place j k x p))
row_stay s s' (Deref m) b (e, j, old, em, here, has, et, es) i d t = same s s' (Deref m) b es (subst IsShut (sym et) tt)
row_stay s s' (New w m) b (x, absent, et, es) i d t = opened_stay s s' (New w m) m (Loc x) b (variable_at x w 0) i tt absent et es
row_stay s s' (NewArray n w m) b (x, absent, et, es) i d t = opened_stay s s' (NewArray n w m) m (Arr x) b (array_at x w n) i tt absent et es
row_stay s s' (Scope k m) b (is, et, es) i d t =
    ends s s' (Scope k m) b (subst IsShut (sym et) (value_is_shut m is))
    (λ l p not. subst (λ (y : Store). Present y l) (sym es) (p.0, without_other s k l (λ e. not (inl e)) ∙ p.1))
row_stay s s' m b h i d t = absurd h

head_stay : (s : Store) (a b : Term) → OneHead a b → Stay s s a b
head_stay s (App m n) b h i d t = same s s (App m n) b refl (shut_head (App m n) b h i)
head_stay s (Fst m) b h i d t = same s s (Fst m) b refl (shut_head (Fst m) b h i)
head_stay s (Snd m) b h i d t = same s s (Snd m) b refl (shut_head (Snd m) b h i)
head_stay s (Put m k) b (inr (m', e, h)) i d t = same s s (Put m k) b refl (shut_head (Put m k) b (inr (m', e, h)) (shut_head_aside m m' h i))
head_stay s (Deref m) b (inr (m', e, h)) i d t = same s s (Deref m) b refl (shut_head (Deref m) b (inr (m', e, h)) (shut_head_aside m m' h i))
head_stay s a b (inl (inl h)) i d t = absurd h
head_stay s a b (inl (inr h)) i d t = absurd h
head_stay s a b (inr h) i d t = absurd h

shut_answer : (o : Option Type') (n k : ℕ) (t : Term) → IsAnswer o n k t → IsShut t
shut_answer (Some Com) (suc zero) k t h = subst IsShut (sym h.1) tt
shut_answer (Some (Exp w)) (suc zero) k t h = subst IsShut (sym h.1) tt
shut_answer (Some (Var w)) (suc zero) k t h = subst IsShut (sym h.1) tt
shut_answer (Some (Var w)) (suc (suc (suc zero))) k t h = subst IsShut (sym h.1) tt
shut_answer o n k t h = absurd h

label_stay : (i : Imports) (o : Label) (s : Store) (a b : Term) → OneLabel i o a b → Stay s s a b
label_stay i o s (Import x) b (inl (inl (h, e, et))) k d t = same s s (Import x) b refl (subst IsShut (sym et) tt)
label_stay i o s (Import x) b (inl (inr (w, h, e, et))) k d t = same s s (Import x) b refl (subst IsShut (sym et) tt)
label_stay i o s (Deref m) b (inl (inl (x, w, em, h, e, et))) k d t = same s s (Deref m) b refl (subst IsShut (sym et) tt)
label_stay i o s (Put m n) b (inl (inl (x, w, em, h, e, et))) k d t = same s s (Put m n) b refl (subst IsShut (sym et) tt)
label_stay i o s (Wait x n) b (inr (p, e, h)) k d t = same s s (Wait x n) b refl (shut_answer (import_type i x) n o.value b h)
label_stay i o s (Deref m) b (inl (inr (x, p, (c, w, j, array, inl (em, ee, ek, et))))) k d t =
    let shut = unasked_shut m (Import x) j em (import_unasked x) k in same s s (Deref m) b refl (subst IsShut (sym et) (tt, (shut, shut)))
label_stay i o s (Deref m) b (inl (inr (x, p, (c, w, n', array, inr (j, em, ej, ee, et))))) k d t =
    same s s (Deref m) b refl (subst IsShut (sym et) (tt, asked_shut m x n' j o.value c em ej k))
label_stay i o s (Deref m) b (inr (x, p, (c, w, n', j, array, em, inl (ee, ek, et)))) k d t =
    let shut = unasked_shut m (Wait x 1) (Both n' j) em (request_unasked x) k in same s s (Deref m) b refl (subst IsShut (sym et) (tt, (shut.0, shut.0)))
label_stay i o s (Deref m) b (inr (x, p, (c, w, n', j, array, em, inr (ee, ek, et)))) k d t = same s s (Deref m) b refl (subst IsShut (sym et) tt)
label_stay i o s (Put m n) b (inl (inr (x, p, (c, w, j, array, inl (em, ee, ek, et))))) k d t =
    let shut = unasked_shut m (Import x) j em (import_unasked x) k in same s s (Put m n) b refl (subst IsShut (sym et) (tt, (shut, shut)))
label_stay i o s (Put m n) b (inl (inr (x, p, (c, w, n', array, inr (j, em, ej, ee, et))))) k d t =
    same s s (Put m n) b refl (subst IsShut (sym et) (tt, asked_shut m x n' j o.value c em ej k))
label_stay i o s (Put m n) b (inr (x, p, (c, w, n', j, array, em, inl (ee, ek, et)))) k d t =
    let shut = unasked_shut m (Wait x 1) (Both n' j) em (request_unasked x) k in same s s (Put m n) b refl (subst IsShut (sym et) (tt, (shut.0, shut.0)))
label_stay i o s (Put m n) b (inr (x, p, (c, w, n', j, array, em, inr (ee, ek, et)))) k d t = same s s (Put m n) b refl (subst IsShut (sym et) tt)
label_stay i o s a b (inl h) k d t = absurd h
label_stay i o s a b (inr h) k d t = absurd h

-- what runs keep
pub record Standing (m : Term) (s : Store) : Type 0 where
  pub in_place : OpensInPlace m
  pub scoped : InScope [] m
  pub differ : OpensDiffer m
  pub there : (l : ℕ) → IsOpen l m → Present s l

standing_after : (s s' : Store) (m t : Term) → OpensInPlace t → InScope [] t → Stay s s' m t → Standing m s → Standing t s'
standing_after s s' m t place scoped q i =
    let k = q i.in_place i.differ i.there in
    record { in_place = place; scoped = scoped; differ = k.differ; there = k.there }

pub unfoldings_stand : (s : Store) (n : ℕ) (m t : Term) → Unfoldings n m t → Standing m s → Standing t s
unfoldings_stand s zero m t h i = subst (λ (x : Term). Standing x s) h i
unfoldings_stand s (suc n) m t (u, h, hs) i =
    unfoldings_stand s n u t hs
    (standing_after s s m u (unfoldings_keep_place 1 m u (u, h, refl) i.in_place) (unfoldings_scoped 1 m u (u, h, refl) [] i.scoped)
    (reached_lifted OneHead (Stay s s) (head_stay s) (stay_in s s) m u h) i)

pub acts_stand : (i : Imports) (a : Act) (s s' : Store) (m t : Term) → Acts i a s s' m t → Standing m s → Standing t s'
acts_stand i Computing s s' m t h k =
    standing_after s s' m t (acts_keep_place i Computing s s' m t h k.in_place) (acts_scoped i Computing s s' m t h [] k.scoped)
    (reached_lifted (Computes s s') (Stay s s') (row_stay s s') (stay_in s s') m t h) k
acts_stand i (Showing o) s s' m t (h, e) k =
    subst (λ (x : Store). Standing t x) (sym e)
    (standing_after s s m t (acts_keep_place i (Showing o) s s m t (h, refl) k.in_place)
    (acts_scoped i (Showing o) s s m t (h, refl) [] k.scoped)
    (reached_lifted (OneLabel i o) (Stay s s) (label_stay i o s) (stay_in s s) m t h) k)

abbrev Stood : Config → Type 0
Stood Idle = Unit {0}
Stood (Running m s) = Standing m s

begins : (m : Term) → IsShut m → InScope [] m → Standing m []
begins m shut scoped =
    record { in_place = shut_in_place m shut; scoped = scoped; differ = shut_differ m shut; there = λ l o. absurd (shut_not_open m l shut o) }

move_stands : (p : Program) (a : Act) (c d : Config) → IsShut p.body → InScope [] p.body → Move p a c d → Stood c → Stood d
move_stands p a Idle d shut scoped (e, h) k = subst Stood (sym h) (begins p.body shut scoped)
move_stands p a (Running m s) Idle shut scoped h k = tt
move_stands p a (Running m s) (Running t u) shut scoped (n, v, hs, h) k =
    acts_stand p.imports a s u v t (acts_of p.imports a s u v t h) (unfoldings_stand s n m v hs k)

all_stand : (p : Program) (acts : List Act) (c d : Config) → IsShut p.body → InScope [] p.body → Moves p acts c d → Stood c → Stood d
all_stand p [] c d shut scoped h k = subst Stood h k
all_stand p (a ∷ acts) c d shut scoped (b, h, hs) k = all_stand p acts b d shut scoped hs (move_stands p a c b shut scoped h k)

-- each location in scope and each open one has an entry, so each location has one
stands_shut : (s : Store) (ls : List ℕ) → ((l : ℕ) → Has l ls → Present s l) → (m : Term) → InScope ls m → IsShut m → StandsIn s m
stands_shut s ls f Skip h i = tt
stands_shut s ls f (Lit k w) h i = tt
stands_shut s ls f (Bound n) h i = tt
stands_shut s ls f (Import x) h i = tt
stands_shut s ls f (Lam a m) h i = stands_shut s ls f m h i
stands_shut s ls f (App m n) h i = (stands_shut s ls f m h.0 i.0, stands_shut s ls f n h.1 i.1)
stands_shut s ls f (Both m n) h i = (stands_shut s ls f m h.0 i.0, stands_shut s ls f n h.1 i.1)
stands_shut s ls f (Fst m) h i = stands_shut s ls f m h i
stands_shut s ls f (Snd m) h i = stands_shut s ls f m h i
stands_shut s ls f (Seq m n) h i = (stands_shut s ls f m h.0 i.0, stands_shut s ls f n h.1 i.1)
stands_shut s ls f (Par m n) h i = (stands_shut s ls f m h.0 i.0, stands_shut s ls f n h.1 i.1)
stands_shut s ls f (If m n p) h i = (stands_shut s ls f m h.0 i.0, stands_shut s ls f n h.1 i.1, stands_shut s ls f p h.2 i.2)
stands_shut s ls f (While m n) h i = (stands_shut s ls f m h.0 i.0, stands_shut s ls f n h.1 i.1)
stands_shut s ls f (Assign m n) h i = (stands_shut s ls f m h.0 i.0, stands_shut s ls f n h.1 i.1)
stands_shut s ls f (Deref m) h i = stands_shut s ls f m h i
stands_shut s ls f (New w m) h i = stands_shut s ls f m h i
stands_shut s ls f (NewArray n w m) h i = stands_shut s ls f m h i
stands_shut s ls f (Not m) h i = stands_shut s ls f m h i
stands_shut s ls f (Bin op m n) h i = (stands_shut s ls f m h.0 i.0, stands_shut s ls f n h.1 i.1)
stands_shut s ls f (Loc l) h i = f l h
stands_shut s ls f (Arr l) h i = f l h
stands_shut s ls f (Scope l m) h i = absurd i
stands_shut s ls f (Wait x n) h i = tt
stands_shut s ls f (Held k op n) h i = stands_shut s ls f n h i
stands_shut s ls f (Put m k) h i = stands_shut s ls f m h i

besides : (s : Store) (k : ℕ) (ls : List ℕ) → ((l : ℕ) → Has l ls → Present s l) → Present s k → (l : ℕ) → Has l (k ∷ ls) → Present s l
besides s k ls f p l (inl e) = subst (Present s) e p
besides s k ls f p l (inr h) = f l h

mutual
  pub stands : (s : Store) (m : Term) (ls : List ℕ) → ((l : ℕ) → Has l ls → Present s l) → InScope ls m → OpensInPlace m
      → ((l : ℕ) → IsOpen l m → Present s l) → StandsIn s m
  stands s (Seq m n) ls f h i t = (stands s m ls f h.0 i.0 t, stands_shut s ls f n h.1 i.1)
  stands s (Par m n) ls f h i t = (stands s m ls f h.0 i.0 (λ l o. t l (inl o)), stands s n ls f h.1 i.1 (λ l o. t l (inr o)))
  stands s (If m n p) ls f h i t = (stands s m ls f h.0 i.0 t, stands_shut s ls f n h.1 i.1, stands_shut s ls f p h.2 i.2)
  stands s (Bin op m n) ls f h i t = (stands s m ls f h.0 i.0 t, stands_shut s ls f n h.1 i.1)
  stands s (Held k op n) ls f h i t = stands s n ls f h i t
  stands s (Not m) ls f h i t = stands s m ls f h i t
  stands s (Assign m n) ls f h i t = (stands_shut s ls f m h.0 i.0, stands s n ls f h.1 i.1 t)
  stands s (Scope k m) ls f h i t =
      (t k (inl refl), stands s m (k ∷ ls) (besides s k ls f (t k (inl refl))) h i (λ l o. t l (inr o)))
  stands s (Deref m) ls f h i t = stands_access s m ls f h i t
  stands s (Put m k) ls f h i t = stands_access s m ls f h i t
  stands s m ls f h i t = stands_shut s ls f m h i

  stands_access : (s : Store) (m : Term) (ls : List ℕ) → ((l : ℕ) → Has l ls → Present s l) → InScope ls m → IsShut m ⊎ OpensInIndex m
      → ((l : ℕ) → IsOpenInIndex l m → Present s l) → StandsIn s m
  stands_access s m ls f h (inl i) t = stands_shut s ls f m h i
  stands_access s (App g n) ls f h (inr (inr ((x, e), i))) t =
      (subst (StandsIn s) (sym e) (f x (subst (InScope ls) e h.0)), stands s n ls f h.1 i (λ l o. t l (inr ((x, e), o))))
  stands_access s (App g (Both b n)) ls f h (inr (inl ((x, e), shut, i))) t =
      (subst (StandsIn s) (sym e) tt, (stands_shut s ls f b h.1.0 shut, stands s n ls f h.1.1 i (λ l o. t l (inl ((x, e), o)))))
  stands_access s (App g n) ls f h (inr (inl i)) t = absurd i
  stands_access s m ls f h (inr i) t = absurd i

pub runs_stay : RunsStay
runs_stay p acts t s ty typed h =
    let k : Standing t s = all_stand p acts Idle (Running t s) (sources_are_shut p.imports [] p.body ty typed)
    (sources_scoped p.imports [] p.body ty typed) h tt in
    (k.scoped, k.differ, stands s t [] (λ l x. absurd x) k.scoped k.in_place k.there)
