-- A place that is needed stays so, whatever happens elsewhere, and the label comes from no other place.
use Rattle.std.specs.Prelude.{◌≡◌, ◌⊎◌, ℕ, zero, suc, List, [], ◌∷◌, ◌++◌, Contains}
use Rattle.std.proofs.Common.{refl, sym, ap, subst, inl, inr}
use Rattle.gos_model.specs.Terms.{Name, Term, Import, Par, Deref, Wait, Put}
use Rattle.gos_model.specs.Typing.{Imports, Thing, Named, things}
use Rattle.gos_model.specs.Stores.{Store}
use Rattle.gos_model.specs.Reach.{Rewrites}
use Rattle.gos_model.specs.Labels.{Port, Given, Taken, Label}
use Rattle.gos_model.specs.Moves.{Computing as Silent, Showing as Shows}
use Rattle.gos_programs.specs.contexts.Contexts.{Context, SeqFirst, ParLeft, ParRight, IfTest, BinLeft, HeldRight, NotOf, AssignRight, ScopeBody, ReadIndex, WriteIndex, plug, plug_all, ReadAt, WriteAt}
use Rattle.gos_programs.proofs.contexts.BackwardLemmas.{OneLabel}
use Rattle.gos_swaps.specs.doings.Doings.{Doing, Unfolding, Computing, Showing, DoesAt}
use Rattle.gos_swaps.specs.doings.Sides.{way, path_through, OnSides}
use Rattle.gos_swaps.specs.proper.Proper.{IsClosed, IsNew}
use Rattle.gos_swaps.specs.needed.Needed.{HasPort, IsNeeded, IsOut}
use Rattle.gos_swaps.proofs.doings.HeadLemmas.{head_of}
use Rattle.gos_swaps.proofs.doings.PlaceLemmas.{acts_have_paths, reached_lifted_at}
use Rattle.gos_swaps.proofs.doings.SideLemmas.{IsPort, IsShown, shown_read, shown_write}
use Rattle.gos_swaps.proofs.proper.ThingLemmas.{there, left_part, right_part, within}
use Rattle.gos_swaps.proofs.proper.ShrinkLemmas.{unfoldings_shrink, acts_shrink}

-- the port of a label stands in the term
port_within : (o : Port) (c : Context) (m : Term) → HasPort o m → HasPort o (plug c m)
port_within Given c m h = h
port_within (Taken x) c m h = within c m (Named x) h

named_in : (o : Label) (x : Name) (m : Term) → o.port ≡ Taken x → Contains (things 0 m) (Named x) → HasPort o.port m
named_in o x m e h = subst (λ (z : Port). HasPort z m) (sym e) h

import_in : (x : Name) (m : Term) → m ≡ Import x → Contains (things 0 m) (Named x)
import_in x m e = subst (λ (z : Term). Contains (things 0 z) (Named x)) (sym e) (there (Named x))

has_port : (o : Label) (m n : Term) → things 0 n ≡ things 0 m → HasPort o.port m → HasPort o.port n
has_port o m n e h = of_port o.port h
  where
    of_port : (p : Port) → HasPort p m → HasPort p n
    of_port Given k = k
    of_port (Taken x) k = subst (λ (z : List Thing). Contains z (Named x)) (sym e) k

port_in : (x : Name) (h : Term) → IsPort x h → Contains (things 0 h) (Named x)
port_in x h (inl e) = import_in x h e
port_in x h (inr (s, e)) = subst (λ (z : Term). Contains (things 0 z) (Named x)) (sym e) (there (Named x))

shown_named : (i : Imports) (o : Label) (m : Term) → IsShown i o m → HasPort o.port m
shown_named i o m (x, port, inl em) = named_in o x m port (import_in x m em)
shown_named i o m (x, port, inr ((h, n, em, is), array)) =
    named_in o x m port (subst (λ (z : Term). Contains (things 0 z) (Named x)) (sym em) (left_part (things 0 h) (things 0 n) (Named x) (port_in x h is)))

label_port : (i : Imports) (o : Label) (a b : Term) → OneLabel i o a b → HasPort o.port a
label_port i o (Import x) b (inl (inl (h, e, et))) = named_in o x (Import x) (ap (λ (z : Label). z.port) e) (there (Named x))
label_port i o (Import x) b (inl (inr (w, h, e, et))) = named_in o x (Import x) (ap (λ (z : Label). z.port) e) (there (Named x))
label_port i o (Deref m) b h = has_port o m (Deref m) refl (shown_named i o m (shown_read i o m b h))
label_port i o (Put m k) b h = has_port o m (Put m k) refl (shown_named i o m (shown_write i o m b k h))
label_port i o (Wait x n) b (inr (p, e, h)) = named_in o x (Wait x n) p (there (Named x))
label_port i o a b (inl h) = absurd h
label_port i o a b (inr h) = absurd h

pub shown_port : (i : Imports) (p : List ℕ) (o : Label) (s u : Store) (m t : Term) → DoesAt i p (Showing o) s u m t → HasPort o.port m
shown_port i p o s u m t (h, e) =
    reached_lifted_at (OneLabel i o) (λ (path : List ℕ) (a b : Term). HasPort o.port a) (label_port i o)
    (λ c path a b k. port_within o.port c a k) p m t h

-- no port comes
pub no_new_port : (i : Imports) (p : List ℕ) (a : Doing) (s u : Store) (m t : Term) (o : Port) → IsClosed m → DoesAt i p a s u m t → HasPort o t → HasPort o m
no_new_port i p a s u m t Given closed h k = k
no_new_port i p Unfolding s u m t (Taken x) closed (h, e) k = unfoldings_shrink m t (Named x) closed (head_of Rewrites p m t h) k
no_new_port i p Computing s u m t (Taken x) closed h k = named (acts_shrink i Silent s u m t (Named x) closed ((acts_have_paths i Silent s u m t).1 (p, h)) k)
  where
    named : Contains (things 0 m) (Named x) ⊎ IsNew s (Named x) → Contains (things 0 m) (Named x)
    named (inl g) = g
    named (inr g) = absurd g
no_new_port i p (Showing o) s u m t (Taken x) closed h k =
    named (acts_shrink i (Shows o) s u m t (Named x) closed ((acts_have_paths i (Shows o) s u m t).1 (p, h)) k)
  where
    named : Contains (things 0 m) (Named x) ⊎ IsNew s (Named x) → Contains (things 0 m) (Named x)
    named (inl g) = g
    named (inr g) = absurd g

-- the place in a context is needed in the whole where it is needed in its term, and no side of the context has the port
pub needed_in : (o : Port) (c : Context) (path : List ℕ) (m : Term) → IsOut o c → IsNeeded o path m → IsNeeded o (way c ++ path) (plug c m)
needed_in o (SeqFirst n) path m out h = h
needed_in o (ParLeft n) path m out h = (out, h)
needed_in o (ParRight n) path m out h = (out, h)
needed_in o (IfTest n p) path m out h = h
needed_in o (BinLeft op n) path m out h = h
needed_in o (HeldRight k op) path m out h = h
needed_in o NotOf path m out h = h
needed_in o (AssignRight n) path m out h = h
needed_in o (ScopeBody l) path m out h = h
needed_in o (ReadIndex x n) path m out h = h
needed_in o (WriteIndex x n k) path m out h = h
needed_in o (ReadAt l) path m out h = h
needed_in o (WriteAt l k) path m out h = h

pub needed_of : (o : Port) (c : Context) (path : List ℕ) (m : Term) → IsNeeded o (way c ++ path) (plug c m) → IsOut o c × IsNeeded o path m
needed_of o (SeqFirst n) path m h = (tt, h)
needed_of o (ParLeft n) path m h = h
needed_of o (ParRight n) path m h = h
needed_of o (IfTest n p) path m h = (tt, h)
needed_of o (BinLeft op n) path m h = (tt, h)
needed_of o (HeldRight k op) path m h = (tt, h)
needed_of o NotOf path m h = (tt, h)
needed_of o (AssignRight n) path m h = (tt, h)
needed_of o (ScopeBody l) path m h = (tt, h)
needed_of o (ReadIndex x n) path m h = (tt, h)
needed_of o (WriteIndex x n k) path m h = (tt, h)
needed_of o (ReadAt l) path m h = (tt, h)
needed_of o (WriteAt l k) path m h = (tt, h)

-- where one term was needed in contexts, another one is where it is needed itself
needed_there :
    (o : Port) (cs : List Context) (path more : List ℕ) (m n : Term) → IsNeeded o (path_through cs path) (plug_all cs m)
    → (IsNeeded o path m → IsNeeded o more n) → IsNeeded o (path_through cs more) (plug_all cs n)
needed_there o [] path more m n h f = f h
needed_there o (c ∷ cs) path more m n h f =
    let k = needed_of o c (path_through cs path) (plug_all cs m) h in
    needed_in o c (path_through cs more) (plug_all cs n) k.0 (needed_there o cs path more m n k.1 f)

needed_inside : (o : Port) (cs : List Context) (path : List ℕ) (m : Term) → IsNeeded o (path_through cs path) (plug_all cs m) → IsNeeded o path m
needed_inside o [] path m h = h
needed_inside o (c ∷ cs) path m h = needed_inside o cs path m (needed_of o c (path_through cs path) (plug_all cs m) h).1

closed_inside : (cs : List Context) (m : Term) → IsClosed (plug_all cs m) → IsClosed m
closed_inside [] m h = h
closed_inside (c ∷ cs) m h = closed_inside cs m (λ n k. h n (within c (plug_all cs m) _ k))

-- Two doings on the two sides of a `||`, of which one place is needed: the other side hasn't the port, and the place stays needed.
module _ (i : Imports) (p q : List ℕ) (a b : Doing) (s u v : Store) (m t r : Term) (o : Port) (closed : IsClosed m) where
  left_needed : (k : OnSides i p q a b s u v m t r) → IsNeeded o p m → (HasPort o k.right → ⊥) × IsNeeded o p r
  left_needed k h =
      let whole : IsNeeded o (path_through k.around (zero ∷ k.left_path)) (plug_all k.around (Par k.left k.right)) =
      subst (λ (z : List ℕ). IsNeeded o z (plug_all k.around (Par k.left k.right))) k.first_path (subst (IsNeeded o p) k.whole h) in
      let inner = needed_inside o k.around (zero ∷ k.left_path) (Par k.left k.right) whole in
      let sides : IsClosed (Par k.left k.right) = closed_inside k.around (Par k.left k.right) (subst IsClosed k.whole closed) in
      let right : IsClosed k.right = λ n g. sides n (right_part (things 0 k.left) (things 0 k.right) _ g) in
      let after = needed_there o k.around (zero ∷ k.left_path) (zero ∷ k.left_path) (Par k.left k.right) (Par k.left k.new_right) whole
      (λ g. ((λ x. g.0 (no_new_port i k.right_path b s v k.right k.new_right o right k.does_right x)), g.1)) in (
        inner.0,
        subst (λ (z : List ℕ). IsNeeded o z r) (sym k.first_path)
            (subst (IsNeeded o (path_through k.around (zero ∷ k.left_path))) (sym k.after_second) after),
      )

  right_needed : (k : OnSides i q p b a s v u m r t) → IsNeeded o p m → (HasPort o k.left → ⊥) × IsNeeded o p r
  right_needed k h =
      let whole : IsNeeded o (path_through k.around (suc zero ∷ k.right_path)) (plug_all k.around (Par k.left k.right)) =
      subst (λ (z : List ℕ). IsNeeded o z (plug_all k.around (Par k.left k.right))) k.second_path (subst (IsNeeded o p) k.whole h) in
      let inner = needed_inside o k.around (suc zero ∷ k.right_path) (Par k.left k.right) whole in
      let sides : IsClosed (Par k.left k.right) = closed_inside k.around (Par k.left k.right) (subst IsClosed k.whole closed) in
      let left : IsClosed k.left = λ n g. sides n (left_part (things 0 k.left) (things 0 k.right) _ g) in
      let after = needed_there o k.around (suc zero ∷ k.right_path) (suc zero ∷ k.right_path) (Par k.left k.right) (Par k.new_left k.right) whole
      (λ g. ((λ x. g.0 (no_new_port i k.left_path b s v k.left k.new_left o left k.does_left x)), g.1)) in (
        inner.0,
        subst (λ (z : List ℕ). IsNeeded o z r) (sym k.second_path)
            (subst (IsNeeded o (path_through k.around (suc zero ∷ k.right_path))) (sym k.after_first) after),
      )

  -- so it stays needed
  pub stays_needed : OnSides i p q a b s u v m t r ⊎ OnSides i q p b a s v u m r t → IsNeeded o p m → IsNeeded o p r
  stays_needed (inl k) h = (left_needed k h).1
  stays_needed (inr k) h = (right_needed k h).1

-- and the label isn't shown elsewhere
pub not_elsewhere :
    (i : Imports) (p q : List ℕ) (a : Doing) (o : Label) (s u v : Store) (m t r : Term) → IsClosed m
    → OnSides i p q a (Showing o) s u v m t r ⊎ OnSides i q p (Showing o) a s v u m r t → IsNeeded o.port p m → ⊥
not_elsewhere i p q a o s u v m t r closed (inl k) h =
    (left_needed i p q a (Showing o) s u v m t r o.port closed k h).0 (shown_port i k.right_path o s v k.right k.new_right k.does_right)
not_elsewhere i p q a o s u v m t r closed (inr k) h =
    (right_needed i p q a (Showing o) s u v m t r o.port closed k h).0 (shown_port i k.left_path o s v k.left k.new_left k.does_left)
