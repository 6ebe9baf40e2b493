-- A term does with a location for an import what it does with the import.
use Rattle.gos_model.specs.Accesses.{IsArrayImport}
use Rattle.std.specs.Prelude.{◌≡◌, ℕ, zero, suc, Bool, true, false, [], ◌∷◌, Option, Some}
use Rattle.std.proofs.Common.{arith, refl, sym, ap, subst, inl, inr, ◌∙◌}
use Rattle.gos_types.specs.Types.{Type', Com, Exp, Var, Fun}
use Rattle.gos_model.specs.Terms.{Name, Term, Import, Seq, Par, If, Assign, Deref, Not, Bin, Loc, Scope, Wait, Held, Put, App, Both, Arr}
use Rattle.gos_model.specs.Typing.{Imports, import_type}
use Rattle.gos_model.specs.Stores.{variable_at, Store, entry_at, store_put}
use Rattle.gos_model.specs.Reach.{Rel}
use Rattle.gos_model.specs.Steps.{Computes, Steps}
use Rattle.gos_model.specs.Labels.{Label, Taken, taken, IsAnswer}
use Rattle.gos_model.specs.Moves.{Act, Computing, Showing, Acts, Unfoldings}
use Rattle.gos_model.proofs.AccessMapLemmas.{GoesInto, puts_mapped, reads_mapped, writes_mapped}
use Rattle.gos_programs.specs.contexts.Contexts.{Context, SeqFirst, ParLeft, ParRight, IfTest, BinLeft, HeldRight, NotOf, AssignRight, ScopeBody, ReadIndex, WriteIndex, plug, ReadAt, WriteAt}
use Rattle.gos_programs.specs.contexts.Renaming.{beside}
use Rattle.gos_programs.proofs.contexts.BackwardLemmas.{OneLabel}
use Rattle.gos_programs.proofs.contexts.ReachedLemmas.{reached_lifted}
use Rattle.std.specs.Str.{bytes_eq}
use Rattle.std.proofs.lemmas.Bool.{ne_eqb}
use Rattle.gos_types.proofs.BytesLemmas.{same_bytes_eq}
use Rattle.gos_model.proofs.MoveLemmas.{unfoldings_then}
use Rattle.gos_programs.specs.contexts.LocalVariable.{wait_for, placed, HasOthers, IsHome, IsElsewhere, OtherMoves, ReadAsked, WriteAnswered, UnfoldingsBefore, ReadAnswered, WriteAsked}
use Rattle.gos_programs.proofs.contexts.PluggedLemmas.{acts_of, acts_to}
use Rattle.gos_programs.proofs.contexts.StoreLemmas.{later_at}
use Rattle.gos_programs.proofs.contexts.PlacedLemmas.{name_cases, reached_placed, unfoldings_placed, placed_row, import_placed}

-- labels elsewhere
answer_placed : (r : ℕ → ℕ) (y : Name) (z : ℕ) (o : Option Type') (n k : ℕ) (t : Term) → IsAnswer o n k t → IsAnswer o n k (placed r y z t)
answer_placed r y z (Some Com) (suc zero) k t h = (h.0, ap (placed r y z) h.1)
answer_placed r y z (Some (Exp w)) (suc zero) k t h = (h.0, ap (placed r y z) h.1)
answer_placed r y z (Some (Var w)) (suc zero) k t h = (h.0, ap (placed r y z) h.1)
answer_placed r y z (Some (Var w)) (suc (suc (suc zero))) k t h = (h.0, ap (placed r y z) h.1)
answer_placed r y z o n k t h = absurd h

waits_placed : (r : ℕ → ℕ) (y : Name) (z : ℕ) (x : Name) (n : ℕ) → bytes_eq x y ≡ false → placed r y z (Wait x n) ≡ Wait x n
waits_placed r y z x n f = ap (λ (b : Bool). wait_for b z x n) f

-- a label of another import
pub other_of : (y x : Name) (o : Label) (e k : ℕ) → (o.port ≡ Taken y → ⊥) → o ≡ taken x e k → bytes_eq x y ≡ false
other_of y x o e k apart is =
    name_cases x y (λ same t. absurd (apart (ap (λ (v : Label). v.port) is ∙ ap Taken same))) (λ f. f)

pub other_port : (y x : Name) (o : Label) → (o.port ≡ Taken y → ⊥) → o.port ≡ Taken x → bytes_eq x y ≡ false
other_port y x o apart p = name_cases x y (λ same t. absurd (apart (p ∙ ap Taken same))) (λ g. g)

goes_placed : (r : ℕ → ℕ) (y : Name) (z : ℕ) (x : Name) (f : Term → Term) → bytes_eq x y ≡ false
    → ((m : Term) → placed r y z (f m) ≡ f (placed r y z m)) → GoesInto (placed r y z) f x
goes_placed r y z x f other under =
    record {
      app = λ h n. refl;
      both = λ m n. refl;
      access = under;
      skip = refl;
      literal = λ k w. refl;
      import = import_placed r y z x other;
      wait = λ s. waits_placed r y z x s other;
    }

label_placed : (r : ℕ → ℕ) (y : Name) (z : ℕ) (i j : Imports) → HasOthers y i j → (o : Label) → (o.port ≡ Taken y → ⊥) → (a b : Term)
    → OneLabel i o a b → OneLabel j o (placed r y z a) (placed r y z b)
label_placed r y z i j others o apart (Import x) b (inl (inl (h, e, et))) =
    let f = other_of y x o 0 0 apart e in
    subst (λ (v : Term). OneLabel j o v (placed r y z b)) (sym (import_placed r y z x f))
    (inl (inl (others x f ∙ h, e, ap (placed r y z) et ∙ waits_placed r y z x 1 f)))
label_placed r y z i j others o apart (Import x) b (inl (inr (w, h, e, et))) =
    let f = other_of y x o 0 0 apart e in
    subst (λ (v : Term). OneLabel j o v (placed r y z b)) (sym (import_placed r y z x f))
    (inl (inr (w, others x f ∙ h, e, ap (placed r y z) et ∙ waits_placed r y z x 1 f)))
label_placed r y z i j others o apart (Deref m) b (inl (inl (x, w, em, h, e, et))) =
    let f = other_of y x o 0 0 apart e in
    inl (inl (x, w, ap (placed r y z) em ∙ import_placed r y z x f, others x f ∙ h, e, ap (placed r y z) et ∙ waits_placed r y z x 1 f))
label_placed r y z i j others o apart (Put m n) b (inl (inl (x, w, em, h, e, et))) =
    let f = other_of y x o 2 n apart e in
    inl (inl (x, w, ap (placed r y z) em ∙ import_placed r y z x f, others x f ∙ h, e, ap (placed r y z) et ∙ waits_placed r y z x 3 f))
label_placed r y z i j others o apart (Wait x n) b (inr (p, e, h)) =
    let f : bytes_eq x y ≡ false = name_cases x y (λ same t. absurd (apart (p ∙ ap Taken same))) (λ g. g) in
    subst (λ (v : Term). OneLabel j o v (placed r y z b)) (sym (waits_placed r y z x n f))
    (inr (
      p,
      e,
      answer_placed r y z (import_type j x) n o.value b
          (subst (λ (v : Option Type'). IsAnswer v n o.value b) (sym (others x f)) h),
    ))
label_placed r y z i j others o apart (Deref m) b (inl (inr (x, p, h))) =
    let f = other_port y x o apart p in
    inl (inr (x, p, puts_mapped i j (placed r y z) (λ (u : Term). Deref u) x (goes_placed r y z x (λ (u : Term). Deref u) f (λ m. refl)) (others x f) 2 0 o.event o.value m b h))
label_placed r y z i j others o apart (Deref m) b (inr (x, p, h)) =
    let f = other_port y x o apart p in
    inr (x, p, reads_mapped i j (placed r y z) (λ (u : Term). Deref u) x (goes_placed r y z x (λ (u : Term). Deref u) f (λ m. refl)) (others x f) o.event o.value m b h)
label_placed r y z i j others o apart (Put m n) b (inl (inr (x, p, h))) =
    let f = other_port y x o apart p in
    inl (inr (x, p, puts_mapped i j (placed r y z) (λ (u : Term). Put u n) x (goes_placed r y z x (λ (u : Term). Put u n) f (λ m. refl)) (others x f) 4 n o.event o.value m b h))
label_placed r y z i j others o apart (Put m n) b (inr (x, p, h)) =
    let f = other_port y x o apart p in
    inr (x, p, writes_mapped i j (placed r y z) (λ (u : Term). Put u n) x (goes_placed r y z x (λ (u : Term). Put u n) f (λ m. refl)) (others x f) o.event o.value m b h)
label_placed r y z i j others o apart a b (inl h) = absurd h
label_placed r y z i j others o apart a b (inr h) = absurd h

other_acts : (r : ℕ → ℕ) (y : Name) (z w k : ℕ) (f : Store) (i j : Imports) → HasOthers y i j → IsHome r f z w k → (a : Act) → IsElsewhere y a
    → (s u : Store) (m t : Term) → Acts i a s u m t → Acts j a (beside r s f) (beside r u f) (placed r y z m) (placed r y z t)
other_acts r y z w k f i j others home Computing apart s u m t h =
    reached_placed r y z (Computes s u) (Computes (beside r s f) (beside r u f)) (placed_row r y z f home.injective home.free s u) m t h
other_acts r y z w k f i j others home (Showing o) apart s u m t (h, e) =
    (reached_placed r y z (OneLabel i o) (OneLabel j o) (label_placed r y z i j others o apart) m t h, ap (λ (x : Store). beside r x f) e)

pub other_moves : OtherMoves
other_moves p q y r z w k f s u m t a typed others home apart (n, v, hs, h) = (
  n,
  placed r y z v,
  unfoldings_placed r y z n m v hs,
  acts_to q.imports a (beside r s f) (beside r u f) (placed r y z v) (placed r y z t)
      (other_acts r y z w k f p.imports q.imports others home a apart s u v t (acts_of p.imports a s u v t h)),
)

-- labels at the import
name_of : (x y : Name) (e d k j : ℕ) → taken y e k ≡ taken x d j → x ≡ y
name_of x y e d k j h = port_name (ap (λ (v : Label). v.port) h)
  where
    port_name : Taken y ≡ Taken x → x ≡ y
    port_name g = cc

event_of : (x y : Name) (e d k j : ℕ) → taken y e k ≡ taken x d j → e ≡ d
event_of x y e d k j h = ap (λ (v : Label). v.event) h

value_of : (x y : Name) (e d k j : ℕ) → taken y e k ≡ taken x d j → k ≡ j
value_of x y e d k j h = ap (λ (v : Label). v.value) h

type_there : (i : Imports) (x y : Name) (t u : Type') → import_type i y ≡ Some t → import_type i x ≡ Some u → x ≡ y → t ≡ u
type_there i x y t u h g e = let same : Some t ≡ Some u = sym h ∙ (sym (ap (import_type i) e) ∙ g) in cc

loc_placed : (r : ℕ → ℕ) (y : Name) (z : ℕ) (x : Name) → x ≡ y → placed r y z (Import x) ≡ Loc z
loc_placed r y z x e = rw (same_bytes_eq x y e) refl

wait_there : (r : ℕ → ℕ) (y : Name) (z : ℕ) (x : Name) (n : ℕ) → x ≡ y → placed r y z (Wait x n) ≡ wait_for true z x n
wait_there r y z x n e = ap (λ (b : Bool). wait_for b z x n) (same_bytes_eq x y e)

-- the answer that a wait at the import waits for
answer_there : (i : Imports) (y : Name) (w : ℕ) → import_type i y ≡ Some (Var w) → (x : Name) (e n k : ℕ) (b : Term) → x ≡ y → e ≡ n
    → IsAnswer (import_type i x) n k b → IsAnswer (Some (Var w)) e k b
answer_there i y w typed x e n k b same event h =
    subst (λ (v : ℕ). IsAnswer (Some (Var w)) v k b) (sym event)
    (subst (λ (v : Option Type'). IsAnswer v n k b) (ap (import_type i) same ∙ typed) h)

port_there : (x y : Name) → Taken y ≡ Taken x → x ≡ y
port_there x y g = cc

-- and so no access is one of it
no_array_there : (i : Imports) (x y : Name) (w c v : ℕ) → import_type i y ≡ Some (Var w) → Taken y ≡ Taken x → IsArrayImport i x c v → ⊥
no_array_there i x y w c v typed port array =
    let bad : Var w ≡ Fun (Exp c) (Var v) = type_there i x y (Var w) (Fun (Exp c) (Var v)) typed array (port_there x y port) in cc bad

asked_row : (r : ℕ → ℕ) (y : Name) (z w : ℕ) (i : Imports) → import_type i y ≡ Some (Var w) → (a b : Term) → OneLabel i (taken y 0 0) a b
    → placed r y z a ≡ placed r y z b
asked_row r y z w i typed (Import x) b (inl (inl (h, e, et))) =
    let bad : Var w ≡ Com = type_there i x y (Var w) Com typed h (name_of x y 0 0 0 0 e) in absurd cc
asked_row r y z w i typed (Import x) b (inl (inr (v, h, e, et))) =
    let bad : Var w ≡ Exp v = type_there i x y (Var w) (Exp v) typed h (name_of x y 0 0 0 0 e) in absurd cc
asked_row r y z w i typed (Deref m) b (inl (inl (x, v, em, h, e, et))) =
    let same = name_of x y 0 0 0 0 e in
    ap (λ (q : Term). Deref q) (ap (placed r y z) em ∙ loc_placed r y z x same) ∙ sym (ap (placed r y z) et ∙ wait_there r y z x 1 same)
asked_row r y z w i typed (Put m n) b (inl (inl (x, v, em, h, e, et))) = let bad : 0 ≡ 2 = event_of x y 0 2 0 n e in absurd (omega (arith, bad))
asked_row r y z w i typed (Wait x n) b (inr (p, e, h)) = absurd (answer_there i y w typed x 0 n 0 b (port_there x y p) e h)
asked_row r y z w i typed (Deref m) b (inl (inr (x, p, (c, v, n', array, rest)))) = absurd (no_array_there i x y w c v typed p array)
asked_row r y z w i typed (Deref m) b (inr (x, p, (c, v, n', q', array, em, rest))) = absurd (no_array_there i x y w c v typed p array)
asked_row r y z w i typed (Put m n) b (inl (inr (x, p, (c, v, n', array, rest)))) = absurd (no_array_there i x y w c v typed p array)
asked_row r y z w i typed (Put m n) b (inr (x, p, (c, v, n', q', array, em, rest))) = absurd (no_array_there i x y w c v typed p array)
asked_row r y z w i typed a b (inl h) = absurd h
asked_row r y z w i typed a b (inr h) = absurd h

answered_row : (r : ℕ → ℕ) (y : Name) (z w : ℕ) (i : Imports) → import_type i y ≡ Some (Var w) → (a b : Term) → OneLabel i (taken y 3 0) a b
    → placed r y z a ≡ placed r y z b
answered_row r y z w i typed (Import x) b (inl (inl (h, e, et))) = let bad : 3 ≡ 0 = event_of x y 3 0 0 0 e in absurd (omega (arith, bad))
answered_row r y z w i typed (Import x) b (inl (inr (v, h, e, et))) = let bad : 3 ≡ 0 = event_of x y 3 0 0 0 e in absurd (omega (arith, bad))
answered_row r y z w i typed (Deref m) b (inl (inl (x, v, em, h, e, et))) = let bad : 3 ≡ 0 = event_of x y 3 0 0 0 e in absurd (omega (arith, bad))
answered_row r y z w i typed (Put m n) b (inl (inl (x, v, em, h, e, et))) = let bad : 3 ≡ 2 = event_of x y 3 2 0 n e in absurd (omega (arith, bad))
answered_row r y z w i typed (Wait x n) b (inr (p, e, h)) =
    let same = port_there x y p in
    let g = answer_there i y w typed x 3 n 0 b same e h in
    wait_there r y z x n same ∙ (ap (λ (v : ℕ). wait_for true z x v) (sym e) ∙ sym (ap (placed r y z) g.1))
answered_row r y z w i typed (Deref m) b (inl (inr (x, p, (c, v, n', array, rest)))) = absurd (no_array_there i x y w c v typed p array)
answered_row r y z w i typed (Deref m) b (inr (x, p, (c, v, n', q', array, em, rest))) = absurd (no_array_there i x y w c v typed p array)
answered_row r y z w i typed (Put m n) b (inl (inr (x, p, (c, v, n', array, rest)))) = absurd (no_array_there i x y w c v typed p array)
answered_row r y z w i typed (Put m n) b (inr (x, p, (c, v, n', q', array, em, rest))) = absurd (no_array_there i x y w c v typed p array)
answered_row r y z w i typed a b (inl h) = absurd h
answered_row r y z w i typed a b (inr h) = absurd h

-- terms that are one in all contexts
abbrev One : (ℕ → ℕ) → Name → ℕ → Rel
One r y z a b = placed r y z a ≡ placed r y z b

one_in : (r : ℕ → ℕ) (y : Name) (z : ℕ) (c : Context) (a b : Term) → One r y z a b → One r y z (plug c a) (plug c b)
one_in r y z (SeqFirst n) a b h = ap (λ (v : Term). Seq v (placed r y z n)) h
one_in r y z (ParLeft n) a b h = ap (λ (v : Term). Par v (placed r y z n)) h
one_in r y z (ParRight n) a b h = ap (λ (v : Term). Par (placed r y z n) v) h
one_in r y z (IfTest n p) a b h = ap (λ (v : Term). If v (placed r y z n) (placed r y z p)) h
one_in r y z (BinLeft op n) a b h = ap (λ (v : Term). Bin op v (placed r y z n)) h
one_in r y z (HeldRight k op) a b h = ap (λ (v : Term). Held k op v) h
one_in r y z NotOf a b h = ap (λ (v : Term). Not v) h
one_in r y z (AssignRight n) a b h = ap (λ (v : Term). Assign (placed r y z n) v) h
one_in r y z (ScopeBody l) a b h = ap (λ (v : Term). Scope (r l) v) h
one_in r y z (ReadIndex x n) a b h = ap (λ (v : Term). Deref (App (placed r y z (Wait x 0)) (Both (placed r y z n) v))) h
one_in r y z (WriteIndex x n k) a b h = ap (λ (v : Term). Put (App (placed r y z (Wait x 0)) (Both (placed r y z n) v)) k) h
one_in r y z (ReadAt l) a b h = ap (λ (v : Term). Deref (App (Arr (r l)) v)) h
one_in r y z (WriteAt l k) a b h = ap (λ (v : Term). Put (App (Arr (r l)) v) k) h

pub read_asked : ReadAsked
read_asked p y r z w s u m t typed (n, v, hs, (h, e)) =
    let one = reached_lifted (OneLabel p.imports (taken y 0 0)) (One r y z) (asked_row r y z w p.imports typed) (one_in r y z) v t h in
    (n, subst (λ (x : Term). Unfoldings n (placed r y z m) x) one (unfoldings_placed r y z n m v hs), e)

pub write_answered : WriteAnswered
write_answered p y r z w s u m t typed (n, v, hs, (h, e)) =
    let one = reached_lifted (OneLabel p.imports (taken y 3 0)) (One r y z) (answered_row r y z w p.imports typed) (one_in r y z) v t h in
    (n, subst (λ (x : Term). Unfoldings n (placed r y z m) x) one (unfoldings_placed r y z n m v hs), e)

pub unfoldings_before : UnfoldingsBefore
unfoldings_before q a n m v s d hs (j, t, gs, h) = let k = unfoldings_then n j m v t hs gs in (k.0, t, k.1, h)

-- the store at the location
at_home : (r : ℕ → ℕ) (f : Store) (z w k : ℕ) → IsHome r f z w k → (s : Store)
    → entry_at (beside r s f) z ≡ Some (variable_at z w k)
at_home r f z w k home [] = home.entry
at_home r f z w k home (e ∷ s) =
    later_at (record e { place = r e.place }) (beside r s f) z (λ h. home.apart e.place (sym h)) ∙ at_home r f z w k home s

put_home : (r : ℕ → ℕ) (f : Store) (z j k : ℕ) → ((l : ℕ) → z ≡ r l → ⊥) → (s : Store)
    → beside r s (store_put f z j k) ≡ store_put (beside r s f) z j k
put_home r f z j k apart [] = refl
put_home r f z j k apart (e ∷ s) =
    let g = ne_eqb (r e.place) z (λ h. apart e.place (sym h)) in
    rw g (λ i. record e { place = r e.place } ∷ put_home r f z j k apart s i)

read_row : (r : ℕ → ℕ) (y : Name) (z w k : ℕ) (i : Imports) (f : Store) → import_type i y ≡ Some (Var w) → IsHome r f z w k → (s : Store) (a b : Term)
    → OneLabel i (taken y 1 k) a b → Computes (beside r s f) (beside r s f) (placed r y z a) (placed r y z b)
read_row r y z w k i f typed home s (Import x) b (inl (inl (h, e, et))) = let bad : 1 ≡ 0 = event_of x y 1 0 k 0 e in absurd (omega (arith, bad))
read_row r y z w k i f typed home s (Import x) b (inl (inr (v, h, e, et))) = let bad : 1 ≡ 0 = event_of x y 1 0 k 0 e in absurd (omega (arith, bad))
read_row r y z w k i f typed home s (Deref m) b (inl (inl (x, v, em, h, e, et))) = let bad : 1 ≡ 0 = event_of x y 1 0 k 0 e in absurd (omega (arith, bad))
read_row r y z w k i f typed home s (Put m n) b (inl (inl (x, v, em, h, e, et))) = let bad : 1 ≡ 2 = event_of x y 1 2 k n e in absurd (omega (arith, bad))
read_row r y z w k i f typed home s (Wait x n) b (inr (p, e, h)) =
    let same = port_there x y p in
    let g = answer_there i y w typed x 1 n k b same e h in
    let is : placed r y z (Wait x n) ≡ Deref (Loc z) = wait_there r y z x n same ∙ ap (λ (v : ℕ). wait_for true z x v) (sym e) in
    subst (λ (v : Term). Computes (beside r s f) (beside r s f) v (placed r y z b)) (sym is)
    (variable_at z w k, 0, k, inl (refl, refl), at_home r f z w k home s, refl, ap (placed r y z) g.1, refl)
read_row r y z w k i f typed home s (Deref m) b (inl (inr (x, p, (c, v, n', array, rest)))) = absurd (no_array_there i x y w c v typed p array)
read_row r y z w k i f typed home s (Deref m) b (inr (x, p, (c, v, n', q', array, em, rest))) = absurd (no_array_there i x y w c v typed p array)
read_row r y z w k i f typed home s (Put m n) b (inl (inr (x, p, (c, v, n', array, rest)))) = absurd (no_array_there i x y w c v typed p array)
read_row r y z w k i f typed home s (Put m n) b (inr (x, p, (c, v, n', q', array, em, rest))) = absurd (no_array_there i x y w c v typed p array)
read_row r y z w k i f typed home s a b (inl h) = absurd h
read_row r y z w k i f typed home s a b (inr h) = absurd h

write_row : (r : ℕ → ℕ) (y : Name) (z w k j : ℕ) (i : Imports) (f : Store) → import_type i y ≡ Some (Var w) → IsHome r f z w k
    → (s : Store) (a b : Term) → OneLabel i (taken y 2 j) a b
    → Computes (beside r s f) (beside r s (store_put f z 0 j)) (placed r y z a) (placed r y z b)
write_row r y z w k j i f typed home s (Import x) b (inl (inl (h, e, et))) = let bad : 2 ≡ 0 = event_of x y 2 0 j 0 e in absurd (omega (arith, bad))
write_row r y z w k j i f typed home s (Import x) b (inl (inr (v, h, e, et))) = let bad : 2 ≡ 0 = event_of x y 2 0 j 0 e in absurd (omega (arith, bad))
write_row r y z w k j i f typed home s (Deref m) b (inl (inl (x, v, em, h, e, et))) = let bad : 2 ≡ 0 = event_of x y 2 0 j 0 e in absurd (omega (arith, bad))
write_row r y z w k j i f typed home s (Put m n) b (inl (inl (x, v, em, h, e, et))) =
    let same = name_of x y 2 2 j n e in (
      variable_at z w k,
      0,
      k,
      inl (ap (placed r y z) em ∙ loc_placed r y z x same, refl),
      at_home r f z w k home s,
      refl,
      ap (placed r y z) et ∙ wait_there r y z x 3 same,
      put_home r f z 0 j home.apart s ∙ ap (store_put (beside r s f) z 0) (value_of x y 2 2 j n e),
    )
write_row r y z w k j i f typed home s (Wait x n) b (inr (p, e, h)) = absurd (answer_there i y w typed x 2 n j b (port_there x y p) e h)
write_row r y z w k j i f typed home s (Deref m) b (inl (inr (x, p, (c, v, n', array, rest)))) = absurd (no_array_there i x y w c v typed p array)
write_row r y z w k j i f typed home s (Deref m) b (inr (x, p, (c, v, n', q', array, em, rest))) = absurd (no_array_there i x y w c v typed p array)
write_row r y z w k j i f typed home s (Put m n) b (inl (inr (x, p, (c, v, n', array, rest)))) = absurd (no_array_there i x y w c v typed p array)
write_row r y z w k j i f typed home s (Put m n) b (inr (x, p, (c, v, n', q', array, em, rest))) = absurd (no_array_there i x y w c v typed p array)
write_row r y z w k j i f typed home s a b (inl h) = absurd h
write_row r y z w k j i f typed home s a b (inr h) = absurd h

pub read_answered : ReadAnswered
read_answered p q y r z w k f s u m t typed home (n, v, hs, (h, e)) =
    let step : Steps (beside r s f) (beside r s f) (placed r y z v) (placed r y z t) =
    reached_placed r y z (OneLabel p.imports (taken y 1 k)) (Computes (beside r s f) (beside r s f))
    (read_row r y z w k p.imports f typed home s) v t h in (
      n,
      placed r y z v,
      unfoldings_placed r y z n m v hs,
      subst (λ (x : Store). Steps (beside r s f) (beside r x f) (placed r y z v) (placed r y z t)) (sym e) step,
    )

pub write_asked : WriteAsked
write_asked p q y r z w k j f s u m t typed home (n, v, hs, (h, e)) =
    let step : Steps (beside r s f) (beside r s (store_put f z 0 j)) (placed r y z v) (placed r y z t) =
    reached_placed r y z (OneLabel p.imports (taken y 2 j)) (Computes (beside r s f) (beside r s (store_put f z 0 j)))
    (write_row r y z w k j p.imports f typed home s) v t h in (
      n,
      placed r y z v,
      unfoldings_placed r y z n m v hs,
      subst (λ (x : Store). Steps (beside r s f) (beside r x (store_put f z 0 j)) (placed r y z v) (placed r y z t)) (sym e) step,
    )
