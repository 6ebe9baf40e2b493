-- What stands at a stage: values, heads, and what waits in the index of an access.
use Rattle.std.specs.Prelude.{◌≡◌, ◌⊎◌, ℕ, true, false, Option, Some, None}
use Rattle.std.specs.Str.{bytes_eq}
use Rattle.std.proofs.Common.{arith, refl, sym, ap, subst, inl, inr, ◌∙◌}
use Rattle.gos_types.proofs.BytesLemmas.{bytes_eq_same, same_bytes_eq}
use Rattle.gos_model.specs.Terms.{Name, Term, Lit, Lam, App, Both, Fst, Snd, Seq, Par, If, Assign, Deref, Not, Bin, Arr, Scope, Wait, Held, Put}
use Rattle.gos_model.specs.Reach.{Rel, Rewrites, Under}
use Rattle.gos_model.specs.Steps.{IsValue, Locates}
use Rattle.gos_model.proofs.HeadLemmas.{lower_no_index}
use Rattle.gos_programs.specs.contexts.Contexts.{Context, SeqFirst, ParLeft, ParRight, IfTest, BinLeft, HeldRight, NotOf, AssignRight, ScopeBody, ReadIndex, WriteIndex, ReadAt, WriteAt, plug}
use Rattle.gos_programs.proofs.contexts.BackwardLemmas.{OneHead}
use Rattle.gos_programs.proofs.contexts.ReachedLemmas.{IsLifted}
use Rattle.gos_programs.specs.variables.Waits.{HasNoWaitAt}
use Rattle.gos_programs.specs.arrays.Stages.{Stage, Clear, Begun, Asked, Told, IsWaiting, StandsAt, StandsInAccess, StandsInPort}

-- both ways to say that nothing waits
pub none_stands : (y : Name) (m : Term) → HasNoWaitAt y m → StandsAt y Clear m
none_stands y (Seq m n) h = (none_stands y m h.0, h.1)
none_stands y (Par m n) h = inl (none_stands y m h.0, none_stands y n h.1)
none_stands y (If m n p) h = (none_stands y m h.0, h.1, h.2)
none_stands y (Assign m n) h = (h.0, none_stands y n h.1)
none_stands y (Not m) h = none_stands y m h
none_stands y (Bin op m n) h = (none_stands y m h.0, h.1)
none_stands y (Scope l m) h = none_stands y m h
none_stands y (Held k op n) h = none_stands y n h
none_stands y (Deref m) h = inl (refl, h)
none_stands y (Put m k) h = inl (refl, h)
none_stands y m h = (refl, h)

no_waiting : (y : Name) (st : Stage) (o : Option ℕ) (s : ℕ) (n m : Term) → st ≡ Clear → IsWaiting y st o s n m → ⊥
no_waiting y st o s n m e h = subst (λ (x : Stage). IsWaiting y x o s n m) e h

mutual
  clear_so : (y : Name) (st : Stage) (m : Term) → st ≡ Clear → StandsAt y st m → HasNoWaitAt y m
  clear_so y st (Seq a b) e h = (clear_so y st a e h.0, h.1)
  clear_so y st (Par a b) e (inl h) = (clear_so y st a e h.0, clear_so y Clear b refl h.1)
  clear_so y st (Par a b) e (inr h) = (clear_so y Clear a refl h.0, clear_so y st b e h.1)
  clear_so y st (If a b c) e h = (clear_so y st a e h.0, h.1, h.2)
  clear_so y st (Assign a b) e h = (h.0, clear_so y st b e h.1)
  clear_so y st (Not a) e h = clear_so y st a e h
  clear_so y st (Bin op a b) e h = (clear_so y st a e h.0, h.1)
  clear_so y st (Scope l a) e h = clear_so y st a e h
  clear_so y st (Held k op b) e h = clear_so y st b e h
  clear_so y st (Deref m) e (inl h) = h.1
  clear_so y st (Deref m) e (inr h) = access_clear y st None m e h
  clear_so y st (Put m k) e (inl h) = h.1
  clear_so y st (Put m k) e (inr h) = access_clear y st (Some k) m e h
  clear_so y st m e h = h.1

  access_clear : (y : Name) (st : Stage) (o : Option ℕ) (m : Term) → st ≡ Clear → StandsInAccess y st o m → HasNoWaitAt y m
  access_clear y st o (App h n) e (inr ((l, is), w)) = (subst (HasNoWaitAt y) (sym is) tt, clear_so y st n e w)
  access_clear y st o (App h (Both n m)) e (inl (inl (s, is, w, f))) = absurd (no_waiting y st o s n m e w)
  access_clear y st o (App h (Both n m)) e (inl (inr (head, f, g, w))) = (f, (g, clear_so y st m e w))
  access_clear y st o (App h n) e (inl w) = absurd w
  access_clear y st o m e h = absurd h

pub clear_none : (y : Name) (m : Term) → StandsAt y Clear m → HasNoWaitAt y m
clear_none y m h = clear_so y Clear m refl h

pub as_clear : (y : Name) (st : Stage) (m : Term) → st ≡ Clear → HasNoWaitAt y m → StandsAt y st m
as_clear y st m e h = subst (λ (x : Stage). StandsAt y x m) (sym e) (none_stands y m h)

-- a value waits for nothing
pub value_stands : (y : Name) (st : Stage) (v : Term) → IsValue v → StandsAt y st v → st ≡ Clear
value_stands y st v (inl e) h = (subst (StandsAt y st) e h).0
value_stands y st v (inr (k, w, e)) h = (subst (StandsAt y st) e h).0

-- which access it is that waits for event 0, or for event 1
pub zero_asked : (y : Name) (st : Stage) (o : Option ℕ) (s : ℕ) (n m : Term) → s ≡ 0 → IsWaiting y st o s n m → (st ≡ Asked o) × HasNoWaitAt y m
zero_asked y Clear o s n m z h = absurd h
zero_asked y (Begun p) o s n m z (e, one, same) = absurd (omega (arith, z, one))
zero_asked y (Asked p) o s n m z (e, zero', f) = (ap (λ (x : Option ℕ). Asked x) e, f)
zero_asked y (Told p k) o s n m z (e, one, i, lit) = absurd (omega (arith, z, one))

-- What stands in the index of an access that was asked for it: of y itself, or of another port.
abbrev pub InIndexOf : Name → Stage → Option ℕ → Name → (c a : Term) → Type 0
InIndexOf y st o x c a =
    ((bytes_eq x y ≡ true) × (st ≡ Asked o) × HasNoWaitAt y c × HasNoWaitAt y a)
    ⊎ ((bytes_eq x y ≡ false) × HasNoWaitAt y c × StandsAt y st a)

abbrev pub InAccess : Name → Stage → Option ℕ → Term → Type 0
InAccess y st o m = ((st ≡ Clear) × HasNoWaitAt y m) ⊎ StandsInAccess y st o m

pub wait_is : (x y : Name) (s t : ℕ) → Wait x s ≡ Wait y t → (x ≡ y) × (s ≡ t)
wait_is x y s t e = (cc e, cc e)

pub in_index : (y : Name) (st : Stage) (o : Option ℕ) (x : Name) (c a : Term) → InAccess y st o (App (Wait x 0) (Both c a)) → InIndexOf y st o x c a
in_index y st o x c a (inl (e, (f, (g, h)))) = inr (f, g, as_clear y st a e h)
in_index y st o x c a (inr (inl (inl (s, is, w, f)))) =
    let same = wait_is x y 0 s is in
    let here = zero_asked y st o s c a (sym same.1) w in
    inl (same_bytes_eq x y same.0, here.0, f, here.1)
in_index y st o x c a (inr (inl (inr (head, f, g, h)))) = inr (f, g, h)
in_index y st o x c a (inr (inr ((l, e), h))) = absurd (cc e)

pub of_index : (y : Name) (st : Stage) (o : Option ℕ) (x : Name) (c a : Term) → InIndexOf y st o x c a → InAccess y st o (App (Wait x 0) (Both c a))
of_index y st o x c a (inl (same, asked, f, g)) =
    inr (inl (inl (
      0,
      ap (λ (n : Name). Wait n 0) (bytes_eq_same x y same),
      subst (λ (v : Stage). IsWaiting y v o 0 c a) (sym asked) (refl, refl, g),
      f,
    )))
of_index y st o x c a (inr (other, f, h)) = inr (inl (inr ((x, refl), other, f, h)))

-- in that of an array of the program's own
no_port : (y : Name) (st : Stage) (o : Option ℕ) (l : ℕ) (a : Term) → StandsInPort y st o (Arr l) a → ⊥
no_port y st o l (Both c a) (inl (s, e, w, f)) = cc e
no_port y st o l (Both c a) (inr ((x, e), f, g, h)) = cc e
no_port y st o l a h = absurd h

pub at_array : (y : Name) (st : Stage) (o : Option ℕ) (l : ℕ) (a : Term) → InAccess y st o (App (Arr l) a) → StandsAt y st a
at_array y st o l a (inl (e, (f, h))) = as_clear y st a e h
at_array y st o l a (inr (inl h)) = absurd (no_port y st o l a h)
at_array y st o l a (inr (inr (place, h))) = h

-- nothing waits in what stands for a number
pub located_stands : (y : Name) (st : Stage) (o : Option ℕ) (m : Term) (l i : ℕ) → Locates m l i → InAccess y st o m → st ≡ Clear
located_stands y st o m l i is (inl (z, h)) = z
located_stands y st o m l i (inl (e, first)) (inr h) = absurd (subst (StandsInAccess y st o) e h)
located_stands y st o m l i (inr (w, e)) (inr h) = (at_array y st o l (Lit i w) (inr (subst (StandsInAccess y st o) e h))).0

-- heads
abbrev Anything : Rel
Anything a b = Unit {0}

-- an access that waits is no head; what is below its head isn't either
no_head_below : (y : Name) (st : Stage) (o : Option ℕ) (m m' : Term) → Rewrites m m' ⊎ Under Rewrites m m' → StandsInAccess y st o m → ⊥
no_head_below y st o (App h n) m' lower (inr (place, w)) = lower_no_index Anything (App h n) m' (App h n) lower (inr (place, n, refl, inl tt))
no_head_below y st o (App h (Both n m)) m' lower (inl (inr (head, f, g, w))) =
    lower_no_index Anything (App h (Both n m)) m' (App h (Both n m)) lower (inl (head, m, refl, inl tt))
no_head_below y st o (App h (Both n m)) m' (inl (a, b, lam, to)) (inl (inl (s, is, w, f))) = let bad : Wait y s ≡ Lam a b = sym is ∙ lam in cc bad
no_head_below y st o (App h (Both n m)) m' (inr (h', to, lower)) (inl (inl (s, is, w, f))) = none (subst (λ (x : Term). Rewrites x h' ⊎ Under Rewrites x h') is lower)
  where
    none : Rewrites (Wait y s) h' ⊎ Under Rewrites (Wait y s) h' → ⊥
    none (inl g) = g
    none (inr g) = g
no_head_below y st o (App h n) m' lower (inl w) = absurd w
no_head_below y st o m m' lower w = absurd w

pub head_stands : (y : Name) (st : Stage) (a b : Term) → OneHead a b → StandsAt y st a → (st ≡ Clear) × HasNoWaitAt y a
head_stands y st (App m n) b h w = w
head_stands y st (Fst m) b h w = w
head_stands y st (Snd m) b h w = w
head_stands y st (Put m k) b h (inl w) = w
head_stands y st (Put m k) b (inr (m', e, h)) (inr w) = absurd (no_head_below y st (Some k) m m' h w)
head_stands y st (Put m k) b (inl (inl h)) (inr w) = absurd h
head_stands y st (Put m k) b (inl (inr h)) (inr w) = absurd h
head_stands y st (Deref m) b h (inl w) = w
head_stands y st (Deref m) b (inr (m', e, h)) (inr w) = absurd (no_head_below y st None m m' h w)
head_stands y st (Deref m) b (inl (inl h)) (inr w) = absurd h
head_stands y st (Deref m) b (inl (inr h)) (inr w) = absurd h
head_stands y st a b (inl (inl h)) w = absurd h
head_stands y st a b (inl (inr h)) w = absurd h
head_stands y st a b (inr h) w = absurd h

-- A change that holds in all contexts, and keeps the stage, whatever it is.
abbrev pub Keeps : Name → Rel → Rel
Keeps y C a b = (st : Stage) → StandsAt y st a → C a b × StandsAt y st b

module _ (y : Name) (C : Rel) (lifted : IsLifted C) where
  keeps_access : (o : Option ℕ) (x : Name) (n a b : Term) → Keeps y C a b → (st : Stage) → InIndexOf y st o x n a → C a b × InIndexOf y st o x n b
  keeps_access o x n a b q st (inl (same, asked, f, g)) =
      let k = q Clear (none_stands y a g) in (k.0, inl (same, asked, f, clear_none y b k.1))
  keeps_access o x n a b q st (inr (other, f, h)) = let k = q st h in (k.0, inr (other, f, k.1))

  pub keeps_in : IsLifted (Keeps y C)
  keeps_in (SeqFirst n) a b q st h = let k = q st h.0 in (lifted (SeqFirst n) a b k.0, (k.1, h.1))
  keeps_in (ParLeft n) a b q st (inl h) = let k = q st h.0 in (lifted (ParLeft n) a b k.0, inl (k.1, h.1))
  keeps_in (ParLeft n) a b q st (inr h) = let k = q Clear h.0 in (lifted (ParLeft n) a b k.0, inr (k.1, h.1))
  keeps_in (ParRight n) a b q st (inl h) = let k = q Clear h.1 in (lifted (ParRight n) a b k.0, inl (h.0, k.1))
  keeps_in (ParRight n) a b q st (inr h) = let k = q st h.1 in (lifted (ParRight n) a b k.0, inr (h.0, k.1))
  keeps_in (IfTest n p) a b q st h = let k = q st h.0 in (lifted (IfTest n p) a b k.0, (k.1, h.1, h.2))
  keeps_in (BinLeft op n) a b q st h = let k = q st h.0 in (lifted (BinLeft op n) a b k.0, (k.1, h.1))
  keeps_in (HeldRight j op) a b q st h = let k = q st h in (lifted (HeldRight j op) a b k.0, k.1)
  keeps_in NotOf a b q st h = let k = q st h in (lifted NotOf a b k.0, k.1)
  keeps_in (AssignRight n) a b q st h = let k = q st h.1 in (lifted (AssignRight n) a b k.0, (h.0, k.1))
  keeps_in (ScopeBody l) a b q st h = let k = q st h in (lifted (ScopeBody l) a b k.0, k.1)
  keeps_in (ReadIndex x n) a b q st h =
      let k = keeps_access None x n a b q st (in_index y st None x n a h) in
      (lifted (ReadIndex x n) a b k.0, of_index y st None x n b k.1)
  keeps_in (WriteIndex x n j) a b q st h =
      let k = keeps_access (Some j) x n a b q st (in_index y st (Some j) x n a h) in
      (lifted (WriteIndex x n j) a b k.0, of_index y st (Some j) x n b k.1)
  keeps_in (ReadAt l) a b q st h =
      let k = q st (at_array y st None l a h) in (lifted (ReadAt l) a b k.0, inr (inr ((l, refl), k.1)))
  keeps_in (WriteAt l j) a b q st h =
      let k = q st (at_array y st (Some j) l a h) in (lifted (WriteAt l j) a b k.0, inr (inr ((l, refl), k.1)))

-- A change of one stage into another, which no term has where nothing waits, unless it is a change from there.
abbrev pub Shifts : Name → Stage → Stage → Rel → Rel
Shifts y st to C a b = (StandsAt y st a → C a b × StandsAt y to b) × (StandsAt y Clear a → st ≡ Clear)

-- where nothing waits in a context nothing waits in the place
within_clear : (y : Name) (c : Context) (a : Term) → StandsAt y Clear (plug c a) → StandsAt y Clear a
within_clear y (SeqFirst n) a h = h.0
within_clear y (ParLeft n) a (inl h) = h.0
within_clear y (ParLeft n) a (inr h) = h.0
within_clear y (ParRight n) a (inl h) = h.1
within_clear y (ParRight n) a (inr h) = h.1
within_clear y (IfTest n p) a h = h.0
within_clear y (BinLeft op n) a h = h.0
within_clear y (HeldRight j op) a h = h
within_clear y NotOf a h = h
within_clear y (AssignRight n) a h = h.1
within_clear y (ScopeBody l) a h = h
within_clear y (ReadIndex x n) a h = by_side (in_index y Clear None x n a h)
  where
    by_side : InIndexOf y Clear None x n a → StandsAt y Clear a
    by_side (inl (same, asked, f, g)) = none_stands y a g
    by_side (inr (other, f, k)) = k
within_clear y (WriteIndex x n j) a h = by_side (in_index y Clear (Some j) x n a h)
  where
    by_side : InIndexOf y Clear (Some j) x n a → StandsAt y Clear a
    by_side (inl (same, asked, f, g)) = none_stands y a g
    by_side (inr (other, f, k)) = k
within_clear y (ReadAt l) a h = at_array y Clear None l a h
within_clear y (WriteAt l j) a h = at_array y Clear (Some j) l a h

module _ (y : Name) (st to : Stage) (C : Rel) (lifted : IsLifted C) where
  -- where nothing waits in the place all of it is a change from there
  from_clear : (a b : Term) → Shifts y st to C a b → StandsAt y Clear a → C a b × StandsAt y to b
  from_clear a b q h = q.0 (subst (λ (x : Stage). StandsAt y x a) (sym (q.1 h)) h)

  shifts_access : (o : Option ℕ) (x : Name) (n a b : Term) → Shifts y st to C a b → InIndexOf y st o x n a → C a b × InIndexOf y to o x n b
  shifts_access o x n a b q (inl (same, asked, f, g)) =
      let bad : Asked o ≡ Clear = sym asked ∙ q.1 (none_stands y a g) in absurd (cc bad)
  shifts_access o x n a b q (inr (other, f, h)) = let k = q.0 h in (k.0, inr (other, f, k.1))

  shifts_on : (c : Context) (a b : Term) → Shifts y st to C a b → StandsAt y st (plug c a) → C (plug c a) (plug c b) × StandsAt y to (plug c b)
  shifts_on (SeqFirst n) a b q h = let k = q.0 h.0 in (lifted (SeqFirst n) a b k.0, (k.1, h.1))
  shifts_on (ParLeft n) a b q (inl h) = let k = q.0 h.0 in (lifted (ParLeft n) a b k.0, inl (k.1, h.1))
  shifts_on (ParLeft n) a b q (inr h) =
      let k = from_clear a b q h.0 in
      (lifted (ParLeft n) a b k.0, inl (k.1, subst (λ (x : Stage). StandsAt y x n) (q.1 h.0) h.1))
  shifts_on (ParRight n) a b q (inl h) =
      let k = from_clear a b q h.1 in
      (lifted (ParRight n) a b k.0, inr (subst (λ (x : Stage). StandsAt y x n) (q.1 h.1) h.0, k.1))
  shifts_on (ParRight n) a b q (inr h) = let k = q.0 h.1 in (lifted (ParRight n) a b k.0, inr (h.0, k.1))
  shifts_on (IfTest n p) a b q h = let k = q.0 h.0 in (lifted (IfTest n p) a b k.0, (k.1, h.1, h.2))
  shifts_on (BinLeft op n) a b q h = let k = q.0 h.0 in (lifted (BinLeft op n) a b k.0, (k.1, h.1))
  shifts_on (HeldRight j op) a b q h = let k = q.0 h in (lifted (HeldRight j op) a b k.0, k.1)
  shifts_on NotOf a b q h = let k = q.0 h in (lifted NotOf a b k.0, k.1)
  shifts_on (AssignRight n) a b q h = let k = q.0 h.1 in (lifted (AssignRight n) a b k.0, (h.0, k.1))
  shifts_on (ScopeBody l) a b q h = let k = q.0 h in (lifted (ScopeBody l) a b k.0, k.1)
  shifts_on (ReadIndex x n) a b q h =
      let k = shifts_access None x n a b q (in_index y st None x n a h) in
      (lifted (ReadIndex x n) a b k.0, of_index y to None x n b k.1)
  shifts_on (WriteIndex x n j) a b q h =
      let k = shifts_access (Some j) x n a b q (in_index y st (Some j) x n a h) in
      (lifted (WriteIndex x n j) a b k.0, of_index y to (Some j) x n b k.1)
  shifts_on (ReadAt l) a b q h =
      let k = q.0 (at_array y st None l a h) in (lifted (ReadAt l) a b k.0, inr (inr ((l, refl), k.1)))
  shifts_on (WriteAt l j) a b q h =
      let k = q.0 (at_array y st (Some j) l a h) in (lifted (WriteAt l j) a b k.0, inr (inr ((l, refl), k.1)))

  pub shifts_in : IsLifted (Shifts y st to C)
  shifts_in c a b q = (shifts_on c a b q, λ h. q.1 (within_clear y c a h))
