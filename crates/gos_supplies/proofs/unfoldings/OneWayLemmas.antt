-- What reads or writes a head unfolds in one way, as the head does, and does nothing else.
use Rattle.std.specs.Prelude.{◌≡◌, ℕ}
use Rattle.std.proofs.Common.{refl, sym, ◌∙◌, ap, subst, arith, inl, inr}
use Rattle.gos_model.specs.Terms.{Name, Term, Lit, Import, Lam, App, Both, Loc, Arr, Deref, Wait, Put}
use Rattle.gos_types.specs.Types.{Type'}
use Rattle.gos_model.specs.Steps.{Computes, Locates}
use Rattle.gos_model.specs.Stores.{Store}
use Rattle.gos_model.specs.Typing.{Imports}
use Rattle.gos_model.specs.Reach.{Unfolds}
use Rattle.gos_model.specs.Moves.{Config, Idle, Running, Act, Computing, Showing, ActsTo}
use Rattle.gos_model.proofs.HeadLemmas.{lower_one, lower_no_index, IsReady}
use Rattle.gos_programs.proofs.contexts.BackwardLemmas.{OneHead, OneLabel}
use Rattle.gos_supplies.specs.unfoldings.Heads.{UnfoldsHead}

-- no location or name is a head
not_place : (f t : Term) (l : ℕ) → f ≡ Loc l → UnfoldsHead f t → ⊥
not_place f t l is h = none (subst (λ x. UnfoldsHead x t) is h)
  where
    none : UnfoldsHead (Loc l) t → ⊥
    none (inl h) = h
    none (inr h) = h

not_import : (f t : Term) (x : Name) → f ≡ Import x → UnfoldsHead f t → ⊥
not_import f t x is h = none (subst (λ y. UnfoldsHead y t) is h)
  where
    none : UnfoldsHead (Import x) t → ⊥
    none (inl h) = h
    none (inr h) = h

-- nor is the access of a port
not_wait : (x : Name) (s : ℕ) (t : Term) → UnfoldsHead (Wait x s) t → ⊥
not_wait x s t (inl h) = h
not_wait x s t (inr h) = h

not_access : (f t g a : Term) → ((r : Term) → UnfoldsHead g r → ⊥) → ((b : Type') (c : Term) → g ≡ Lam b c → ⊥) → f ≡ App g a → UnfoldsHead f t → ⊥
not_access f t g a rests no_function is h = none (subst (λ y. UnfoldsHead y t) is h)
  where
    none : UnfoldsHead (App g a) t → ⊥
    none (inl (b, c, e, to)) = no_function b c e
    none (inr (r, e, h)) = rests r h

-- nor is what stands for a number
not_array : (l : ℕ) (t : Term) → UnfoldsHead (Arr l) t → ⊥
not_array l t (inl h) = h
not_array l t (inr h) = h

not_located : (f t : Term) (l i : ℕ) → Locates f l i → UnfoldsHead f t → ⊥
not_located f t l i (inl (is, first)) h = not_place f t l is h
not_located f t l i (inr (w, is)) h = not_access f t (Arr l) (Lit i w) (λ r g. not_array l r g) (λ b c g. cc g) is h

-- what is read or written does nothing before it is a location or a name
deref_rests : (f n : Term) → UnfoldsHead f n → (i : Imports) (a : Act) (s : Store) (c : Config) → ActsTo i a s (Deref f) c → ⊥
deref_rests f n h i Computing s Idle act = act
deref_rests f n h i Computing s (Running t u) (inl (e, j, old, is, found, has, to, same)) = not_located f n e.place j is h
deref_rests f n h i Computing s (Running t u) (inr (m, e, index)) = lower_no_index (Computes s u) f n m h index
deref_rests f n h i (Showing o) s Idle act = grind (arith, act)
deref_rests f n h i (Showing o) s (Running t u) (inl (inl (inl (x, w, is, of_type, shown, to))), e) = not_import f n x is h
deref_rests f n h i (Showing o) s (Running t u) (inl (inl (inr (x, p, (j, w, a, array, inl (is, ev, va, to))))), e) = not_access f n (Import x) a (λ r g. not_import (Import x) r x refl g) (λ b c g. cc g) is h
deref_rests f n h i (Showing o) s (Running t u) (inl (inl (inr (x, p, (j, w, a, array, inr (b', is, number, ev, to))))), e) = not_access f n (Wait x 0) (Both a b') (λ r g. not_wait x 0 r g) (λ b c g. cc g) is h
deref_rests f n h i (Showing o) s (Running t u) (inl (inr (x, p, (j, w, a, b', array, is, rest))), e) = not_access f n (Wait x 1) (Both a b') (λ r g. not_wait x 1 r g) (λ b c g. cc g) is h
deref_rests f n h i (Showing o) s (Running t u) (inr (m, to, index), e) = lower_no_index (OneLabel i o) f n m h index

put_rests : (f n : Term) (k : ℕ) → UnfoldsHead f n → (i : Imports) (a : Act) (s : Store) (c : Config) → ActsTo i a s (Put f k) c → ⊥
put_rests f n k h i Computing s Idle act = act
put_rests f n k h i Computing s (Running t u) (inl (e, j, old, is, found, has, to, same)) = not_located f n e.place j is h
put_rests f n k h i Computing s (Running t u) (inr (m, e, index)) = lower_no_index (Computes s u) f n m h index
put_rests f n k h i (Showing o) s Idle act = grind (arith, act)
put_rests f n k h i (Showing o) s (Running t u) (inl (inl (inl (x, w, is, of_type, shown, to))), e) = not_import f n x is h
put_rests f n k h i (Showing o) s (Running t u) (inl (inl (inr (x, p, (j, w, a, array, inl (is, ev, va, to))))), e) = not_access f n (Import x) a (λ r g. not_import (Import x) r x refl g) (λ b c g. cc g) is h
put_rests f n k h i (Showing o) s (Running t u) (inl (inl (inr (x, p, (j, w, a, array, inr (b', is, number, ev, to))))), e) = not_access f n (Wait x 0) (Both a b') (λ r g. not_wait x 0 r g) (λ b c g. cc g) is h
put_rests f n k h i (Showing o) s (Running t u) (inl (inr (x, p, (j, w, a, b', array, is, rest))), e) = not_access f n (Wait x 1) (Both a b') (λ r g. not_wait x 1 r g) (λ b c g. cc g) is h
put_rests f n k h i (Showing o) s (Running t u) (inr (m, to, index), e) = lower_no_index (OneLabel i o) f n m h index

only_deref : (f n u : Term) → UnfoldsHead f n → Unfolds (Deref f) u → Deref n ≡ u
only_deref f n u h (inl (inl (inl other))) = absurd other
only_deref f n u h (inl (inl (inr other))) = absurd other
only_deref f n u h (inl (inr (v, e, other))) = ap (λ y. Deref y) (lower_one f n v h other) ∙ sym e
only_deref f n u h (inr (v, e, other)) = absurd (lower_no_index OneHead f n v h other)

pub deref_ready : (m n : Term) → UnfoldsHead m n → IsReady (Deref m) (Deref n)
deref_ready m n h =
    record { unfolds = inl (inr (n, refl, h)); only = λ u other. only_deref m n u h other; rests = deref_rests m n h }

only_put : (f n u : Term) (k : ℕ) → UnfoldsHead f n → Unfolds (Put f k) u → Put n k ≡ u
only_put f n u k h (inl (inl (inl other))) = absurd other
only_put f n u k h (inl (inl (inr other))) = absurd other
only_put f n u k h (inl (inr (v, e, other))) = ap (λ y. Put y k) (lower_one f n v h other) ∙ sym e
only_put f n u k h (inr (v, e, other)) = absurd (lower_no_index OneHead f n v h other)

pub put_ready : (m n : Term) (k : ℕ) → UnfoldsHead m n → IsReady (Put m k) (Put n k)
put_ready m n k h =
    record { unfolds = inl (inr (n, refl, h)); only = λ u other. only_put m n u k h other; rests = put_rests m n k h }
