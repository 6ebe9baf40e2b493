-- Types of running terms under more imports; and the number of an index that is told fits its type.
use Rattle.std.specs.Prelude.{◌≡◌, ℕ, zero, suc, ◌^◌, ◌<◌, List, [], ◌∷◌, Option, Some, None}
use Rattle.std.proofs.Common.{arith, refl, sym, ap, subst, ◌∙◌}
use Rattle.gos_types.specs.Types.{Type', Com, Exp, Var, Pair, Fun}
use Rattle.gos_model.specs.Terms.{Name, Term, Skip, Lit, Bound, Import, Lam, App, Both, Fst, Snd, Seq, Par, If, While, Assign, Deref, New, NewArray, Not, Bin, Loc, Arr, Scope, Wait, Held, Put}
use Rattle.gos_model.specs.Typing.{Imports, import_type, array_type}
use Rattle.gos_model.specs.Stores.{Store}
use Rattle.gos_model.specs.Accesses.{IsArrayImport}
use Rattle.gos_model.specs.Labels.{Label, taken}
use Rattle.gos_model.specs.Moves.{Program, Running, Showing, Move}
use Rattle.gos_programs.specs.contexts.Contexts.{Context, SeqFirst, ParLeft, ParRight, IfTest, BinLeft, HeldRight, NotOf, AssignRight, ScopeBody, ReadIndex, WriteIndex, ReadAt, WriteAt, plug}
use Rattle.gos_programs.specs.contexts.Widening.{AreAmong}
use Rattle.gos_programs.proofs.contexts.BackwardLemmas.{OneLabel}
use Rattle.gos_programs.proofs.contexts.ReachedLemmas.{reached_lifted}
use Rattle.gos_programs.specs.results.HasTypes.{Widths, AnswersWith, HasType}
use Rattle.gos_programs.proofs.results.PutLemmas.{unfoldings_typed}
use Rattle.gos_programs.specs.arrays.LocalArray.{begin_label}
use Rattle.gos_programs.proofs.arrays.ArrayLabelLemmas.{access, OfArray, of_begin, of_ask, of_tell, of_read, of_write, label_of, not_began}

answers_more : (o p : Option Type') (n : ℕ) (t : Type') → ((u : Type') → o ≡ Some u → p ≡ Some u) → AnswersWith o n t → AnswersWith p n t
answers_more None p n t more h = absurd h
answers_more (Some u) p n t more h = subst (λ (o : Option Type'). AnswersWith o n t) (sym (more u refl)) h

pub more_imports : (ws : Widths) (i j : Imports) → AreAmong i j → (m : Term) (g : List Type') (t : Type') → HasType ws i g m t → HasType ws j g m t
more_imports ws i j more Skip g t h = h
more_imports ws i j more (Lit k w) g t h = h
more_imports ws i j more (Bound n) g t h = h
more_imports ws i j more (Import x) g t h = more x t h
more_imports ws i j more (Lam a m) g t (b, e, h) = (b, e, more_imports ws i j more m (a ∷ g) b h)
more_imports ws i j more (App m n) g t (a, h, k) = (a, more_imports ws i j more m g (Fun a t) h, more_imports ws i j more n g a k)
more_imports ws i j more (Both m n) g t (a, b, e, h, k) = (a, b, e, more_imports ws i j more m g a h, more_imports ws i j more n g b k)
more_imports ws i j more (Fst m) g t (b, h) = (b, more_imports ws i j more m g (Pair t b) h)
more_imports ws i j more (Snd m) g t (a, h) = (a, more_imports ws i j more m g (Pair a t) h)
more_imports ws i j more (Seq m n) g t (d, h, k) = (d, more_imports ws i j more m g Com h, more_imports ws i j more n g t k)
more_imports ws i j more (Par m n) g t (e, h, k) = (e, more_imports ws i j more m g Com h, more_imports ws i j more n g Com k)
more_imports ws i j more (If m n p) g t (d, h, k, l) =
    (d, more_imports ws i j more m g (Exp 1) h, more_imports ws i j more n g t k, more_imports ws i j more p g t l)
more_imports ws i j more (While m n) g t (e, h, k) = (e, more_imports ws i j more m g (Exp 1) h, more_imports ws i j more n g Com k)
more_imports ws i j more (Assign m n) g t (w, e, h, k) = (w, e, more_imports ws i j more m g (Var w) h, more_imports ws i j more n g (Exp w) k)
more_imports ws i j more (Deref m) g t (w, e, h) = (w, e, more_imports ws i j more m g (Var w) h)
more_imports ws i j more (New w m) g t (d, h) = (d, more_imports ws i j more m (Var w ∷ g) t h)
more_imports ws i j more (NewArray n w m) g t (d, long, h) = (d, long, more_imports ws i j more m (array_type n w ∷ g) t h)
more_imports ws i j more (Not m) g t (w, e, h) = (w, e, more_imports ws i j more m g (Exp w) h)
more_imports ws i j more (Bin op m n) g t (w, e, h, k) = (w, e, more_imports ws i j more m g (Exp w) h, more_imports ws i j more n g (Exp w) k)
more_imports ws i j more (Loc l) g t h = h
more_imports ws i j more (Arr l) g t h = h
more_imports ws i j more (Scope l m) g t (d, h) = (d, more_imports ws i j more m g t h)
more_imports ws i j more (Wait x n) g t h = answers_more (import_type i x) (import_type j x) n t (λ u e. more x u e) h
more_imports ws i j more (Held k op n) g t (w, e, fits, h) = (w, e, fits, more_imports ws i j more n g (Exp w) h)
more_imports ws i j more (Put m k) g t (w, e, fits, h) = (w, e, fits, more_imports ws i j more m g (Var w) h)

-- what is reached in a typed term has a type
module _ (ws : Widths) (i : Imports) where
  typed_within : (c : Context) (m : Term) (t : Type') → HasType ws i [] (plug c m) t → (u : Type') × HasType ws i [] m u
  typed_within (SeqFirst n) m t h = (Com, h.1)
  typed_within (ParLeft n) m t h = (Com, h.1)
  typed_within (ParRight n) m t h = (Com, h.2)
  typed_within (IfTest n p) m t h = (Exp 1, h.1)
  typed_within (BinLeft op n) m t (w, e, h, k) = (Exp w, h)
  typed_within (HeldRight j op) m t (w, e, fits, h) = (Exp w, h)
  typed_within NotOf m t (w, e, h) = (Exp w, h)
  typed_within (AssignRight n) m t (w, e, h, k) = (Exp w, k)
  typed_within (ScopeBody l) m t h = (t, h.1)
  typed_within (ReadIndex x n) m t (w, e, (a, h, (b, d, pair, k, l))) = (d, l)
  typed_within (WriteIndex x n j) m t (w, e, fits, (a, h, (b, d, pair, k, l))) = (d, l)
  typed_within (ReadAt l) m t (w, e, (a, h, k)) = (a, k)
  typed_within (WriteAt l j) m t (w, e, fits, (a, h, k)) = (a, k)

  -- the number of an index
  typed_access : (o : Option ℕ) (m : Term) (t : Type') → HasType ws i [] (access o m) t → (w : ℕ) × HasType ws i [] m (Var w)
  typed_access None m t (w, e, h) = (w, h)
  typed_access (Some k) m t (w, e, fits, h) = (w, h)

  abbrev Fits : ℕ → ℕ → Term → Term → Type 0
  Fits k c a b = (t : Type') → HasType ws i [] a t → k < 2 ^ c

  module _ (y : Name) (c w : ℕ) (array : IsArrayImport i y c w) (k : ℕ) where
    tell_fits : (a b : Term) → OfArray y c w (taken y 0 k) a b → Fits k c a b
    tell_fits a b (of_tell o n j ev ea ej eb) t h =
        let (v, (d, of_h, (t1, t2, pair, of_n, of_j))) = typed_access o (App (Wait y 0) (Both n j)) t (subst (λ (x : Term). HasType ws i [] x t) ea h) in
        (subst (λ (x : Term). HasType ws i [] x t2) ej of_j).1
    tell_fits a b (of_begin o n is ea eb) t h = absurd (not_began y o (taken y 0 k) 0 is refl (λ e. omega (arith, e)) (λ e. omega (arith, e)))
    tell_fits a b (of_ask o n j ev ea eb) t h = absurd (omega (arith, ev))
    tell_fits a b (of_read n j ev ea eb) t h = absurd (omega (arith, ev))
    tell_fits a b (of_write x n j ev ea eb) t h = absurd (omega (arith, ev))

pub index_fits : (ws : Widths) (p : Program) (y : Name) (c w k : ℕ) → IsArrayImport p.imports y c w → (m u : Term) (s r : Store) (t : Type')
    → HasType ws p.imports [] m t → Move p (Showing (taken y 0 k)) (Running m s) (Running u r) → k < 2 ^ c
index_fits ws p y c w k array m u s r t typed (n, x, hs, (h, e)) =
    reached_lifted (OneLabel p.imports (taken y 0 k)) (Fits ws p.imports k c)
    (λ a b l. tell_fits ws p.imports y c w array k a b (label_of p.imports y c w array (taken y 0 k) refl a b l))
    (λ v a b g t' h'. (let (q, below) = typed_within ws p.imports v a t' h' in g q below)) x u h t
    (unfoldings_typed ws p.imports n m x hs t typed)

-- the request to read has no number
module _ (y : Name) (c w v : ℕ) where
  zero_read : (a b : Term) → OfArray y c w (taken y 2 v) a b → v ≡ 0
  zero_read a b (of_begin o n is ea eb) = by_kind o is
    where
      by_kind : (o : Option ℕ) → taken y 2 v ≡ begin_label y o → v ≡ 0
      by_kind None is = ap (λ (l : Label). l.value) is
      by_kind (Some k) is = let bad : 2 ≡ 4 = ap (λ (l : Label). l.event) is in absurd (omega (arith, bad))
  zero_read a b (of_ask o n j ev ea eb) = absurd (omega (arith, ev))
  zero_read a b (of_tell o n j ev ea ej eb) = absurd (omega (arith, ev))
  zero_read a b (of_read n j ev ea eb) = absurd (omega (arith, ev))
  zero_read a b (of_write x n j ev ea eb) = absurd (omega (arith, ev))

pub read_is_zero : (p : Program) (y : Name) (c w v : ℕ) → IsArrayImport p.imports y c w → (m u : Term) (s r : Store)
    → Move p (Showing (taken y 2 v)) (Running m s) (Running u r) → v ≡ 0
read_is_zero p y c w v array m u s r (n, x, hs, (h, e)) =
    reached_lifted (OneLabel p.imports (taken y 2 v)) (λ a b. v ≡ 0)
    (λ a b l. zero_read y c w v a b (label_of p.imports y c w array (taken y 2 v) refl a b l)) (λ q a b g. g) x u h
