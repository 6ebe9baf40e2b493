-- A body with its argument: supplied as an import, or put in for the bound variable.
use Rattle.std.specs.Prelude.{◌≡◌, ℕ, suc, ◌≤◌, Bool, true, false, List, [], ◌∷◌, length, Option, Some, nat_eq, if◌then◌else◌, slice_get}
use Rattle.std.specs.Str.{bytes_eq}
use Rattle.std.proofs.Common.{refl, sym, ◌∙◌, ap, arith}
use Rattle.std.proofs.lemmas.Bool.Decides.{nat_tests}
use Rattle.std.proofs.lemmas.Option.{slice_get_within}
use Rattle.gos_types.specs.Types.{Type', Com, Exp, Var, Pair, Fun}
use Rattle.gos_model.specs.Terms.{Name, Term, Skip, Lit, Bound, Import, Lam, App, Both, Fst, Snd, Seq, Par, If, While, Assign, Deref, New, NewArray, Not, Bin}
use Rattle.gos_model.specs.Typing.{Imports, import_type, Typed, array_type}
use Rattle.gos_model.specs.Substitution.{put_at}
use Rattle.gos_model.specs.Linking.{or_import, supplied}
use Rattle.gos_realises.specs.realises.Modules.{Supply, AreSupplied, term_for}

-- a typed term has no variable but those that are bound around it
not_it : (g : List Type') (n d : ℕ) (t : Type') (q : Term) → slice_get g n ≡ Some t → length g ≤ d → (if nat_eq n d then q else Bound n) ≡ Bound n
not_it g n d t q at small =
    let low = slice_get_within g n t at in
    let test : nat_eq n d ≡ false = grind (arith, nat_tests, low, small) in
    ap (λ (b : Bool). if b then q else Bound n) test

pub closed_put : (i : Imports) (g : List Type') (m : Term) (t : Type') (d : ℕ) (q : Term) → Typed i g m t → length g ≤ d → put_at d q m ≡ m
closed_put i g Skip t d q h small = refl
closed_put i g (Lit k w) t d q h small = refl
closed_put i g (Bound n) t d q h small = not_it g n d t q h small
closed_put i g (Import x) t d q h small = refl
closed_put i g (Lam a m) t d q (b, e, h) small =
    let one = closed_put i (a ∷ g) m b (suc d) q h (omega (arith, small)) in
    λ j. Lam a (one j)
closed_put i g (App m n) t d q (a, h, k, apart) small =
    let one = closed_put i g m (Fun a t) d q h small in
    let two = closed_put i g n a d q k small in
    λ j. App (one j) (two j)
closed_put i g (Both m n) t d q (a, b, e, h, k) small =
    let one = closed_put i g m a d q h small in
    let two = closed_put i g n b d q k small in
    λ j. Both (one j) (two j)
closed_put i g (Fst m) t d q (b, h) small =
    let one = closed_put i g m (Pair t b) d q h small in
    λ j. Fst (one j)
closed_put i g (Snd m) t d q (a, h) small =
    let one = closed_put i g m (Pair a t) d q h small in
    λ j. Snd (one j)
closed_put i g (Seq m n) t d q (e, h, k) small =
    let one = closed_put i g m Com d q h small in
    let two = closed_put i g n t d q k small in
    λ j. Seq (one j) (two j)
closed_put i g (Par m n) t d q (e, h, k, apart) small =
    let one = closed_put i g m Com d q h small in
    let two = closed_put i g n Com d q k small in
    λ j. Par (one j) (two j)
closed_put i g (If m n p) t d q (e, h, k, l) small =
    let one = closed_put i g m (Exp 1) d q h small in
    let two = closed_put i g n t d q k small in
    let three = closed_put i g p t d q l small in
    λ j. If (one j) (two j) (three j)
closed_put i g (While m n) t d q (e, h, k) small =
    let one = closed_put i g m (Exp 1) d q h small in
    let two = closed_put i g n Com d q k small in
    λ j. While (one j) (two j)
closed_put i g (Assign m n) t d q (w, e, h, k) small =
    let one = closed_put i g m (Var w) d q h small in
    let two = closed_put i g n (Exp w) d q k small in
    λ j. Assign (one j) (two j)
closed_put i g (Deref m) t d q (w, e, h) small =
    let one = closed_put i g m (Var w) d q h small in
    λ j. Deref (one j)
closed_put i g (New w m) t d q (e, k, h) small =
    let one = closed_put i (Var w ∷ g) m t (suc d) q h (omega (arith, small)) in
    λ j. New w (one j)
closed_put i g (NewArray n w m) t d q (e, l, k, h) small =
    let one = closed_put i (array_type n w ∷ g) m t (suc d) q h (omega (arith, small)) in
    λ j. NewArray n w (one j)
closed_put i g (Not m) t d q (w, e, h) small =
    let one = closed_put i g m (Exp w) d q h small in
    λ j. Not (one j)
closed_put i g (Bin op m n) t d q (w, e, h, k) small =
    let one = closed_put i g m (Exp w) d q h small in
    let two = closed_put i g n (Exp w) d q k small in
    λ j. Bin op (one j) (two j)
closed_put i g m t d q h small = absurd h

-- the terms of supplies have no variable
pub term_shut : (is : Imports) (ss : List Supply) → AreSupplied is ss → (y : Name) (d : ℕ) (q : Term)
    → put_at d q (or_import y (term_for is ss y)) ≡ or_import y (term_for is ss y)
term_shut [] ss are y d q = refl
term_shut (i ∷ is) [] are y d q = refl
term_shut (i ∷ is) (s ∷ ss) are y d q = by_test (bytes_eq i.name y) (term_shut is ss are.1 y d q)
  where
    own : put_at d q s.term ≡ s.term
    own = closed_put s.plan.imports [] s.term i.ty d q are.0.suits.typed (omega arith)

    by_test : (b : Bool) → put_at d q (or_import y (term_for is ss y)) ≡ or_import y (term_for is ss y)
        → put_at d q (or_import y (if b then Some s.term else term_for is ss y)) ≡ or_import y (if b then Some s.term else term_for is ss y)
    by_test true rest = own
    by_test false rest = rest

-- f supplies the imports i, and g these and x with u
module _ (i : Imports) (f g : Name → Option Term) (x : Name) (u : Term) (there : g x ≡ Some u)
    (agree : (y : Name) (t : Type') → import_type i y ≡ Some t → g y ≡ f y)
    (shut : (y : Name) (d : ℕ) → put_at d u (or_import y (f y)) ≡ or_import y (f y)) where
  the_variable : (n d : ℕ) → supplied g (if nat_eq n d then Import x else Bound n) ≡ (if nat_eq n d then u else Bound n)
  the_variable n d = by_test (nat_eq n d)
    where
      by_test : (b : Bool) → supplied g (if b then Import x else Bound n) ≡ (if b then u else Bound n)
      by_test true = ap (or_import x) there
      by_test false = refl

  pub supplied_put : (c : List Type') (m : Term) (t : Type') (d : ℕ) → Typed i c m t → supplied g (put_at d (Import x) m) ≡ put_at d u (supplied f m)
  supplied_put c Skip t d h = refl
  supplied_put c (Lit k w) t d h = refl
  supplied_put c (Bound n) t d h = the_variable n d
  supplied_put c (Import y) t d h = ap (or_import y) (agree y t h) ∙ sym (shut y d)
  supplied_put c (Lam a m) t d (b, e, h) =
      let one = supplied_put (a ∷ c) m b (suc d) h in
      λ j. Lam a (one j)
  supplied_put c (App m n) t d (a, h, k, apart) =
      let one = supplied_put c m (Fun a t) d h in
      let two = supplied_put c n a d k in
      λ j. App (one j) (two j)
  supplied_put c (Both m n) t d (a, b, e, h, k) =
      let one = supplied_put c m a d h in
      let two = supplied_put c n b d k in
      λ j. Both (one j) (two j)
  supplied_put c (Fst m) t d (b, h) =
      let one = supplied_put c m (Pair t b) d h in
      λ j. Fst (one j)
  supplied_put c (Snd m) t d (a, h) =
      let one = supplied_put c m (Pair a t) d h in
      λ j. Snd (one j)
  supplied_put c (Seq m n) t d (e, h, k) =
      let one = supplied_put c m Com d h in
      let two = supplied_put c n t d k in
      λ j. Seq (one j) (two j)
  supplied_put c (Par m n) t d (e, h, k, apart) =
      let one = supplied_put c m Com d h in
      let two = supplied_put c n Com d k in
      λ j. Par (one j) (two j)
  supplied_put c (If m n p) t d (e, h, k, l) =
      let one = supplied_put c m (Exp 1) d h in
      let two = supplied_put c n t d k in
      let three = supplied_put c p t d l in
      λ j. If (one j) (two j) (three j)
  supplied_put c (While m n) t d (e, h, k) =
      let one = supplied_put c m (Exp 1) d h in
      let two = supplied_put c n Com d k in
      λ j. While (one j) (two j)
  supplied_put c (Assign m n) t d (w, e, h, k) =
      let one = supplied_put c m (Var w) d h in
      let two = supplied_put c n (Exp w) d k in
      λ j. Assign (one j) (two j)
  supplied_put c (Deref m) t d (w, e, h) =
      let one = supplied_put c m (Var w) d h in
      λ j. Deref (one j)
  supplied_put c (New w m) t d (e, k, h) =
      let one = supplied_put (Var w ∷ c) m t (suc d) h in
      λ j. New w (one j)
  supplied_put c (NewArray n w m) t d (e, l, k, h) =
      let one = supplied_put (array_type n w ∷ c) m t (suc d) h in
      λ j. NewArray n w (one j)
  supplied_put c (Not m) t d (w, e, h) =
      let one = supplied_put c m (Exp w) d h in
      λ j. Not (one j)
  supplied_put c (Bin op m n) t d (w, e, h, k) =
      let one = supplied_put c m (Exp w) d h in
      let two = supplied_put c n (Exp w) d k in
      λ j. Bin op (one j) (two j)
  supplied_put c m t d h = absurd h
