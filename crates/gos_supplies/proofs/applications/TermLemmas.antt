-- A term sees the supplies of its own imports alone.
use Rattle.std.specs.Prelude.{◌≡◌, Bool, true, false, List, [], ◌∷◌, ◌++◌, Option, Some, if◌then◌else◌}
use Rattle.std.specs.Str.{bytes_eq}
use Rattle.std.proofs.Common.{refl, sym, ◌∙◌, ap}
use Rattle.std.proofs.lemmas.List.Elements.{Contains-append_right}
use Rattle.gos_types.specs.Types.{Type', Com, Exp, Var, Fun, Pair}
use Rattle.gos_types.proofs.BytesLemmas.{bytes_eq_same}
use Rattle.gos_model.specs.Terms.{Name, Term, Skip, Lit, Bound, Import, Lam, App, Both, Fst, Snd, Seq, Par, If, While, Assign, Deref, New, NewArray, Not, Bin, Loc, Arr, Scope, Wait, Held, Put}
use Rattle.gos_model.specs.Typing.{Imported, Imports, import_type, Typed, array_type}
use Rattle.gos_model.specs.Linking.{or_import, supplied}
use Rattle.gos_realises.specs.realises.Realises.{NamesDiffer}
use Rattle.gos_realises.specs.realises.Modules.{Supply, AreSupplied, term_for}
use Rattle.gos_joining.proofs.renumbered.ImportLemmas.{has_type}

-- two ways to supply, which agree on the imports of these
abbrev Agree : Imports → (Name → Option Term) → (Name → Option Term) → Type 0
Agree is f g = (x : Name) (t : Type') → import_type is x ≡ Some t → f x ≡ g x

pub supplied_same : (is : Imports) (f g : Name → Option Term) → Agree is f g → (c : List Type') (m : Term) (t : Type') → Typed is c m t
    → supplied f m ≡ supplied g m
supplied_same is f g agree c Skip t h = refl
supplied_same is f g agree c (Lit k w) t h = refl
supplied_same is f g agree c (Bound n) t h = refl
supplied_same is f g agree c (Import x) t h = ap (or_import x) (agree x t h)
supplied_same is f g agree c (Lam a m) t (b, e, h) = ap (Lam a) (supplied_same is f g agree (a ∷ c) m b h)
supplied_same is f g agree c (App m n) t (a, h, k, apart) =
    let first = supplied_same is f g agree c m (Fun a t) h in
    let second = supplied_same is f g agree c n a k in
    λ i. App (first i) (second i)
supplied_same is f g agree c (Both m n) t (a, b, e, h, k) =
    let first = supplied_same is f g agree c m a h in
    let second = supplied_same is f g agree c n b k in
    λ i. Both (first i) (second i)
supplied_same is f g agree c (Fst m) t (b, h) = ap Fst (supplied_same is f g agree c m (Pair t b) h)
supplied_same is f g agree c (Snd m) t (a, h) = ap Snd (supplied_same is f g agree c m (Pair a t) h)
supplied_same is f g agree c (Seq m n) t (d, h, k) =
    let first = supplied_same is f g agree c m Com h in
    let second = supplied_same is f g agree c n t k in
    λ i. Seq (first i) (second i)
supplied_same is f g agree c (Par m n) t (e, h, k, apart) =
    let first = supplied_same is f g agree c m Com h in
    let second = supplied_same is f g agree c n Com k in
    λ i. Par (first i) (second i)
supplied_same is f g agree c (If m n p) t (d, h, k, l) =
    let first = supplied_same is f g agree c m (Exp 1) h in
    let second = supplied_same is f g agree c n t k in
    let third = supplied_same is f g agree c p t l in
    λ i. If (first i) (second i) (third i)
supplied_same is f g agree c (While m n) t (e, h, k) =
    let first = supplied_same is f g agree c m (Exp 1) h in
    let second = supplied_same is f g agree c n Com k in
    λ i. While (first i) (second i)
supplied_same is f g agree c (Assign m n) t (w, e, h, k) =
    let first = supplied_same is f g agree c m (Var w) h in
    let second = supplied_same is f g agree c n (Exp w) k in
    λ i. Assign (first i) (second i)
supplied_same is f g agree c (Deref m) t (w, e, h) = ap Deref (supplied_same is f g agree c m (Var w) h)
supplied_same is f g agree c (New w m) t (d, width, h) = ap (New w) (supplied_same is f g agree (Var w ∷ c) m t h)
supplied_same is f g agree c (NewArray n w m) t (d, long, width, h) = ap (NewArray n w) (supplied_same is f g agree (array_type n w ∷ c) m t h)
supplied_same is f g agree c (Not m) t (w, e, h) = ap Not (supplied_same is f g agree c m (Exp w) h)
supplied_same is f g agree c (Bin op m n) t (w, e, h, k) =
    let first = supplied_same is f g agree c m (Exp w) h in
    let second = supplied_same is f g agree c n (Exp w) k in
    λ i. Bin op (first i) (second i)
supplied_same is f g agree c (Loc l) t h = refl
supplied_same is f g agree c (Arr l) t h = refl
supplied_same is f g agree c (Scope l m) t h = absurd h
supplied_same is f g agree c (Wait x s) t h = refl
supplied_same is f g agree c (Held k op n) t h = absurd h
supplied_same is f g agree c (Put m k) t h = absurd h

-- of imports of two plans, those of the first and those of the second
pub term_first : (is js : List Imported) (ss ts : List Supply) → AreSupplied is ss → Agree is (term_for (is ++ js) (ss ++ ts)) (term_for is ss)
term_first [] js ss ts are x t e = absurd (cc e)
term_first (i ∷ is) js [] ts are x t e = absurd are
term_first (i ∷ is) js (s ∷ ss) ts are x t e = by_test (bytes_eq i.name x) e (term_first is js ss ts are.1 x t)
  where
    by_test : (b : Bool) → (if b then Some i.ty else import_type is x) ≡ Some t
        → (import_type is x ≡ Some t → term_for (is ++ js) (ss ++ ts) x ≡ term_for is ss x)
        → (if b then Some s.term else term_for (is ++ js) (ss ++ ts) x) ≡ (if b then Some s.term else term_for is ss x)
    by_test true typed rest = refl
    by_test false typed rest = rest typed

pub term_second : (is js : List Imported) (ss ts : List Supply) → NamesDiffer (is ++ js) → AreSupplied is ss → Agree js (term_for (is ++ js) (ss ++ ts)) (term_for js ts)
term_second [] js [] ts differ are x t e = refl
term_second [] js (s ∷ ss) ts differ are x t e = absurd are
term_second (i ∷ is) js [] ts differ are x t e = absurd are
term_second (i ∷ is) js (s ∷ ss) ts differ are x t e = by_test (bytes_eq i.name x) refl (term_second is js ss ts differ.1 are.1 x t e)
  where
    by_test : (b : Bool) → bytes_eq i.name x ≡ b → term_for (is ++ js) (ss ++ ts) x ≡ term_for js ts x
        → (if b then Some s.term else term_for (is ++ js) (ss ++ ts) x) ≡ term_for js ts x
    by_test true test rest =
        let (j, has, named, typed) = has_type js x t e in
        absurd (differ.0 j (Contains-append_right is js j has) (bytes_eq_same i.name x test ∙ sym (bytes_eq_same j.name x named)))
    by_test false test rest = rest

-- supplies of two lists of imports
abbrev Supplies : List Imported → List Imported → List Supply → Type 0
Supplies is js us = (ss ts : List Supply) × (us ≡ ss ++ ts) × AreSupplied is ss × AreSupplied js ts

pub supplies_split : (is js : List Imported) (us : List Supply) → AreSupplied (is ++ js) us → Supplies is js us
supplies_split [] js us are = ([], us, refl, tt, are)
supplies_split (i ∷ is) js [] are = absurd are
supplies_split (i ∷ is) js (u ∷ us) are =
    let (ss, ts, same, first, second) = supplies_split is js us are.1 in (u ∷ ss, ts, ap (λ (l : List Supply). u ∷ l) same, (are.0, first), second)
