-- The term of a plan with a giver, and then with supplies, is the term with the supplies of both and the giver's own among them.
use Rattle.std.specs.Prelude.{◌≡◌, Bool, true, false, List, [], ◌∷◌, ◌++◌, Option, Some, None, if◌then◌else◌}
use Rattle.std.specs.Str.{bytes_eq}
use Rattle.std.proofs.Common.{refl, sym, ◌∙◌, ap, arith}
use Rattle.std.proofs.lemmas.List.Elements.{Contains-append_right}
use Rattle.gos_types.specs.Types.{Type'}
use Rattle.gos_types.proofs.BytesLemmas.{bytes_eq_same}
use Rattle.gos_model.specs.Terms.{Name, Term, Skip, Lit, Bound, Import, Lam, App, Both, Fst, Snd, Seq, Par, If, While, Assign, Deref, New, NewArray, Not, Bin, Loc, Arr, Scope, Wait, Held, Put}
use Rattle.gos_model.specs.Typing.{Imported, import_type, Typed}
use Rattle.gos_model.specs.Linking.{or_import, supplied}
use Rattle.gos_realises.specs.realises.Realises.{NamesDiffer}
use Rattle.gos_realises.specs.realises.Modules.{Supply, AreSupplied, term_for}
use Rattle.gos_supplies.proofs.applications.TermLemmas.{supplied_same, term_first, term_second}
use Rattle.gos_supplies.specs.instances.Served.{bound_to}

-- what stands for an import where g supplies what f leaves, and what f gives
abbrev pub or_supplied : (Name → Option Term) → Option Term → Option Term → Option Term
or_supplied g None o = o
or_supplied g (Some n) o = Some (supplied g n)

abbrev pub supplied_then : (Name → Option Term) → (Name → Option Term) → Name → Option Term
supplied_then f g y = or_supplied g (f y) (g y)

pub supplied_twice : (f g : Name → Option Term) (m : Term) → supplied g (supplied f m) ≡ supplied (supplied_then f g) m
supplied_twice f g Skip = refl
supplied_twice f g (Lit k w) = refl
supplied_twice f g (Bound n) = refl
supplied_twice f g (Import x) = by_given (f x)
  where
    by_given : (o : Option Term) → supplied g (or_import x o) ≡ or_import x (or_supplied g o (g x))
    by_given None = refl
    by_given (Some n) = refl
supplied_twice f g (Lam a m) = ap (Lam a) (supplied_twice f g m)
supplied_twice f g (App m n) = let a = supplied_twice f g m in let b = supplied_twice f g n in λ i. App (a i) (b i)
supplied_twice f g (Both m n) = let a = supplied_twice f g m in let b = supplied_twice f g n in λ i. Both (a i) (b i)
supplied_twice f g (Fst m) = ap Fst (supplied_twice f g m)
supplied_twice f g (Snd m) = ap Snd (supplied_twice f g m)
supplied_twice f g (Seq m n) = let a = supplied_twice f g m in let b = supplied_twice f g n in λ i. Seq (a i) (b i)
supplied_twice f g (Par m n) = let a = supplied_twice f g m in let b = supplied_twice f g n in λ i. Par (a i) (b i)
supplied_twice f g (If m n p) =
    let a = supplied_twice f g m in
    let b = supplied_twice f g n in
    let c = supplied_twice f g p in
    λ i. If (a i) (b i) (c i)
supplied_twice f g (While m n) = let a = supplied_twice f g m in let b = supplied_twice f g n in λ i. While (a i) (b i)
supplied_twice f g (Assign m n) = let a = supplied_twice f g m in let b = supplied_twice f g n in λ i. Assign (a i) (b i)
supplied_twice f g (Deref m) = ap Deref (supplied_twice f g m)
supplied_twice f g (New w m) = ap (New w) (supplied_twice f g m)
supplied_twice f g (NewArray n w m) = ap (NewArray n w) (supplied_twice f g m)
supplied_twice f g (Not m) = ap Not (supplied_twice f g m)
supplied_twice f g (Bin op m n) = let a = supplied_twice f g m in let b = supplied_twice f g n in λ i. Bin op (a i) (b i)
supplied_twice f g (Loc l) = refl
supplied_twice f g (Arr l) = refl
supplied_twice f g (Scope l m) = ap (Scope l) (supplied_twice f g m)
supplied_twice f g (Wait x s) = refl
supplied_twice f g (Held k op n) = ap (Held k op) (supplied_twice f g n)
supplied_twice f g (Put m k) = ap (λ (n : Term). Put n k) (supplied_twice f g m)

-- the term for another name than that of the import in the middle
pub other_term : (is js : List Imported) (x : Imported) (fs bs : List Supply) (v : Supply) (y : Name) → AreSupplied is fs → bytes_eq x.name y ≡ false
    → term_for (is ++ (x ∷ js)) (fs ++ (v ∷ bs)) y ≡ term_for (is ++ js) (fs ++ bs) y
other_term [] js x [] bs v y are other = ap (λ (b : Bool). if b then Some v.term else term_for js bs y) other
other_term [] js x (s ∷ fs) bs v y are other = absurd are
other_term (i ∷ is) js x [] bs v y are other = absurd are
other_term (i ∷ is) js x (s ∷ fs) bs v y are other =
    ap (λ (o : Option Term). if bytes_eq i.name y then Some s.term else o) (other_term is js x fs bs v y are.1 other)

-- and for its own, where no name before is the same
pub middle_term : (is js : List Imported) (x : Imported) (fs bs : List Supply) (v : Supply) (y : Name) → AreSupplied is fs → NamesDiffer (is ++ (x ∷ js))
    → bytes_eq x.name y ≡ true → term_for (is ++ (x ∷ js)) (fs ++ (v ∷ bs)) y ≡ Some v.term
middle_term [] js x [] bs v y are differ same = ap (λ (b : Bool). if b then Some v.term else term_for js bs y) same
middle_term [] js x (s ∷ fs) bs v y are differ same = absurd are
middle_term (i ∷ is) js x [] bs v y are differ same = absurd are
middle_term (i ∷ is) js x (s ∷ fs) bs v y are differ same = by_test (bytes_eq i.name y) refl (middle_term is js x fs bs v y are.1 differ.1 same)
  where
    by_test : (b : Bool) → bytes_eq i.name y ≡ b → term_for (is ++ (x ∷ js)) (fs ++ (v ∷ bs)) y ≡ Some v.term
        → (if b then Some s.term else term_for (is ++ (x ∷ js)) (fs ++ (v ∷ bs)) y) ≡ Some v.term
    by_test true test rest = absurd (differ.0 x (Contains-append_right is (x ∷ js) x (0, omega arith, refl)) (bytes_eq_same i.name y test ∙ sym (bytes_eq_same x.name y same)))
    by_test false test rest = rest

-- the type of another name
pub other_type : (is js : List Imported) (x : Imported) (y : Name) → bytes_eq x.name y ≡ false → import_type (is ++ (x ∷ js)) y ≡ import_type (is ++ js) y
other_type [] js x y other = ap (λ (b : Bool). if b then Some x.ty else import_type js y) other
other_type (i ∷ is) js x y other = ap (λ (o : Option Type'). if bytes_eq i.name y then Some i.ty else o) (other_type is js x y other)

-- A name of the plan has the same term from the giver and the supplies of both as from the supplies with the giver's.
module _ (is js qs : List Imported) (x : Imported) (fs bs ts : List Supply) (v : Supply) (n : Term) (u : Type') (of_fs : AreSupplied is fs)
    (of_gs : AreSupplied (is ++ js) (fs ++ bs)) (names : NamesDiffer (is ++ (x ∷ js))) (all_names : NamesDiffer ((is ++ js) ++ qs)) (typed : Typed qs [] n u)
    (term : v.term ≡ supplied (term_for qs ts) n)
  where
    abbrev all : Name → Option Term
    all = term_for ((is ++ js) ++ qs) ((fs ++ bs) ++ ts)

    giver_term : supplied all n ≡ v.term
    giver_term = supplied_same qs all (term_for qs ts) (term_second (is ++ js) qs (fs ++ bs) ts all_names of_gs) [] n u typed ∙ sym term

    pub agrees : (y : Name) (t : Type') → import_type (is ++ (x ∷ js)) y ≡ Some t
        → supplied_then (bound_to x.name n) all y ≡ term_for (is ++ (x ∷ js)) (fs ++ (v ∷ bs)) y
    agrees y t has = by_test (bytes_eq x.name y) refl
      where
        by_test : (b : Bool) → bytes_eq x.name y ≡ b
            → or_supplied all (if b then Some n else None) (all y) ≡ term_for (is ++ (x ∷ js)) (fs ++ (v ∷ bs)) y
        by_test true test = ap (λ (m : Term). Some m) giver_term ∙ sym (middle_term is js x fs bs v y of_fs names test)
        by_test false test =
            term_first (is ++ js) qs (fs ++ bs) ts of_gs y t (sym (other_type is js x y test) ∙ has) ∙ sym (other_term is js x fs bs v y of_fs test)
