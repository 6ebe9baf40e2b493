-- The term of a module with its supplies.
use Rattle.std.specs.Prelude.{◌≡◌, ℕ, zero, suc, Bool, true, false, List, [], ◌∷◌, ◌||◌, Option, Some, nat_eq, slice_get, if◌then◌else◌}
use Rattle.std.specs.Str.{bytes_eq}
use Rattle.std.proofs.lemmas.Slice.Eq.{bytes_eq-Decides}
use Rattle.std.proofs.Common.{refl, sym, ◌∙◌, ap, subst}
use Rattle.gos_types.specs.Types.{Type', Com, Exp, Var, Pair, Fun}
use Rattle.gos_model.specs.Terms as terms
use Rattle.gos_model.specs.Terms.{Term, Name}
use Rattle.gos_model.specs.Typing.{Imports, Imported, Typed, array_type}
use Rattle.gos_model.specs.Linking.{supplied, or_import}
use Rattle.gos_check.specs.declared.linear.Split.{Split}
use Rattle.gos_check.specs.Nodes.{Numbered, Closed, Use, Under, One, Two, If, Binding, OfFun, OfNew, OfArray, OneForm, OfFst, OfSnd, OfDeref, OfNot, TwoForm, OfApp, OfBoth, OfSeq, OfPar, OfWhile, OfAssign, OfBin, Meaning, argument_of, shifted, below, inside_one, inside, meaning, binder_term, one_term, two_term}
use Rattle.gos_check.specs.Linearity.{import_at}
use Rattle.gos_realises.specs.realises.Realises.{NamesDiffer}
use Rattle.gos_realises.specs.realises.Modules.{Supply, term_for}
use Rattle.gos_realises.proofs.realises.PlaceLemmas.{contains_at}
use Rattle.gos_terms.specs.meanings.Meanings.{IsLeaf, ModuleIsSupplied, term_or}
use Rattle.gos_terms.proofs.meanings.MapLemmas.{IsByForms, UsesKnown, IsShifted, mapped}
use Rattle.gos_terms.proofs.meanings.StillLemmas.{shift_still}

module _ (f : Name → Option Term) where
  leaf : (c : Term) → IsLeaf c → supplied f c ≡ c
  leaf terms.Skip l = refl
  leaf (terms.Lit k w) l = refl
  leaf (terms.Bound j) l = absurd l
  leaf (terms.Import x) l = absurd l
  leaf (terms.Lam a m) l = absurd l
  leaf (terms.App m p) l = absurd l
  leaf (terms.Both m p) l = absurd l
  leaf (terms.Fst m) l = absurd l
  leaf (terms.Snd m) l = absurd l
  leaf (terms.Seq m p) l = absurd l
  leaf (terms.Par m p) l = absurd l
  leaf (terms.If m p q) l = absurd l
  leaf (terms.While m p) l = absurd l
  leaf (terms.Assign m p) l = absurd l
  leaf (terms.Deref m) l = absurd l
  leaf (terms.New w m) l = absurd l
  leaf (terms.NewArray n w m) l = absurd l
  leaf (terms.Not m) l = absurd l
  leaf (terms.Bin op m p) l = absurd l
  leaf (terms.Loc j) l = absurd l
  leaf (terms.Arr j) l = absurd l
  leaf (terms.Scope j m) l = absurd l
  leaf (terms.Wait x s) l = absurd l
  leaf (terms.Held k op m) l = absurd l
  leaf (terms.Put m k) l = absurd l

  binder : (b : Binding) (a : Type') (m : Term) → supplied f (binder_term b a m) ≡ binder_term b a (supplied f m)
  binder OfFun a m = refl
  binder (OfNew w) a m = refl
  binder (OfArray k w) a m = refl

  one : (g : OneForm) (m : Term) → supplied f (one_term g m) ≡ one_term g (supplied f m)
  one OfFst m = refl
  one OfSnd m = refl
  one OfDeref m = refl
  one OfNot m = refl

  two : (g : TwoForm) (m n : Term) → supplied f (two_term g m n) ≡ two_term g (supplied f m) (supplied f n)
  two OfApp m n = refl
  two OfBoth m n = refl
  two OfSeq m n = refl
  two OfPar m n = refl
  two OfWhile m n = refl
  two OfAssign m n = refl
  two (OfBin op) m n = refl

  forms : IsByForms (λ d m. supplied f m)
  forms = record { leaf = λ d c l. leaf c l; binder = λ d b a m. binder b a m; one = λ d g m. one g m; two = λ d g m n. two g m n; choice = λ d m n p. refl }

-- variables and names
abbrev is_named : Term → Bool
is_named (terms.Bound j) = true
is_named (terms.Import x) = true
is_named m = false

-- a name's number stands for the term of the supply
data Stands (f : Name → Option Term) : Term → Term → Type 0 where
  variable : (j : ℕ) → Stands f (terms.Bound j) (terms.Bound j)
  name : (x : Name) (t : Term) → f x ≡ Some t → shifted t ≡ t → Stands f (terms.Import x) t

gives : (f : Name → Option Term) (a b : Term) → Stands f a b → supplied f a ≡ b
gives f _ _ (variable j) = refl
gives f _ _ (name x t is still) = ap (or_import x) is

further : (f : Name → Option Term) (a b : Term) → Stands f a b → Stands f (shifted a) (shifted b)
further f _ _ (variable j) = variable (suc j)
further f _ _ (name x t is still) = subst (Stands f (terms.Import x)) (sym still) (name x t is still)

named_before : (a : Term) → is_named (shifted a) ≡ true → is_named a ≡ true
named_before (terms.Bound j) is = refl
named_before (terms.Import x) is = refl
named_before terms.Skip is = is
named_before (terms.Lit k w) is = is
named_before (terms.Lam a m) is = is
named_before (terms.App m p) is = is
named_before (terms.Both m p) is = is
named_before (terms.Fst m) is = is
named_before (terms.Snd m) is = is
named_before (terms.Seq m p) is = is
named_before (terms.Par m p) is = is
named_before (terms.If m p q) is = is
named_before (terms.While m p) is = is
named_before (terms.Assign m p) is = is
named_before (terms.Deref m) is = is
named_before (terms.New w m) is = is
named_before (terms.NewArray n w m) is = is
named_before (terms.Not m) is = is
named_before (terms.Bin op m p) is = is
named_before (terms.Loc j) is = is
named_before (terms.Arr j) is = is
named_before (terms.Scope j m) is = is
named_before (terms.Wait x s) is = is
named_before (terms.Held k op m) is = is
named_before (terms.Put m k) is = is

shifts : (f : Name → Option Term) → IsShifted (λ d m. supplied f m) is_named (λ d a b. Stands f a b)
shifts f =
    record { gives = λ d a b r. gives f a b r; first = λ d. variable 0; further = λ d a b r. further f a b r; known_before = named_before }

-- Where numbers stand for variables, names and locations, a typed term uses variables and names alone.
abbrev IsSource : Term → Type 0
IsSource (terms.Bound j) = Unit {0}
IsSource (terms.Import x) = Unit {0}
IsSource (terms.Loc j) = Unit {0}
IsSource m = ⊥

typed_is_named : (i : Imports) (g : List Type') (a : Term) (t : Type') → IsSource a → Typed i g a t → is_named a ≡ true
typed_is_named i g (terms.Bound j) t s h = refl
typed_is_named i g (terms.Import x) t s h = refl
typed_is_named i g (terms.Loc j) t s h = absurd h
typed_is_named i g (terms.Arr j) t s h = absurd s
typed_is_named i g terms.Skip t s h = absurd s
typed_is_named i g (terms.Lit k w) t s h = absurd s
typed_is_named i g (terms.Lam a m) t s h = absurd s
typed_is_named i g (terms.App m p) t s h = absurd s
typed_is_named i g (terms.Both m p) t s h = absurd s
typed_is_named i g (terms.Fst m) t s h = absurd s
typed_is_named i g (terms.Snd m) t s h = absurd s
typed_is_named i g (terms.Seq m p) t s h = absurd s
typed_is_named i g (terms.Par m p) t s h = absurd s
typed_is_named i g (terms.If m p q) t s h = absurd s
typed_is_named i g (terms.While m p) t s h = absurd s
typed_is_named i g (terms.Assign m p) t s h = absurd s
typed_is_named i g (terms.Deref m) t s h = absurd s
typed_is_named i g (terms.New w m) t s h = absurd s
typed_is_named i g (terms.NewArray n w m) t s h = absurd s
typed_is_named i g (terms.Not m) t s h = absurd s
typed_is_named i g (terms.Bin op m p) t s h = absurd s
typed_is_named i g (terms.Scope j m) t s h = absurd s
typed_is_named i g (terms.Wait x n) t s h = absurd s
typed_is_named i g (terms.Held k op m) t s h = absurd s
typed_is_named i g (terms.Put m k) t s h = absurd s

shifted_source : (a : Term) → IsSource a → IsSource (shifted a)
shifted_source (terms.Bound j) s = tt
shifted_source (terms.Import x) s = tt
shifted_source (terms.Loc j) s = tt
shifted_source (terms.Arr j) s = absurd s
shifted_source terms.Skip s = absurd s
shifted_source (terms.Lit k w) s = absurd s
shifted_source (terms.Lam a m) s = absurd s
shifted_source (terms.App m p) s = absurd s
shifted_source (terms.Both m p) s = absurd s
shifted_source (terms.Fst m) s = absurd s
shifted_source (terms.Snd m) s = absurd s
shifted_source (terms.Seq m p) s = absurd s
shifted_source (terms.Par m p) s = absurd s
shifted_source (terms.If m p q) s = absurd s
shifted_source (terms.While m p) s = absurd s
shifted_source (terms.Assign m p) s = absurd s
shifted_source (terms.Deref m) s = absurd s
shifted_source (terms.New w m) s = absurd s
shifted_source (terms.NewArray n w m) s = absurd s
shifted_source (terms.Not m) s = absurd s
shifted_source (terms.Bin op m p) s = absurd s
shifted_source (terms.Scope j m) s = absurd s
shifted_source (terms.Wait x n) s = absurd s
shifted_source (terms.Held k op m) s = absurd s
shifted_source (terms.Put m k) s = absurd s

abbrev AreSources : Meaning → Type 0
AreSources env = (k : ℕ) → IsSource (env k)

below_sources : (n : ℕ) (env : Meaning) → AreSources env → AreSources (below n env)
below_sources n env all k = by_test (nat_eq k n)
  where
    by_test : (b : Bool) → IsSource (if b then terms.Bound 0 else shifted (env k))
    by_test true = tt
    by_test false = shifted_source (env k) (all k)

inside_sources : (ss : List Split) (env : Meaning) → AreSources env → AreSources (inside ss env)
inside_sources [] env all = all
inside_sources (s ∷ ss) env all = inside_sources ss (inside_one s env) side
  where
    side : AreSources (inside_one s env)
    side k = by_test (nat_eq k s.left || nat_eq k s.right)
      where
        by_test : (b : Bool) → IsSource (if b then env s.of else env k)
        by_test true = all s.of
        by_test false = all k

uses_named : (i : Imports) (g : List Type') (env : Meaning) (m : Numbered) (t : Type') → AreSources env → Typed i g (meaning env m) t → UsesKnown is_named env m
uses_named i g env (Closed u ss c) t all h = tt
uses_named i g env (Use u ss n) t all h = typed_is_named i g (env n) t (all n) h
uses_named i g env (Under u ss OfFun n m) t all (b, e, h) =
    uses_named i (argument_of u ∷ g) (below n (inside ss env)) m b (below_sources n (inside ss env) (inside_sources ss env all)) h
uses_named i g env (Under u ss (OfNew w) n m) t all (done, wide, h) =
    uses_named i (Var w ∷ g) (below n (inside ss env)) m t (below_sources n (inside ss env) (inside_sources ss env all)) h
uses_named i g env (Under u ss (OfArray c w) n m) t all (done, length, wide, h) =
    uses_named i (array_type c w ∷ g) (below n (inside ss env)) m t (below_sources n (inside ss env) (inside_sources ss env all)) h
uses_named i g env (One u ss OfFst m) t all (b, h) = uses_named i g (inside ss env) m (Pair t b) (inside_sources ss env all) h
uses_named i g env (One u ss OfSnd m) t all (a, h) = uses_named i g (inside ss env) m (Pair a t) (inside_sources ss env all) h
uses_named i g env (One u ss OfDeref m) t all (w, e, h) = uses_named i g (inside ss env) m (Var w) (inside_sources ss env all) h
uses_named i g env (One u ss OfNot m) t all (w, e, h) = uses_named i g (inside ss env) m (Exp w) (inside_sources ss env all) h
uses_named i g env (Two u ss OfApp m n) t all (a, h, j, apart) =
    (uses_named i g (inside ss env) m (Fun a t) (inside_sources ss env all) h, uses_named i g (inside ss env) n a (inside_sources ss env all) j)
uses_named i g env (Two u ss OfBoth m n) t all (a, b, e, h, j) =
    (uses_named i g (inside ss env) m a (inside_sources ss env all) h, uses_named i g (inside ss env) n b (inside_sources ss env all) j)
uses_named i g env (Two u ss OfSeq m n) t all (done, h, j) =
    (uses_named i g (inside ss env) m Com (inside_sources ss env all) h, uses_named i g (inside ss env) n t (inside_sources ss env all) j)
uses_named i g env (Two u ss OfPar m n) t all (e, h, j, apart) =
    (uses_named i g (inside ss env) m Com (inside_sources ss env all) h, uses_named i g (inside ss env) n Com (inside_sources ss env all) j)
uses_named i g env (Two u ss OfWhile m n) t all (e, h, j) =
    (uses_named i g (inside ss env) m (Exp 1) (inside_sources ss env all) h, uses_named i g (inside ss env) n Com (inside_sources ss env all) j)
uses_named i g env (Two u ss OfAssign m n) t all (w, e, h, j) =
    (uses_named i g (inside ss env) m (Var w) (inside_sources ss env all) h, uses_named i g (inside ss env) n (Exp w) (inside_sources ss env all) j)
uses_named i g env (Two u ss (OfBin op) m n) t all (w, e, h, j) =
    (uses_named i g (inside ss env) m (Exp w) (inside_sources ss env all) h, uses_named i g (inside ss env) n (Exp w) (inside_sources ss env all) j)
uses_named i g env (If u ss m n p) t all (done, h, j, l) = (
  uses_named i g (inside ss env) m (Exp 1) (inside_sources ss env all) h,
  uses_named i g (inside ss env) n t (inside_sources ss env all) j,
  uses_named i g (inside ss env) p t (inside_sources ss env all) l,
)

-- an import's number stands for its name, and another one for a location
data At (is : Imports) (k : ℕ) : Type 0 where
  named : (i : Imported) → slice_get is k ≡ Some i → import_at is k ≡ terms.Import i.name → At is k
  located : (l : ℕ) → import_at is k ≡ terms.Loc l → At is k

at_number : (is : Imports) (k : ℕ) → At is k
at_number [] k = located k refl
at_number (i ∷ is) zero = named i refl refl
at_number (i ∷ is) (suc k) = further_on (at_number is k)
  where
    further_on : At is k → At (i ∷ is) (suc k)
    further_on (named j at e) = named j at e
    further_on (located l e) = located l e

sources : (is : Imports) → AreSources (import_at is)
sources is k = of (at_number is k)
  where
    of : At is k → IsSource (import_at is k)
    of (named i at e) = subst IsSource (sym e) tt
    of (located l e) = subst IsSource (sym e) tt

-- the term for the name of an import is that of its supply
term_at : (is : Imports) (ss : List Supply) (k : ℕ) (i : Imported) (s : Supply) → NamesDiffer is → slice_get is k ≡ Some i → slice_get ss k ≡ Some s
    → term_for is ss i.name ≡ Some s.term
term_at [] ss k i s differ at_i at_s = absurd (cc at_i)
term_at (j ∷ is) [] k i s differ at_i at_s = absurd (cc at_s)
term_at (j ∷ is) (u ∷ ss) zero i s differ at_i at_s =
    let same_i : j ≡ i = cc at_i in
    let same_s : u ≡ s = cc at_s in
    let is_named : bytes_eq j.name i.name ≡ true = (bytes_eq-Decides j.name i.name).1 (ap (λ (x : Imported). x.name) same_i) in
    (λ n. if is_named n then Some u.term else term_for is ss i.name) ∙ ap (λ (x : Supply). Some x.term) same_s
term_at (j ∷ is) (u ∷ ss) (suc k) i s differ at_i at_s = by_test (bytes_eq j.name i.name) refl (term_at is ss k i s differ.1 at_i at_s)
  where
    by_test : (b : Bool) → bytes_eq j.name i.name ≡ b → term_for is ss i.name ≡ Some s.term → (if b then Some u.term else term_for is ss i.name) ≡ Some s.term
    by_test true e rest = absurd (differ.0 i (contains_at is k i at_i) ((bytes_eq-Decides j.name i.name).0 e))
    by_test false e rest = rest

pub module_is_supplied : ModuleIsSupplied
module_is_supplied is js ss m t leaves differ typed closed has =
    mapped (λ d x. supplied (term_for is ss) x) is_named (λ d a b. Stands (term_for is ss) a b) (forms (term_for is ss)) (shifts (term_for is ss)) 0 m
    (import_at is) (λ k. term_or (slice_get ss k)) leaves (uses_named is [] (import_at is) m t (sources is) typed) related
  where
    related : (k : ℕ) → is_named (import_at is k) ≡ true → Stands (term_for is ss) (import_at is k) (term_or (slice_get ss k))
    related k known = of (at_number is k)
      where
        of : At is k → Stands (term_for is ss) (import_at is k) (term_or (slice_get ss k))
        of (located l e) = let no : is_named (terms.Loc l) ≡ true = subst (λ (x : Term). is_named x ≡ true) e known in absurd (cc no)
        of (named i at e) =
            let (s, at_s) = has k i.name e in
            let (a, h) = closed k s at_s in
            subst (λ (x : Term). Stands (term_for is ss) x (term_or (slice_get ss k))) (sym e)
            (subst (λ (o : Option Supply). Stands (term_for is ss) (terms.Import i.name) (term_or o)) (sym at_s)
            (name i.name s.term (term_at is ss k i s differ at at_s) (shift_still js s.term a h)))
