-- A program sees its imports by their names alone: in what order they stand is nothing to it.
use Rattle.std.specs.Prelude.{◌≡◌, ℕ, zero, suc, Bool, true, false, List, [], ◌∷◌, ◌⊎◌, Option, Some, None, Contains, slice_get, if◌then◌else◌}
use Rattle.std.specs.Str.{bytes_eq}
use Rattle.std.proofs.Common.{refl, sym, ◌∙◌, ap, subst, arith, inl, inr}
use Rattle.gos_types.specs.Types.{Type', Com, Exp, Var}
use Rattle.gos_types.proofs.BytesLemmas.{bytes_eq_same}
use Rattle.gos_model.specs.Terms.{Name, Term, Skip, Lit, Bound, Import, Lam, App, Both, Fst, Snd, Seq, Par, If, While, Assign, Deref, New, Not, Bin, Loc, Scope, Wait, Held, Put, NewArray, Arr}
use Rattle.gos_model.specs.Typing.{Imported, Imports, import_type, Typed, array_type}
use Rattle.gos_model.specs.Stores.{Store}
use Rattle.gos_model.specs.Labels.{Label, Emits, Takes, IsAnswer}
use Rattle.gos_model.specs.Moves.{Program, Config, Idle, Running, Act, Computing, Showing, ActsTo, Move, Moves, Stalled}
use Rattle.gos_model.proofs.ReachLemmas.{reached_map}
use Rattle.gos_model.proofs.AccessMapLemmas.{puts_as, reads_as, writes_as}
use Rattle.gos_realises.specs.realises.Realises.{AllPorts, NamesDiffer, HaveOtherNames}
use Rattle.gos_realises.proofs.realises.PlaceLemmas.{contains_at, place_of, port_among, ports_by, differ_at, at_differ}

-- each name has one type in both
abbrev pub SameImports : Imports → Imports → Type 0
SameImports i j = (x : Name) → import_type i x ≡ import_type j x

pub imports_back : (i j : Imports) → SameImports i j → SameImports j i
imports_back i j same x = sym (same x)

pub typed_same : (i j : Imports) → SameImports i j → (g : List Type') (m : Term) (t : Type') → Typed i g m t → Typed j g m t
typed_same i j same g Skip t h = h
typed_same i j same g (Lit k w) t h = h
typed_same i j same g (Bound n) t h = h
typed_same i j same g (Import x) t h = sym (same x) ∙ h
typed_same i j same g (Lam a m) t (b, e, h) = (b, e, typed_same i j same (a ∷ g) m b h)
typed_same i j same g (App m n) t (a, h, k, apart) = (a, typed_same i j same g m _ h, typed_same i j same g n a k, apart)
typed_same i j same g (Both m n) t (a, b, e, h, k) = (a, b, e, typed_same i j same g m a h, typed_same i j same g n b k)
typed_same i j same g (Fst m) t (b, h) = (b, typed_same i j same g m _ h)
typed_same i j same g (Snd m) t (a, h) = (a, typed_same i j same g m _ h)
typed_same i j same g (Seq m n) t (d, h, k) = (d, typed_same i j same g m Com h, typed_same i j same g n t k)
typed_same i j same g (Par m n) t (e, h, k, apart) = (e, typed_same i j same g m Com h, typed_same i j same g n Com k, apart)
typed_same i j same g (If m n p) t (d, h, k, l) = (d, typed_same i j same g m (Exp 1) h, typed_same i j same g n t k, typed_same i j same g p t l)
typed_same i j same g (While m n) t (e, h, k) = (e, typed_same i j same g m (Exp 1) h, typed_same i j same g n Com k)
typed_same i j same g (Assign m n) t (w, e, h, k) = (w, e, typed_same i j same g m (Var w) h, typed_same i j same g n (Exp w) k)
typed_same i j same g (Deref m) t (w, e, h) = (w, e, typed_same i j same g m (Var w) h)
typed_same i j same g (New w m) t (d, width, h) = (d, width, typed_same i j same (Var w ∷ g) m t h)
typed_same i j same g (NewArray n w m) t (d, l, width, h) = (d, l, width, typed_same i j same (array_type n w ∷ g) m t h)
typed_same i j same g (Not m) t (w, e, h) = (w, e, typed_same i j same g m (Exp w) h)
typed_same i j same g (Bin op m n) t (w, e, h, k) = (w, e, typed_same i j same g m (Exp w) h, typed_same i j same g n (Exp w) k)
typed_same i j same g (Loc l) t h = h
typed_same i j same g (Arr l) t h = h
typed_same i j same g (Scope l m) t h = h
typed_same i j same g (Wait x s) t h = h
typed_same i j same g (Held k op n) t h = h
typed_same i j same g (Put m k) t h = h

emits_same : (i j : Imports) → SameImports i j → (o : Label) (m t : Term) → Emits i o m t → Emits j o m t
emits_same i j same o Skip t h = h
emits_same i j same o (Lit k w) t h = h
emits_same i j same o (Bound n) t h = h
emits_same i j same o (Import x) t (inl (is, e, f)) = inl (sym (same x) ∙ is, e, f)
emits_same i j same o (Import x) t (inr (w, is, e, f)) = inr (w, sym (same x) ∙ is, e, f)
emits_same i j same o (Lam a m) t h = h
emits_same i j same o (App m n) t h = h
emits_same i j same o (Both m n) t h = h
emits_same i j same o (Fst m) t h = h
emits_same i j same o (Snd m) t h = h
emits_same i j same o (Seq m n) t h = h
emits_same i j same o (Par m n) t h = h
emits_same i j same o (If m n p) t h = h
emits_same i j same o (While m n) t h = h
emits_same i j same o (Assign m n) t h = h
emits_same i j same o (Deref m) t (inl (x, w, e, is, f, g)) = inl (x, w, e, sym (same x) ∙ is, f, g)
emits_same i j same o (Deref m) t (inr (x, p, h)) =
    inr (x, p, puts_as i j (λ (u : Term). Deref u) 2 0 x o.event o.value m t (λ c w array. sym (same x) ∙ array) h)
emits_same i j same o (New w m) t h = h
emits_same i j same o (NewArray n w m) t h = h
emits_same i j same o (Not m) t h = h
emits_same i j same o (Bin op m n) t h = h
emits_same i j same o (Loc l) t h = h
emits_same i j same o (Arr l) t h = h
emits_same i j same o (Scope l m) t h = h
emits_same i j same o (Wait x s) t h = h
emits_same i j same o (Held k op n) t h = h
emits_same i j same o (Put m k) t (inl (x, w, e, is, f, g)) = inl (x, w, e, sym (same x) ∙ is, f, g)
emits_same i j same o (Put m k) t (inr (x, p, h)) =
    inr (x, p, puts_as i j (λ (u : Term). Put u k) 4 k x o.event o.value m t (λ c w array. sym (same x) ∙ array) h)

takes_same : (i j : Imports) → SameImports i j → (o : Label) (m t : Term) → Takes i o m t → Takes j o m t
takes_same i j same o Skip t h = h
takes_same i j same o (Lit k w) t h = h
takes_same i j same o (Bound n) t h = h
takes_same i j same o (Import x) t h = h
takes_same i j same o (Lam a m) t h = h
takes_same i j same o (App m n) t h = h
takes_same i j same o (Both m n) t h = h
takes_same i j same o (Fst m) t h = h
takes_same i j same o (Snd m) t h = h
takes_same i j same o (Seq m n) t h = h
takes_same i j same o (Par m n) t h = h
takes_same i j same o (If m n p) t h = h
takes_same i j same o (While m n) t h = h
takes_same i j same o (Assign m n) t h = h
takes_same i j same o (Deref m) t (x, p, h) =
    (x, p, reads_as i j (λ (u : Term). Deref u) x o.event o.value m t (λ c w array. sym (same x) ∙ array) h)
takes_same i j same o (New w m) t h = h
takes_same i j same o (NewArray n w m) t h = h
takes_same i j same o (Not m) t h = h
takes_same i j same o (Bin op m n) t h = h
takes_same i j same o (Loc l) t h = h
takes_same i j same o (Arr l) t h = h
takes_same i j same o (Scope l m) t h = h
takes_same i j same o (Wait x s) t (at, event, answer) = (at, event, subst (λ (a : Option Type'). IsAnswer a s o.value t) (same x) answer)
takes_same i j same o (Held k op n) t h = h
takes_same i j same o (Put m k) t (x, p, h) =
    (x, p, writes_as i j (λ (u : Term). Put u k) x o.event o.value m t (λ c w array. sym (same x) ∙ array) h)

shows_same : (i j : Imports) → SameImports i j → (o : Label) (m t : Term) → Emits i o m t ⊎ Takes i o m t → Emits j o m t ⊎ Takes j o m t
shows_same i j same o m t (inl h) = inl (emits_same i j same o m t h)
shows_same i j same o m t (inr h) = inr (takes_same i j same o m t h)

acts_same : (i j : Imports) → SameImports i j → (a : Act) (s : Store) (m : Term) (c : Config) → ActsTo i a s m c → ActsTo j a s m c
acts_same i j same Computing s m Idle h = h
acts_same i j same (Showing o) s m Idle h = h
acts_same i j same Computing s m (Running t s') h = h
acts_same i j same (Showing o) s m (Running t s') (reached, e) =
    (reached_map (λ a b. Emits i o a b ⊎ Takes i o a b) (λ a b. Emits j o a b ⊎ Takes j o a b) (shows_same i j same o) m t reached, e)

abbrev pub program : Imports → Term → Program
program i m = record { imports = i; body = m }

move_same : (i j : Imports) → SameImports i j → (b : Term) (a : Act) (c d : Config) → Move (program i b) a c d → Move (program j b) a c d
move_same i j same b a Idle d h = h
move_same i j same b a (Running m s) d (n, u, unfolds, acts) = (n, u, unfolds, acts_same i j same a s u d acts)

pub moves_same : (i j : Imports) → SameImports i j → (b : Term) (acts : List Act) (c d : Config) → Moves (program i b) acts c d → Moves (program j b) acts c d
moves_same i j same b [] c d h = h
moves_same i j same b (a ∷ acts) c d (e, move, rest) = (e, move_same i j same b a c e move, moves_same i j same b acts e d rest)

pub stalled_same : (i j : Imports) → SameImports i j → (b : Term) (c : Config) → Stalled (program i b) c → Stalled (program j b) c
stalled_same i j same b c stalled = (
  λ d move. stalled.0 d (move_same j i (imports_back i j same) b Computing c d move),
  λ o d out move. stalled.1 o d out (move_same j i (imports_back i j same) b (Showing o) c d move),
)

-- Imports in another order: number n of these is number `to n` of those.
pub record AreReordered (to from : ℕ → ℕ) (is js : List Imported) : Type 0 where
  pub there : (n : ℕ) → slice_get js (to n) ≡ slice_get is n
  pub here : (n : ℕ) → slice_get is (from n) ≡ slice_get js n
  pub returns : (n : ℕ) → to (from n) ≡ n

pub contains_same : (to from : ℕ → ℕ) (is js : List Imported) → AreReordered to from is js → (i : Imported) → Contains js i → Contains is i
contains_same to from is js same i has = let (n, at) = place_of js i has in contains_at is (from n) i (same.here n ∙ at)

contains_back : (to from : ℕ → ℕ) (is js : List Imported) → AreReordered to from is js → (i : Imported) → Contains is i → Contains js i
contains_back to from is js same i has = let (n, at) = place_of is i has in contains_at js (to n) i (same.there n ∙ at)

pub other_names_same : (to from : ℕ → ℕ) (is js ks : List Imported) → AreReordered to from is js → HaveOtherNames is ks → HaveOtherNames js ks
other_names_same to from is js ks same apart i k in_j in_k = apart i k (contains_same to from is js same i in_j) in_k

pub ports_same : (to from : ℕ → ℕ) (is js : List Imported) → AreReordered to from is js → AllPorts is → AllPorts js
ports_same to from is js same all = ports_by js (λ i has. port_among is all i (contains_same to from is js same i has))

pub names_same : (to from : ℕ → ℕ) (is js : List Imported) → AreReordered to from is js → NamesDiffer is → NamesDiffer js
names_same to from is js same differ =
    at_differ js
    (λ m n i j at_m at_n e.
    (let one = differ_at is differ (from m) (from n) i j (same.here m ∙ at_m) (same.here n ∙ at_n) e in
    sym (same.returns m) ∙ (ap to one ∙ same.returns n)))

-- the type of a name
abbrev pub Typing : Imports → Name → Type' → Type 0
Typing is x t = (i : Imported) × Contains is i × (bytes_eq i.name x ≡ true) × (i.ty ≡ t)

pub has_type : (is : Imports) (x : Name) (t : Type') → import_type is x ≡ Some t → Typing is x t
has_type [] x t e = absurd (cc e)
has_type (i ∷ is) x t e = by_test (bytes_eq i.name x) refl e (has_type is x t)
  where
    by_test : (b : Bool) → bytes_eq i.name x ≡ b → (if b then Some i.ty else import_type is x) ≡ Some t → (import_type is x ≡ Some t → Typing is x t)
        → Typing (i ∷ is) x t
    by_test true test e rest = (i, (0, omega arith, refl), test, cc e)
    by_test false test e rest = let (j, (k, small, at), named, typed) = rest e in (j, (suc k, omega (arith, small), at), named, typed)

pub type_has : (is : Imports) → NamesDiffer is → (x : Name) (i : Imported) → Contains is i → bytes_eq i.name x ≡ true → import_type is x ≡ Some i.ty
type_has [] differ x i (k, small, e) test = absurd (omega (arith, small))
type_has (j ∷ is) differ x i (zero, small, e) test =
    let there : bytes_eq j.name x ≡ true = subst (λ (y : Imported). bytes_eq y.name x ≡ true) (sym e) test in
    (λ k. if there k then Some j.ty else import_type is x) ∙ ap (λ (y : Imported). Some y.ty) e
type_has (j ∷ is) differ x i (suc k, small, e) test = by_test (bytes_eq j.name x) refl (type_has is differ.1 x i (k, omega (arith, small), e) test)
  where
    by_test : (b : Bool) → bytes_eq j.name x ≡ b → import_type is x ≡ Some i.ty → (if b then Some j.ty else import_type is x) ≡ Some i.ty
    by_test true there rest =
        absurd (differ.0 i (k, omega (arith, small), e) (bytes_eq_same j.name x there ∙ sym (bytes_eq_same i.name x test)))
    by_test false there rest = rest

typing_same : (to from : ℕ → ℕ) (is js : Imports) → AreReordered to from is js → NamesDiffer js → (x : Name) (t : Type')
    → import_type is x ≡ Some t → import_type js x ≡ Some t
typing_same to from is js same differ x t e =
    let (i, has, named, typed) = has_type is x t e in
    type_has js differ x i (contains_back to from is js same i has) named ∙ ap Some typed

typing_back : (to from : ℕ → ℕ) (is js : Imports) → AreReordered to from is js → NamesDiffer is → (x : Name) (t : Type')
    → import_type js x ≡ Some t → import_type is x ≡ Some t
typing_back to from is js same differ x t e =
    let (i, has, named, typed) = has_type js x t e in
    type_has is differ x i (contains_same to from is js same i has) named ∙ ap Some typed

pub reordered_same : (to from : ℕ → ℕ) (is js : Imports) → AreReordered to from is js → NamesDiffer is → SameImports is js
reordered_same to from is js same differ x = by_types (import_type is x) (import_type js x) refl refl
  where
    also : NamesDiffer js
    also = names_same to from is js same differ

    by_types : (o u : Option Type') → import_type is x ≡ o → import_type js x ≡ u → import_type is x ≡ import_type js x
    by_types (Some t) u e f = e ∙ sym (typing_same to from is js same also x t e)
    by_types None (Some t) e f = typing_back to from is js same differ x t f ∙ sym f
    by_types None None e f = e ∙ sym f
