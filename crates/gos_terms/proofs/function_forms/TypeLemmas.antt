-- A typed node's term has the type of the node, where it has one and each number's term has the number's type.
use Rattle.std.specs.Prelude.{◌≡◌, ℕ, suc, Bool, true, false, List, [], ◌∷◌, ◌++◌, ◌||◌, ◌⊎◌, Some, Contains, nat_eq, slice_get, if◌then◌else◌}
use Rattle.std.proofs.Common.{refl, sym, ◌∙◌, ap, subst, arith, inl, inr}
use Rattle.gos_types.specs.Types.{Type', Exp, Var, Pair, Fun}
use Rattle.gos_types.proofs.TypeLemmas.{same_expression_width}
use Rattle.gos_model.specs.Terms as terms
use Rattle.gos_model.specs.Terms.{Name, Term}
use Rattle.gos_model.specs.Typing.{Imports, import_type, Typed, array_type}
use Rattle.gos_model.specs.Laws.{OneType}
use Rattle.gos_check.specs.declared.linear.Split.{Split}
use Rattle.gos_check.specs.Nodes.{Numbered, Closed, Use, Under, One, Two, If, OfFun, OfNew, OfArray, OfFst, OfSnd, OfDeref, OfNot, OfApp, OfBoth, OfSeq, OfPar, OfWhile, OfAssign, OfBin, Meaning, meaning, below, shifted, inside_one, inside, argument_of, type_of_node}
use Rattle.gos_plan.specs.Plans.{Plan}
use Rattle.gos_realises.specs.realises.Realises.{NamesDiffer}
use Rattle.gos_realises.proofs.realises.PlaceLemmas.{contains_at, place_of}
use Rattle.gos_joining.proofs.renumbered.ImportLemmas.{has_type, type_has}
use Rattle.gos_compile.specs.Wiring.{Types}
use Rattle.gos_compile.specs.Typed.{ClosedTyped, SidesTyped, NodesTyped}
use Rattle.gos_supplies.proofs.typing.NameLemmas.{typed_under}
use Rattle.gos_supplies.proofs.unfoldings.TypingLemmas.{typed_more}
use Rattle.gos_terms.specs.meanings.Meanings.{IsLeaf, HasLeaves}
use Rattle.gos_terms.proofs.meanings.StillLemmas.{shift_still}
use Rattle.gos_terms.specs.wired.Wired.{Supplies, Placing, IsWired, AreRealised, terms_of}
use Rattle.gos_terms.specs.stages.Inside.{numbers_inside, AreSplit}
use Rattle.gos_terms.specs.numbers.Kept.{InScope}
use Rattle.gos_terms.proofs.regions.NamedLemmas.{in_list, before}

-- a number stands for a bound variable of its type, or for a closed term of its type
abbrev Stands : Imports → List Type' → Type' → Term → Type 0
Stands i g t m = ((j : ℕ) × (m ≡ terms.Bound j) × (slice_get g j ≡ Some t)) ⊎ Typed i [] m t

abbrev AllStand : Imports → Types → List ℕ → List Type' → Meaning → Type 0
AllStand i types ns g e = (k : ℕ) → Contains ns k → Stands i g (types k) (e k)

-- such a term has no other type
its_type : OneType → (i : Imports) (g : List Type') (t u : Type') (m : Term) → Stands i g t m → Typed i g m u → u ≡ t
its_type one i g t u m (inl (j, is, at)) typed =
    let there : slice_get g j ≡ Some u = subst (λ (x : Term). Typed i g x u) is typed in
    let both : Some u ≡ Some t = sym there ∙ at in cc both
its_type one i g t u m (inr closed) typed =
    one i g m u t typed (typed_under i i m 0 [] g t (λ x has. refl) closed)

-- below a binder
shifted_stands : (i : Imports) (g : List Type') (a t : Type') (m : Term) → Stands i g t m → Stands i (a ∷ g) t (shifted m)
shifted_stands i g a t m (inl (j, is, at)) = inl (suc j, ap shifted is, at)
shifted_stands i g a t m (inr closed) = inr (subst (λ (x : Term). Typed i [] x t) (sym (shift_still i m t closed)) closed)

below_stands : (i : Imports) (types : Types) (ns : List ℕ) (g : List Type') (e : Meaning) (n : ℕ) (a : Type') → a ≡ types n
    → AllStand i types ns g e → AllStand i types (ns ++ n ∷ []) (a ∷ g) (below n e)
below_stands i types ns g e n a is all k has = by_test (nat_eq k n) refl
  where
    At : Bool → Type 0
    At b = Stands i (a ∷ g) (types k) (if b then terms.Bound 0 else shifted (e k))

    by_test : (b : Bool) → nat_eq k n ≡ b → At (nat_eq k n)
    by_test true same =
        let number : k ≡ n = grind (arith, same) in
        subst At (sym same) (inl (0, refl, ap Some (is ∙ ap types (sym number))))
    by_test false other = subst At (sym other) (shifted_stands i g a (types k) (e k) (all k (before ns n k other has)))

-- inside splits
inside_stands : (i : Imports) (types : Types) (ss : List Split) (ns : List ℕ) (g : List Type') (e : Meaning) → SidesTyped types ss → AreSplit ss ns
    → AllStand i types ns g e → AllStand i types (numbers_inside ss ns) g (inside ss e)
inside_stands i types [] ns g e typed split all = all
inside_stands i types (s ∷ ss) ns g e (left, right, typed) (source, split) all =
    inside_stands i types ss (s.left ∷ s.right ∷ ns) g (inside_one s e) typed split one
  where
    At : ℕ → Bool → Type 0
    At k b = Stands i g (types k) (if b then e s.of else e k)

    one : AllStand i types (s.left ∷ s.right ∷ ns) g (inside_one s e)
    one k has = by_side (nat_eq k s.left) (nat_eq k s.right) refl refl
      where
        side : types k ≡ types s.of → Stands i g (types k) (e s.of)
        side same = subst (λ (t : Type'). Stands i g t (e s.of)) (sym same) (all s.of source)

        by_side : (a b : Bool) → nat_eq k s.left ≡ a → nat_eq k s.right ≡ b → At k (nat_eq k s.left || nat_eq k s.right)
        by_side true b is_left is_right =
            let number : k ≡ s.left = grind (arith, is_left) in
            subst (λ (x : Bool). At k (x || nat_eq k s.right)) (sym is_left) (side (ap types number ∙ left))
        by_side false true is_left is_right =
            let number : k ≡ s.right = grind (arith, is_right) in
            subst (λ (x : Bool). At k (x || nat_eq k s.right)) (sym is_left)
            (subst (λ (x : Bool). At k x) (sym is_right) (side (ap types number ∙ right)))
        by_side false false is_left is_right =
            subst (λ (x : Bool). At k (x || nat_eq k s.right)) (sym is_left)
            (subst (λ (x : Bool). At k x) (sym is_right) (all k (in_list ns k s.right is_right (in_list (s.right ∷ ns) k s.left is_left has))))

-- nodes without parts are `skip` and literals
closed_leaf : (c : Term) (t : Type') → ClosedTyped c t → IsLeaf c
closed_leaf terms.Skip t e = tt
closed_leaf (terms.Lit k w) t e = tt
closed_leaf c t e = absurd e

pub has_leaves : (types : Types) (m : Numbered) → NodesTyped types m → HasLeaves m
has_leaves types (Closed t ss c) typed = closed_leaf c t typed.1
has_leaves types (Use t ss n) typed = tt
has_leaves types (Under t ss b n m) typed = has_leaves types m typed.2
has_leaves types (One t ss f m) typed = has_leaves types m typed.2
has_leaves types (Two t ss f m n) typed = (has_leaves types m typed.2, has_leaves types n typed.3)
has_leaves types (If t ss m n p) typed = (has_leaves types m typed.2, has_leaves types n typed.3, has_leaves types p typed.4)

outcome_of : (a b c d : Type') → Fun a b ≡ Fun c d → b ≡ d
outcome_of a b c d e = cc e

left_of : (a b c d : Type') → Pair a b ≡ Pair c d → a ≡ c
left_of a b c d e = cc e

right_of : (a b c d : Type') → Pair a b ≡ Pair c d → b ≡ d
right_of a b c d e = cc e

closed_type : (i : Imports) (g : List Type') (t u : Type') (c : Term) → ClosedTyped c t → Typed i g c u → u ≡ t
closed_type i g t u terms.Skip is typed = typed ∙ sym is
closed_type i g t u (terms.Lit k w) is typed = typed.0 ∙ sym is
closed_type i g t u c is typed = absurd is

pub node_has : OneType → (i : Imports) (types : Types) (m : Numbered) (ns : List ℕ) (g : List Type') (e : Meaning) (u : Type')
    → NodesTyped types m → InScope ns m → AllStand i types ns g e → Typed i g (meaning e m) u → u ≡ type_of_node m
node_has law i types (Closed t ss c) ns g e u nodes scope all typed = closed_type i g t u c nodes.1 typed
node_has law i types (Use t ss n) ns g e u nodes scope all typed = its_type law i g (types n) u (e n) (all n scope) typed ∙ sym nodes.1
node_has law i types (Under t ss OfFun n m) ns g e u nodes scope all (b, is, typed) =
    let argument : argument_of t ≡ types n = ap argument_of nodes.1 in
    let body =
    node_has law i types m (numbers_inside ss ns ++ n ∷ []) (argument_of t ∷ g) (below n (inside ss e)) b nodes.2 scope.1
    (below_stands i types (numbers_inside ss ns) g (inside ss e) n (argument_of t) argument (inside_stands i types ss ns g e nodes.0 scope.0 all)) typed in
    is ∙ ((λ k. Fun (argument k) (body k)) ∙ sym nodes.1)
node_has law i types (Under t ss (OfNew w) n m) ns g e u nodes scope all (done, wide, typed) =
    node_has law i types m (numbers_inside ss ns ++ n ∷ []) (Var w ∷ g) (below n (inside ss e)) u nodes.2 scope.1
    (below_stands i types (numbers_inside ss ns) g (inside ss e) n (Var w) (sym nodes.1.1) (inside_stands i types ss ns g e nodes.0 scope.0 all)) typed
    ∙ nodes.1.2
node_has law i types (Under t ss (OfArray c w) n m) ns g e u nodes scope all (done, length, wide, typed) =
    node_has law i types m (numbers_inside ss ns ++ n ∷ []) (array_type c w ∷ g) (below n (inside ss e)) u nodes.2 scope.1
    (below_stands i types (numbers_inside ss ns) g (inside ss e) n (array_type c w) (sym nodes.1.1) (inside_stands i types ss ns g e nodes.0 scope.0 all)) typed
    ∙ nodes.1.2
node_has law i types (One t ss OfFst m) ns g e u nodes scope all (b, typed) =
    let inner = node_has law i types m (numbers_inside ss ns) g (inside ss e) (Pair u b) nodes.2 scope.1 (inside_stands i types ss ns g e nodes.0 scope.0 all) typed in
    left_of u b t nodes.1.0 (inner ∙ nodes.1.1)
node_has law i types (One t ss OfSnd m) ns g e u nodes scope all (a, typed) =
    let inner = node_has law i types m (numbers_inside ss ns) g (inside ss e) (Pair a u) nodes.2 scope.1 (inside_stands i types ss ns g e nodes.0 scope.0 all) typed in
    right_of a u nodes.1.0 t (inner ∙ nodes.1.1)
node_has law i types (One t ss OfDeref m) ns g e u nodes scope all (w, is, typed) =
    let inner = node_has law i types m (numbers_inside ss ns) g (inside ss e) (Var w) nodes.2 scope.1 (inside_stands i types ss ns g e nodes.0 scope.0 all) typed in
    let same : Var w ≡ Var nodes.1.0 = inner ∙ nodes.1.2 in
    let number : w ≡ nodes.1.0 = cc same in
    is ∙ (ap Exp number ∙ sym nodes.1.1)
node_has law i types (One t ss OfNot m) ns g e u nodes scope all (w, is, typed) =
    let inner = node_has law i types m (numbers_inside ss ns) g (inside ss e) (Exp w) nodes.2 scope.1 (inside_stands i types ss ns g e nodes.0 scope.0 all) typed in
    is ∙ (inner ∙ (nodes.1.2 ∙ sym nodes.1.1))
node_has law i types (Two t ss OfApp m n) ns g e u nodes scope all (a, typed, other, apart) =
    let inner = node_has law i types m (numbers_inside ss ns) g (inside ss e) (Fun a u) nodes.2 scope.1 (inside_stands i types ss ns g e nodes.0 scope.0 all) typed in
    outcome_of a u (type_of_node n) t (inner ∙ nodes.1)
node_has law i types (Two t ss OfBoth m n) ns g e u nodes scope all (a, b, is, one, other) =
    let there = inside_stands i types ss ns g e nodes.0 scope.0 all in
    let left = node_has law i types m (numbers_inside ss ns) g (inside ss e) a nodes.2 scope.1 there one in
    let right = node_has law i types n (numbers_inside ss ns) g (inside ss e) b nodes.3 scope.2 there other in
    is ∙ ((λ k. Pair (left k) (right k)) ∙ sym nodes.1)
node_has law i types (Two t ss OfSeq m n) ns g e u nodes scope all (done, one, other) =
    node_has law i types n (numbers_inside ss ns) g (inside ss e) u nodes.3 scope.2 (inside_stands i types ss ns g e nodes.0 scope.0 all) other
    ∙ nodes.1.2
node_has law i types (Two t ss OfPar m n) ns g e u nodes scope all typed = typed.0 ∙ sym nodes.1.0
node_has law i types (Two t ss OfWhile m n) ns g e u nodes scope all typed = typed.0 ∙ sym nodes.1.0
node_has law i types (Two t ss OfAssign m n) ns g e u nodes scope all typed = typed.1 ∙ sym nodes.1.1
node_has law i types (Two t ss (OfBin op) m n) ns g e u nodes scope all (w, is, one, other) =
    let inner = node_has law i types m (numbers_inside ss ns) g (inside ss e) (Exp w) nodes.2 scope.1 (inside_stands i types ss ns g e nodes.0 scope.0 all) one in
    let number = same_expression_width w nodes.1.0 (inner ∙ nodes.1.2) in
    is ∙ (ap (λ (v : ℕ). Exp (terms.result_width op v)) number ∙ sym nodes.1.1)
node_has law i types (If t ss m n p) ns g e u nodes scope all (done, one, other, last) =
    node_has law i types n (numbers_inside ss ns) g (inside ss e) u nodes.3 scope.2 (inside_stands i types ss ns g e nodes.0 scope.0 all) other
    ∙ nodes.1.2

-- the terms of supplies have their types under the imports of the whole
module _
    (law : OneType) (types : Types) (i j : ℕ) (m : Numbered) (ns : List ℕ) (env : Supplies) (pl : Placing) (r : Plan) (w : IsWired types i j m ns env pl r)
    (realised : AreRealised types env ns) (differ : NamesDiffer r.imports) where
  pub supply_typed : (k : ℕ) → Contains ns k → Typed r.imports [] (env k).term (types k)
  supply_typed k has = typed_more (env k).plan.imports r.imports among (env k).term [] (types k) (realised k has).suits.typed
    where
      among : (x : Name) (t : Type') → import_type (env k).plan.imports x ≡ Some t → import_type r.imports x ≡ Some t
      among x t is =
          let (y, has_y, named, of) = has_type (env k).plan.imports x t is in
          let (q, at) = place_of (env k).plan.imports y has_y in
          let (there, back) = w.imports k q y has at in
          type_has r.imports differ x y (contains_at r.imports (pl.import k q) y there) named ∙ ap Some of

  -- so a node within has its type, where it has one
  pub type_is : (n : Numbered) (ms : List ℕ) (u : Type') → ((k : ℕ) → Contains ms k → Contains ns k) → NodesTyped types n → InScope ms n
      → Typed r.imports [] (meaning (terms_of env) n) u → u ≡ type_of_node n
  type_is n ms u among nodes scope typed =
      node_has law r.imports types n ms [] (terms_of env) u nodes scope (λ k has. inr (supply_typed k (among k has))) typed
