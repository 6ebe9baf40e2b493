-- The term of a node has the node's type, where what its numbers stand for has theirs.
use Rattle.std.specs.Prelude.{◌≡◌, ℕ, zero, suc, Bool, true, false, List, [], ◌∷◌, ◌++◌, ◌⊎◌, ◌||◌, Some, Contains, nat_eq, slice_get, if◌then◌else◌}
use Rattle.std.specs.Str.{bytes_eq}
use Rattle.std.proofs.Common.{refl, sym, ◌∙◌, ap, subst, arith, inl, inr}
use Rattle.std.proofs.lemmas.List.Elements.{Contains-append_cases}
use Rattle.std.proofs.lemmas.Slice.Eq.{bytes_eq-Decides}
use Rattle.std.proofs.lemmas.Bool.{eqb-true, eq-eqb}
use Rattle.gos_types.specs.Types.{Type', Exp, Var, Pair, Fun}
use Rattle.gos_types.proofs.ListLemmas.{found_in_front}
use Rattle.gos_model.specs.Terms as terms
use Rattle.gos_model.specs.Terms.{Term, Name}
use Rattle.gos_model.specs.Typing.{Imports, import_type, Named, things, array_type, Typed}
use Rattle.gos_model.specs.Weight.{node_type, or_com, after_fun, left_of, right_of, read_of, op_type}
use Rattle.gos_check.specs.declared.linear.Split.{Split}
use Rattle.gos_check.specs.Nodes.{Numbered, Closed, Use, Under, One, Two, If, OfFun, OfNew, OfArray, OneForm, OfFst, OfSnd, OfDeref, OfNot, TwoForm, OfApp, OfBoth, OfSeq, OfPar, OfWhile, OfAssign, OfBin, Meaning, argument_of, shifted, below, inside_one, inside, meaning, one_term, two_term, type_of_node}
use Rattle.gos_plan.specs.Plans.{Plan}
use Rattle.gos_realises.specs.realises.Realises.{NamesDiffer}
use Rattle.gos_realises.proofs.realises.PlaceLemmas.{contains_at, place_of}
use Rattle.gos_joining.proofs.renumbered.ImportLemmas.{type_has}
use Rattle.gos_supplies.proofs.typing.WhenceLemmas.{named}
use Rattle.gos_supplies.proofs.typing.NameLemmas.{typed_under_fewer}
use Rattle.gos_compile.specs.Wiring.{Types}
use Rattle.gos_compile.specs.Typed.{SidesTyped, ClosedTyped, OneTyped, TwoTyped, NodesTyped}
use Rattle.gos_terms.specs.stages.Inside.{AreSplit, numbers_inside}
use Rattle.gos_terms.specs.wired.Wired.{Supplies, Placing, IsWired, AreRealised, terms_of}
use Rattle.gos_terms.proofs.meanings.StillLemmas.{shift_still}
use Rattle.gos_terms.specs.numbers.Kept.{InScope}

module _ (i : Imports) where
  -- more binders around a typed term change nothing of its type
  more_around : (g h : List Type') (m : Term) (t : Type') → Typed i h m t → node_type i (h ++ g) m ≡ t
  more_around g h terms.Skip t typed = sym typed
  more_around g h (terms.Lit k w) t typed = sym typed.0
  more_around g h (terms.Bound n) t typed = ap or_com (found_in_front h g n t typed)
  more_around g h (terms.Import x) t typed = ap or_com typed
  more_around g h (terms.Lam a m) t (b, e, typed) = ap (λ (c : Type'). Fun a c) (more_around g (a ∷ h) m b typed) ∙ sym e
  more_around g h (terms.App m n) t (a, typed, other, apart) = ap after_fun (more_around g h m (Fun a t) typed)
  more_around g h (terms.Both m n) t (a, b, e, typed, other) =
      ap (λ (c : Type'). Pair c (node_type i (h ++ g) n)) (more_around g h m a typed)
      ∙ (ap (λ (c : Type'). Pair a c) (more_around g h n b other) ∙ sym e)
  more_around g h (terms.Fst m) t (b, typed) = ap left_of (more_around g h m (Pair t b) typed)
  more_around g h (terms.Snd m) t (a, typed) = ap right_of (more_around g h m (Pair a t) typed)
  more_around g h (terms.Seq m n) t (done, typed, other) = more_around g h n t other
  more_around g h (terms.Par m n) t typed = sym typed.0
  more_around g h (terms.If m n p) t (done, typed, other, last) = more_around g h n t other
  more_around g h (terms.While m n) t typed = sym typed.0
  more_around g h (terms.Assign m n) t typed = sym typed.1
  more_around g h (terms.Deref m) t (w, e, typed) = ap read_of (more_around g h m (Var w) typed) ∙ sym e
  more_around g h (terms.New w m) t (done, wide, typed) = more_around g (Var w ∷ h) m t typed
  more_around g h (terms.NewArray n w m) t (done, length, wide, typed) = more_around g (array_type n w ∷ h) m t typed
  more_around g h (terms.Not m) t (w, e, typed) = more_around g h m (Exp w) typed ∙ sym e
  more_around g h (terms.Bin op m n) t (w, e, typed, other) = ap (op_type op) (more_around g h m (Exp w) typed) ∙ sym e
  more_around g h (terms.Loc l) t typed = absurd typed
  more_around g h (terms.Arr l) t typed = absurd typed
  more_around g h (terms.Scope l m) t typed = absurd typed
  more_around g h (terms.Wait x s) t typed = absurd typed
  more_around g h (terms.Held k op m) t typed = absurd typed
  more_around g h (terms.Put m k) t typed = absurd typed

  -- a bound variable of this type, or a closed term
  abbrev pub IsOf : List Type' → Term → Type' → Type 0
  IsOf g m t = ((j : ℕ) × (m ≡ terms.Bound j) × (slice_get g j ≡ Some t)) ⊎ Typed i [] m t

  pub known : (g : List Type') (m : Term) (t : Type') → IsOf g m t → node_type i g m ≡ t
  known g m t (inl (j, e, at)) = ap (node_type i g) e ∙ ap or_com at
  known g m t (inr typed) = more_around g [] m t typed

  further : (b : Type') (g : List Type') (m : Term) (t : Type') → IsOf g m t → IsOf (b ∷ g) (shifted m) t
  further b g m t (inl (j, e, at)) = inl (suc j, ap shifted e, at)
  further b g m t (inr typed) = inr (subst (λ (x : Term). Typed i [] x t) (sym (shift_still i m t typed)) typed)

  module _ (types : Types) where
    -- what stands for these numbers has their types
    abbrev pub HaveTypes : List Type' → List ℕ → Meaning → Type 0
    HaveTypes g ns e = (k : ℕ) → Contains ns k → IsOf g (e k) (types k)

    in_list : (ns : List ℕ) (k n : ℕ) → nat_eq k n ≡ false → Contains (n ∷ ns) k → Contains ns k
    in_list ns k n apart (zero, small, e) = absurd (cc (sym (eq-eqb k n (sym e)) ∙ apart))
    in_list ns k n apart (suc j, small, e) = (j, omega (arith, small), e)

    -- a side of a split has the type of what is split
    one_inside : (g : List Type') (s : Split) (ns : List ℕ) (e : Meaning) → types s.left ≡ types s.of → types s.right ≡ types s.of → Contains ns s.of
        → HaveTypes g ns e → (k : ℕ) → Contains (s.left ∷ s.right ∷ ns) k → (a b : Bool) → nat_eq k s.left ≡ a → nat_eq k s.right ≡ b
        → IsOf g (if a || b then e s.of else e k) (types k)
    one_inside g s ns e left right source have k has true b is_left is_right =
        subst (λ (t : Type'). IsOf g (e s.of) t) (sym left ∙ ap types (sym (eqb-true k s.left is_left))) (have s.of source)
    one_inside g s ns e left right source have k has false true is_left is_right =
        subst (λ (t : Type'). IsOf g (e s.of) t) (sym right ∙ ap types (sym (eqb-true k s.right is_right))) (have s.of source)
    one_inside g s ns e left right source have k has false false is_left is_right =
        have k (in_list ns k s.right is_right (in_list (s.right ∷ ns) k s.left is_left has))

    pub inside_types : (g : List Type') (ss : List Split) (ns : List ℕ) (e : Meaning)
        → SidesTyped types ss → AreSplit ss ns → HaveTypes g ns e → HaveTypes g (numbers_inside ss ns) (inside ss e)
    inside_types g [] ns e agree split have = have
    inside_types g (s ∷ ss) ns e (left, right, agree) (source, split) have =
        inside_types g ss (s.left ∷ s.right ∷ ns) (inside_one s e) agree split
        (λ k has. one_inside g s ns e left right source have k has (nat_eq k s.left) (nat_eq k s.right) refl refl)

    -- and what a binder binds has its type
    one_below : (b : Type') (g : List Type') (n : ℕ) (ns : List ℕ) (e : Meaning) → b ≡ types n → HaveTypes g ns e
        → (k : ℕ) → Contains (ns ++ n ∷ []) k → (a : Bool) → nat_eq k n ≡ a → IsOf (b ∷ g) (if a then terms.Bound 0 else shifted (e k)) (types k)
    one_below b g n ns e same have k has true is = inl (0, refl, ap Some (same ∙ ap types (sym (eqb-true k n is))))
    one_below b g n ns e same have k has false is = further b g (e k) (types k) (have k (by_list (Contains-append_cases ns (n ∷ []) k has)))
      where
        none : Contains [] k → Contains ns k
        none (j, small, at) = absurd (omega (arith, small))

        by_list : Contains ns k ⊎ Contains (n ∷ []) k → Contains ns k
        by_list (inl h) = h
        by_list (inr h) = none (in_list [] k n is h)

    below_types : (b : Type') (g : List Type') (n : ℕ) (ns : List ℕ) (e : Meaning)
        → b ≡ types n → HaveTypes g ns e → HaveTypes (b ∷ g) (ns ++ n ∷ []) (below n e)
    below_types b g n ns e same have k has = one_below b g n ns e same have k has (nat_eq k n) refl

    closed_type : (g : List Type') (c : Term) (t : Type') → ClosedTyped c t → node_type i g c ≡ t
    closed_type g terms.Skip t h = sym h
    closed_type g (terms.Lit k w) t h = sym h
    closed_type g c t h = absurd h

    one_type : (g : List Type') (f : OneForm) (t u : Type') (x : Term) → OneTyped f t u → node_type i g x ≡ u → node_type i g (one_term f x) ≡ t
    one_type g OfFst t u x (b, e) h = ap left_of (h ∙ e)
    one_type g OfSnd t u x (a, e) h = ap right_of (h ∙ e)
    one_type g OfDeref t u x (w, et, eu) h = ap read_of (h ∙ eu) ∙ sym et
    one_type g OfNot t u x (w, et, eu) h = h ∙ (eu ∙ sym et)

    two_type : (g : List Type') (f : TwoForm) (t u v : Type') (x y : Term)
        → TwoTyped f t u v → node_type i g x ≡ u → node_type i g y ≡ v → node_type i g (two_term f x y) ≡ t
    two_type g OfApp t u v x y e h k = ap after_fun (h ∙ e)
    two_type g OfBoth t u v x y e h k = ap (λ (c : Type'). Pair c (node_type i g y)) h ∙ (ap (λ (c : Type'). Pair u c) k ∙ sym e)
    two_type g OfSeq t u v x y (done, eu, ev) h k = k ∙ ev
    two_type g OfPar t u v x y (e, eu, ev) h k = sym e
    two_type g OfWhile t u v x y (e, eu, ev) h k = sym e
    two_type g OfAssign t u v x y (w, e, eu, ev) h k = sym e
    two_type g (OfBin op) t u v x y (w, e, eu, ev) h k = ap (op_type op) (h ∙ eu) ∙ sym e

    pub type_is : (m : Numbered) (g : List Type') (ns : List ℕ) (e : Meaning)
        → NodesTyped types m → InScope ns m → HaveTypes g ns e → node_type i g (meaning e m) ≡ type_of_node m
    type_is (Closed t ss c) g ns e (agree, typed) scope have = closed_type g c t typed
    type_is (Use t ss n) g ns e (agree, same) scope have = known g (e n) (types n) (have n scope) ∙ sym same
    type_is (Under t ss OfFun n m) g ns e (agree, same, typed) (split, scope) have =
        ap (λ (c : Type'). Fun (argument_of t) c)
        (type_is m (argument_of t ∷ g) (numbers_inside ss ns ++ n ∷ []) (below n (inside ss e)) typed scope
        (below_types (argument_of t) g n (numbers_inside ss ns) (inside ss e) (ap argument_of same) (inside_types g ss ns e agree split have)))
        ∙ (ap (λ (c : Type'). Fun c (type_of_node m)) (ap argument_of same) ∙ sym same)
    type_is (Under t ss (OfNew w) n m) g ns e (agree, (done, wide, same), typed) (split, scope) have =
        type_is m (Var w ∷ g) (numbers_inside ss ns ++ n ∷ []) (below n (inside ss e)) typed scope
        (below_types (Var w) g n (numbers_inside ss ns) (inside ss e) (sym wide) (inside_types g ss ns e agree split have))
        ∙ same
    type_is (Under t ss (OfArray c w) n m) g ns e (agree, (done, wide, same), typed) (split, scope) have =
        type_is m (array_type c w ∷ g) (numbers_inside ss ns ++ n ∷ []) (below n (inside ss e)) typed scope
        (below_types (array_type c w) g n (numbers_inside ss ns) (inside ss e) (sym wide) (inside_types g ss ns e agree split have))
        ∙ same
    type_is (One t ss f m) g ns e (agree, row, typed) (split, scope) have =
        one_type g f t (type_of_node m) (meaning (inside ss e) m) row
        (type_is m g (numbers_inside ss ns) (inside ss e) typed scope (inside_types g ss ns e agree split have))
    type_is (Two t ss f m n) g ns e (agree, row, typed, other) (split, scope, beside) have =
        two_type g f t (type_of_node m) (type_of_node n) (meaning (inside ss e) m) (meaning (inside ss e) n) row
        (type_is m g (numbers_inside ss ns) (inside ss e) typed scope (inside_types g ss ns e agree split have))
        (type_is n g (numbers_inside ss ns) (inside ss e) other beside (inside_types g ss ns e agree split have))
    type_is (If t ss m n p) g ns e (agree, (done, test, same, last), typed, other, third) (split, scope, beside, behind) have =
        type_is n g (numbers_inside ss ns) (inside ss e) other beside (inside_types g ss ns e agree split have) ∙ same

-- What the numbers of a wired node stand for has their types under the imports of its plan.
pub supplies_have : (types : Types) (i j : ℕ) (m : Numbered) (ns : List ℕ) (env : Supplies) (pl : Placing) (r : Plan) → IsWired types i j m ns env pl r
    → AreRealised types env ns → NamesDiffer r.imports → HaveTypes r.imports types [] ns (terms_of env)
supplies_have types i j m ns env pl r w realised differ k has =
    inr (typed_under_fewer (env k).plan.imports r.imports [] (env k).term (types k) agree (realised k has).suits.typed)
  where
    agree : (x : Name) → Contains (things 0 (env k).term) (Named x) → import_type r.imports x ≡ import_type (env k).plan.imports x
    agree x free =
        let name = named (env k).plan.imports (Named x) (env k).term 0 [] (types k) (omega arith) (realised k has).suits.typed free in
        let (q, at_q) = place_of (env k).plan.imports name.import name.has in
        let is_x : bytes_eq name.import.name x ≡ true = (bytes_eq-Decides name.import.name x).1 (sym (cc (name.same))) in
        let there = w.imports k q name.import has at_q in
        type_has r.imports differ x name.import (contains_at r.imports (pl.import k q) name.import there.0) is_x
        ∙ sym (type_has (env k).plan.imports (realised k has).suits.names x name.import name.has is_x)
