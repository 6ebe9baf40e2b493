-- The parts, the imports and the result of a checked module are in the ranges that every plan keeps.
--
-- Read first: Ranges of gos_plan; Accepted and Checked of gos_check. A typed term has types with widths, and each number of
-- it a type that is small.
use Rattle.std.specs.Prelude.{◌≡◌, ℕ, zero, suc, ◌≤◌, ◌<◌, ◌^◌, ◌⊎◌, Bool, true, false, not, List, [], ◌∷◌, ◌++◌, All, length, map, nat_eq, if◌then◌else◌, Some, slice_get}
use Rattle.std.specs.Str.{bytes_eq}
use Rattle.std.specs.List.{AllByRecursion, list_all}
use Rattle.std.proofs.Common.{refl, ap, sym, ◌∙◌, subst, arith, inl, inr, true≢false}
use Rattle.std.proofs.lemmas.List.Elements.{All-nil, All-cons}
use Rattle.std.proofs.lemmas.Bool.{eq-eqb, and_parts}
use Rattle.gos_types.specs.declared.widths.TheConstants.{GREATEST_WIDTH}
use Rattle.gos_types.specs.declared.types.Ty.{Ty}
use Rattle.gos_types.specs.Types.{Type', Com, Exp, Var, Pair, Fun, type_of}
use Rattle.gos_types.specs.Handshakes.{handshakes_of}
use Rattle.gos_syntax.specs.Modules.{SeenImport}
use Rattle.gos_model.specs.Terms as terms
use Rattle.gos_model.specs.Terms.{Name, Op, Term}
use Rattle.gos_model.specs.Typing.{Imports, Typed, import_type, IsLength, index_width, array_type}
use Rattle.gos_model.specs.Laws.{NodeHasType}
use Rattle.gos_model.specs.Sources as sources
use Rattle.gos_model.proofs.ArrayLemmas.{length_is_power}
use Rattle.gos_check.specs.declared.linear.Split.{Split}
use Rattle.gos_check.specs.Accepted.{KeepsLimits, AreWritten}
use Rattle.gos_check.specs.Checked.{SeenLinear, IsChecked}
use Rattle.gos_check.specs.Nodes.{Numbered, Closed, Use, Under, One, Two, If, OfFun, OfNew, OfArray, OfFst, OfSnd, OfDeref, OfNot, OfApp, OfBoth, OfSeq, OfPar, OfWhile, OfAssign, OfBin, Meaning, meaning, below, inside, HasTypes, argument_of, bound_type, node_seen}
use Rattle.gos_plan.specs.declared.kinds.Kind.{Kind}
use Rattle.gos_plan.specs.declared.kinds.Kind.TheVariants as declared_kinds
use Rattle.gos_plan.specs.declared.plan.PlanImport.{PlanImport}
use Rattle.gos_plan.specs.Kinds as kinds
use Rattle.gos_plan.specs.Kinds.{Part}
use Rattle.gos_plan.specs.Ranges.{IsSmall, IsInRange, AreInRange}
use Rattle.gos_types.specs.Widths.{IsWidth, HasWidths}
use Rattle.gos_plan.specs.Seen.{part_of, import_of}
use Rattle.gos_compile.specs.Wiring.{Types, type_of_node, answer_bits, with_type, with_sides, with_types, shares, closed_part, binder_part, one_part, two_part, parts_of, import_types, all_types, all_parts}
use Rattle.gos_compile.specs.inner.Walked.{is_plain}

-- a type with widths and few handshakes
abbrev pub IsFine : Type' → Type 0
IsFine t = HasWidths t × (length (handshakes_of t) ≤ 64)

-- The range of a part. What a sequence or a choice ends with has a width, or no bits.
abbrev pub HasRange : Part → Type 0
HasRange kinds.Skip = Unit {0}
HasRange (kinds.Lit w k) = IsWidth w × (k < 2 ^ w)
HasRange (kinds.Seq v) = (v ≡ 0) ⊎ IsWidth v
HasRange kinds.Par = Unit {0}
HasRange (kinds.If v) = (v ≡ 0) ⊎ IsWidth v
HasRange kinds.While = Unit {0}
HasRange (kinds.Op op w) = IsWidth w
HasRange (kinds.Not w) = IsWidth w
HasRange (kinds.Assign w) = IsWidth w
HasRange (kinds.Deref w) = IsWidth w
HasRange (kinds.Local w v) = IsWidth w × (v ≤ GREATEST_WIDTH)
HasRange (kinds.Array w n v) = IsWidth w × IsLength n × (v ≤ GREATEST_WIDTH)
HasRange (kinds.Share t) = IsFine t

-- each type of imports, and each of binders, has widths
abbrev pub ImportsFine : Imports → Type 0
ImportsFine [] = Unit {0}
ImportsFine (i ∷ is) = IsFine i.ty × ImportsFine is

abbrev AreWide : List Type' → Type 0
AreWide [] = Unit {0}
AreWide (a ∷ g) = HasWidths a × AreWide g

bound_wide : (g : List Type') (n : ℕ) (t : Type') → AreWide g → slice_get g n ≡ Some t → HasWidths t
bound_wide [] n t h e = absurd cc
bound_wide (a ∷ g) zero t (w, ws) e = let same : a ≡ t = cc e in subst (λ (u : Type'). HasWidths u) same w
bound_wide (a ∷ g) (suc n) t (w, ws) e = bound_wide g n t ws e

import_wide : (is : Imports) (x : Name) (t : Type') → ImportsFine is → import_type is x ≡ Some t → HasWidths t
import_wide [] x t h e = absurd cc
import_wide (i ∷ is) x t (fine, rest) e = by (bytes_eq i.name x) e (import_wide is x t rest)
  where
    by : (b : Bool) → (if b then Some i.ty else import_type is x) ≡ Some t → (import_type is x ≡ Some t → HasWidths t) → HasWidths t
    by true f other = let same : i.ty ≡ t = cc f in subst (λ (u : Type'). HasWidths u) same fine.0
    by false f other = other f

result_wide : (op : Op) (w : ℕ) → IsWidth w → IsWidth (terms.result_width op w)
result_wide terms.Add w h = h
result_wide terms.Sub w h = h
result_wide terms.And w h = h
result_wide terms.Or w h = h
result_wide terms.Xor w h = h
result_wide terms.Eq w h = (omega arith, omega arith)
result_wide terms.Less w h = (omega arith, omega arith)

-- the index of an array has a width
index_wide : (n : ℕ) → IsLength n → IsWidth (index_width n)
index_wide n is = let (power, least, most) = length_is_power n is in (least, omega (arith, most))

-- the type of a typed term has widths
typed_wide : (i : Imports) (g : List Type') (m : Term) (t : Type') → ImportsFine i → AreWide g → KeepsLimits i g m → Typed i g m t → HasWidths t
typed_wide i g terms.Skip t is gs k h = subst (λ (u : Type'). HasWidths u) (sym h) tt
typed_wide i g (terms.Lit n w) t is gs k (e, width, low) = subst (λ (u : Type'). HasWidths u) (sym e) width
typed_wide i g (terms.Bound n) t is gs k h = bound_wide g n t gs h
typed_wide i g (terms.Import x) t is gs k h = import_wide i x t is h
typed_wide i g (terms.Lam a m) t is gs (small, written, k) (b, e, h) =
    let wide : HasWidths a = written.0 in
    subst (λ (u : Type'). HasWidths u) (sym e) (wide, typed_wide i (a ∷ g) m b is (wide, gs) k h)
typed_wide i g (terms.App m n) t is gs (small, k, l) (a, h, j, apart) = (typed_wide i g m (Fun a t) is gs k h).1
typed_wide i g (terms.Both m n) t is gs (small, k, l) (a, b, e, h, j) =
    subst (λ (u : Type'). HasWidths u) (sym e) (typed_wide i g m a is gs k h, typed_wide i g n b is gs l j)
typed_wide i g (terms.Fst m) t is gs (small, k) (b, h) = (typed_wide i g m (Pair t b) is gs k h).0
typed_wide i g (terms.Snd m) t is gs (small, k) (a, h) = (typed_wide i g m (Pair a t) is gs k h).1
typed_wide i g (terms.Seq m n) t is gs (small, k, l) (d, h, j) = typed_wide i g n t is gs l j
typed_wide i g (terms.Par m n) t is gs k h = subst (λ (u : Type'). HasWidths u) (sym h.0) tt
typed_wide i g (terms.If m n p) t is gs (small, k, l, o) (d, h, j, q) = typed_wide i g n t is gs l j
typed_wide i g (terms.While m n) t is gs k h = subst (λ (u : Type'). HasWidths u) (sym h.0) tt
typed_wide i g (terms.Assign m n) t is gs k h = subst (λ (u : Type'). HasWidths u) (sym h.1) tt
typed_wide i g (terms.Deref m) t is gs (small, k) (w, e, h) = subst (λ (u : Type'). HasWidths u) (sym e) (typed_wide i g m (Var w) is gs k h)
typed_wide i g (terms.New w m) t is gs (small, k) (d, width, h) = typed_wide i (Var w ∷ g) m t is (width, gs) k h
typed_wide i g (terms.NewArray n w m) t is gs (small, k) (d, length, width, h) =
    typed_wide i (array_type n w ∷ g) m t is ((index_wide n length, width), gs) k h
typed_wide i g (terms.Not m) t is gs (small, k) (w, e, h) = subst (λ (u : Type'). HasWidths u) (sym e) (typed_wide i g m (Exp w) is gs k h)
typed_wide i g (terms.Bin op m n) t is gs (small, k, l) (w, e, h, j) =
    subst (λ (u : Type'). HasWidths u) (sym e) (result_wide op w (typed_wide i g m (Exp w) is gs k h))
typed_wide i g m t is gs k h = absurd h

-- the answer's bits, and where there are none
bits_wide : (t : Type') → HasWidths t → (answer_bits t ≡ 0) ⊎ IsWidth (answer_bits t)
bits_wide Com h = inl refl
bits_wide (Exp w) h = inr h
bits_wide (Var w) h = inl refl
bits_wide (Pair a b) h = inl refl
bits_wide (Fun a b) h = inl refl

bits_few : (t : Type') → HasWidths t → answer_bits t ≤ GREATEST_WIDTH
bits_few Com h = omega arith
bits_few (Exp w) h = h.1
bits_few (Var w) h = omega arith
bits_few (Pair a b) h = omega arith
bits_few (Fun a b) h = omega arith

-- what each node adds is in range
abbrev NodesFit : Numbered → Type 0
NodesFit (Closed t ss c) = AllByRecursion HasRange (closed_part c)
NodesFit (Use t ss n) = Unit {0}
NodesFit (Under t ss b n m) = IsFine (bound_type b t) × AllByRecursion HasRange (binder_part b t) × NodesFit m
NodesFit (One t ss f m) = AllByRecursion HasRange (one_part f t) × NodesFit m
NodesFit (Two t ss f m n) = AllByRecursion HasRange (two_part f t (type_of_node n)) × NodesFit m × NodesFit n
NodesFit (If t ss m n p) = HasRange (kinds.If (answer_bits t)) × NodesFit m × NodesFit n × NodesFit p

pub node_typed : NodeHasType → (i : Imports) (g : List Type') (env : Meaning) (m : Numbered) (t : Type') → HasTypes i g env m
    → Typed i g (meaning env m) t → type_of_node m ≡ t
node_typed law i g env (Closed u ss c) t has typed = has ∙ law i g c t typed
node_typed law i g env (Use u ss n) t has typed = has ∙ law i g (env n) t typed
node_typed law i g env (Under u ss b n m) t has typed = has.0 ∙ law i g (meaning env (Under u ss b n m)) t typed
node_typed law i g env (One u ss f m) t has typed = has.0 ∙ law i g (meaning env (One u ss f m)) t typed
node_typed law i g env (Two u ss f m n) t has typed = has.0 ∙ law i g (meaning env (Two u ss f m n)) t typed
node_typed law i g env (If u ss m n p) t has typed = has.0 ∙ law i g (meaning env (If u ss m n p)) t typed

closed_fits : (i : Imports) (g : List Type') (c : Term) (t : Type') → Typed i g c t → AllByRecursion HasRange (closed_part c)
closed_fits i g (terms.Lit k w) t (e, width, low) = ((width, low), tt)
closed_fits i g c t h = (tt, tt)

expression_wide : (i : Imports) (g : List Type') (env : Meaning) (m : Numbered) (w : ℕ) → NodeHasType → ImportsFine i → AreWide g
    → HasTypes i g env m → KeepsLimits i g (meaning env m) → Typed i g (meaning env m) (Exp w) → IsWidth (answer_bits (type_of_node m))
expression_wide i g env m w law is gs has k h =
    subst (λ (u : Type'). IsWidth (answer_bits u)) (sym (node_typed law i g env m (Exp w) has h)) (typed_wide i g (meaning env m) (Exp w) is gs k h)

nodes_fit : NodeHasType → (i : Imports) (g : List Type') (env : Meaning) (m : Numbered) (t : Type') → ImportsFine i → AreWide g → HasTypes i g env m
    → KeepsLimits i g (meaning env m) → Typed i g (meaning env m) t → NodesFit m
nodes_fit law i g env (Closed u ss c) t is gs has k h = closed_fits i g c t h
nodes_fit law i g env (Use u ss n) t is gs has k h = tt
nodes_fit law i g env (Under u ss OfFun n m) t is gs (e, has) (small, written, k) (b, f, h) =
    let wide : HasWidths (argument_of u) = written.0 in
    ((wide, written.1), tt, nodes_fit law i (argument_of u ∷ g) (below n (inside ss env)) m b is (wide, gs) has k h)
nodes_fit law i g env (Under u ss (OfNew w) n m) t is gs (e, has) (small, k) (done, width, h) =
    let body : Term = meaning (below n (inside ss env)) m in
    let same : u ≡ t = e ∙ law i g (terms.New w body) t (done, width, h) in
    let wide : HasWidths t = typed_wide i (Var w ∷ g) body t is (width, gs) k h in
    let few : answer_bits u ≤ GREATEST_WIDTH = subst (λ (v : Type'). answer_bits v ≤ GREATEST_WIDTH) (sym same) (bits_few t wide) in
    ((width, omega arith), ((width, few), tt), nodes_fit law i (Var w ∷ g) (below n (inside ss env)) m t is (width, gs) has k h)
nodes_fit law i g env (Under u ss (OfArray c w) n m) t is gs (e, has) (small, k) (done, length, width, h) =
    let body : Term = meaning (below n (inside ss env)) m in
    let same : u ≡ t = e ∙ law i g (terms.NewArray c w body) t (done, length, width, h) in
    let bound : HasWidths (array_type c w) = (index_wide c length, width) in
    let wide : HasWidths t = typed_wide i (array_type c w ∷ g) body t is (bound, gs) k h in
    let few : answer_bits u ≤ GREATEST_WIDTH = subst (λ (v : Type'). answer_bits v ≤ GREATEST_WIDTH) (sym same) (bits_few t wide) in
    ((bound, omega arith), ((width, length, few), tt), nodes_fit law i (array_type c w ∷ g) (below n (inside ss env)) m t is (bound, gs) has k h)
nodes_fit law i g env (One u ss OfFst m) t is gs (e, has) (small, k) (b, h) = (tt, nodes_fit law i g (inside ss env) m (Pair t b) is gs has k h)
nodes_fit law i g env (One u ss OfSnd m) t is gs (e, has) (small, k) (a, h) = (tt, nodes_fit law i g (inside ss env) m (Pair a t) is gs has k h)
nodes_fit law i g env (One u ss OfDeref m) t is gs (e, has) (small, k) (w, f, h) =
    let part : Term = meaning (inside ss env) m in
    let same : u ≡ Exp w = e ∙ (law i g (terms.Deref part) t (w, f, h) ∙ f) in
    let wide : IsWidth (answer_bits u) = subst (λ (v : Type'). IsWidth (answer_bits v)) (sym same) (typed_wide i g part (Var w) is gs k h) in
    ((wide, tt), nodes_fit law i g (inside ss env) m (Var w) is gs has k h)
nodes_fit law i g env (One u ss OfNot m) t is gs (e, has) (small, k) (w, f, h) =
    let part : Term = meaning (inside ss env) m in
    let same : u ≡ Exp w = e ∙ (law i g (terms.Not part) t (w, f, h) ∙ f) in
    let wide : IsWidth (answer_bits u) = subst (λ (v : Type'). IsWidth (answer_bits v)) (sym same) (typed_wide i g part (Exp w) is gs k h) in
    ((wide, tt), nodes_fit law i g (inside ss env) m (Exp w) is gs has k h)
nodes_fit law i g env (Two u ss OfApp m n) t is gs (e, has, hasn) (small, k, l) (a, h, j, apart) =
    (tt, nodes_fit law i g (inside ss env) m (Fun a t) is gs has k h, nodes_fit law i g (inside ss env) n a is gs hasn l j)
nodes_fit law i g env (Two u ss OfBoth m n) t is gs (e, has, hasn) (small, k, l) (a, b, f, h, j) =
    (tt, nodes_fit law i g (inside ss env) m a is gs has k h, nodes_fit law i g (inside ss env) n b is gs hasn l j)
nodes_fit law i g env (Two u ss OfSeq m n) t is gs (e, has, hasn) (small, k, l) (d, h, j) =
    let same : u ≡ t = e ∙ law i g (terms.Seq (meaning (inside ss env) m) (meaning (inside ss env) n)) t (d, h, j) in
    let wide : HasWidths u = subst (λ (v : Type'). HasWidths v) (sym same) (typed_wide i g (meaning (inside ss env) n) t is gs l j) in
    ((bits_wide u wide, tt), nodes_fit law i g (inside ss env) m Com is gs has k h, nodes_fit law i g (inside ss env) n t is gs hasn l j)
nodes_fit law i g env (Two u ss OfPar m n) t is gs (e, has, hasn) (small, k, l) (f, h, j, apart) =
    ((tt, tt), nodes_fit law i g (inside ss env) m Com is gs has k h, nodes_fit law i g (inside ss env) n Com is gs hasn l j)
nodes_fit law i g env (Two u ss OfWhile m n) t is gs (e, has, hasn) (small, k, l) (f, h, j) =
    ((tt, tt), nodes_fit law i g (inside ss env) m (Exp 1) is gs has k h, nodes_fit law i g (inside ss env) n Com is gs hasn l j)
nodes_fit law i g env (Two u ss OfAssign m n) t is gs (e, has, hasn) (small, k, l) (w, f, h, j) = (
  (expression_wide i g (inside ss env) n w law is gs hasn l j, tt),
  nodes_fit law i g (inside ss env) m (Var w) is gs has k h,
  nodes_fit law i g (inside ss env) n (Exp w) is gs hasn l j,
)
nodes_fit law i g env (Two u ss (OfBin op) m n) t is gs (e, has, hasn) (small, k, l) (w, f, h, j) = (
  (expression_wide i g (inside ss env) n w law is gs hasn l j, tt),
  nodes_fit law i g (inside ss env) m (Exp w) is gs has k h,
  nodes_fit law i g (inside ss env) n (Exp w) is gs hasn l j,
)
nodes_fit law i g env (If u ss m n p) t is gs (e, has, hasn, hasp) (small, k, l, o) (d, h, j, q) =
    let same : u ≡ t =
    e ∙ law i g (terms.If (meaning (inside ss env) m) (meaning (inside ss env) n) (meaning (inside ss env) p)) t (d, h, j, q)
    in
    let wide : HasWidths u = subst (λ (v : Type'). HasWidths v) (sym same) (typed_wide i g (meaning (inside ss env) n) t is gs l j) in (
      bits_wide u wide,
      nodes_fit law i g (inside ss env) m (Exp 1) is gs has k h,
      nodes_fit law i g (inside ss env) n t is gs hasn l j,
      nodes_fit law i g (inside ss env) p t is gs hasp o q,
    )

-- the type of each number is fine
abbrev TypesFine : Types → Type 0
TypesFine types = (k : ℕ) → IsFine (types k)

type_fine : (n : ℕ) (t : Type') (types : Types) → IsFine t → TypesFine types → TypesFine (with_type n t types)
type_fine n t types fine all k = by (nat_eq k n)
  where
    by : (b : Bool) → IsFine (if b then t else types k)
    by true = fine
    by false = all k

sides_fine : (ss : List Split) (types : Types) → TypesFine types → TypesFine (with_sides ss types)
sides_fine [] types all = all
sides_fine (s ∷ ss) types all =
    sides_fine ss (with_type s.left (types s.of) (with_type s.right (types s.of) types))
    (type_fine s.left (types s.of) (with_type s.right (types s.of) types) (all s.of) (type_fine s.right (types s.of) types (all s.of) all))

types_fine : (m : Numbered) (types : Types) → NodesFit m → TypesFine types → TypesFine (with_types m types)
types_fine (Closed t ss c) types fit all = sides_fine ss types all
types_fine (Use t ss n) types fit all = sides_fine ss types all
types_fine (Under t ss b n m) types (fine, own, fit) all =
    types_fine m (with_type n (bound_type b t) (with_sides ss types)) fit
    (type_fine n (bound_type b t) (with_sides ss types) fine (sides_fine ss types all))
types_fine (One t ss f m) types (own, fit) all = types_fine m (with_sides ss types) fit (sides_fine ss types all)
types_fine (Two t ss f m n) types (own, fit, fitn) all =
    types_fine n (with_types m (with_sides ss types)) fitn (types_fine m (with_sides ss types) fit (sides_fine ss types all))
types_fine (If t ss m n p) types (own, fit, fitn, fitp) all =
    types_fine p (with_types n (with_types m (with_sides ss types))) fitp
    (types_fine n (with_types m (with_sides ss types)) fitn (types_fine m (with_sides ss types) fit (sides_fine ss types all)))

imports_fine : (is : Imports) → ImportsFine is → TypesFine (import_types is)
imports_fine [] all k = (tt, omega arith)
imports_fine (i ∷ is) (fine, rest) zero = fine
imports_fine (i ∷ is) (fine, rest) (suc k) = imports_fine is rest k

-- and so each part is in range
both_range : (ks ls : List Part) → AllByRecursion HasRange ks → AllByRecursion HasRange ls → AllByRecursion HasRange (ks ++ ls)
both_range [] ls h j = j
both_range (k ∷ ks) ls (r, h) j = (r, both_range ks ls h j)

shares_range : (ss : List Split) (types : Types) → TypesFine types → AllByRecursion HasRange (shares ss types)
shares_range [] types all = tt
shares_range (s ∷ ss) types all = (all s.of, shares_range ss types all)

parts_range : (m : Numbered) (types : Types) → TypesFine types → NodesFit m → AllByRecursion HasRange (parts_of types m)
parts_range (Closed t ss c) types all fit = both_range (shares ss types) (closed_part c) (shares_range ss types all) fit
parts_range (Use t ss n) types all fit = shares_range ss types all
parts_range (Under t ss b n m) types all (fine, own, fit) =
    both_range (shares ss types) (binder_part b t ++ parts_of types m) (shares_range ss types all)
    (both_range (binder_part b t) (parts_of types m) own (parts_range m types all fit))
parts_range (One t ss f m) types all (own, fit) =
    both_range (shares ss types) (one_part f t ++ parts_of types m) (shares_range ss types all)
    (both_range (one_part f t) (parts_of types m) own (parts_range m types all fit))
parts_range (Two t ss f m n) types all (own, fit, fitn) =
    both_range (shares ss types) (two_part f t (type_of_node n) ++ (parts_of types m ++ parts_of types n)) (shares_range ss types all)
    (both_range (two_part f t (type_of_node n)) (parts_of types m ++ parts_of types n) own
    (both_range (parts_of types m) (parts_of types n) (parts_range m types all fit) (parts_range n types all fitn)))
parts_range (If t ss m n p) types all (own, fit, fitn, fitp) =
    both_range (shares ss types) (kinds.If (answer_bits t) ∷ (parts_of types m ++ (parts_of types n ++ parts_of types p))) (shares_range ss types all) (
      own,
      both_range (parts_of types m) (parts_of types n ++ parts_of types p) (parts_range m types all fit)
          (both_range (parts_of types n) (parts_of types p) (parts_range n types all fitn) (parts_range p types all fitp)),
    )

-- the program's kinds
not_none : (w : ℕ) → not (nat_eq w 0) ≡ true → (w ≡ 0) ⊎ IsWidth w → IsWidth w
not_none w plain (inl e) = absurd (true≢false (sym plain ∙ ap (λ (b : Bool). not b) (eq-eqb w 0 e)))
not_none w plain (inr h) = h

kind_range : (k : Kind) → is_plain k ≡ true → HasRange (part_of k) → IsInRange k
kind_range declared_kinds.Skip p h = tt
kind_range (declared_kinds.Lit w k) p h = h
kind_range declared_kinds.Seq p h = tt
kind_range (declared_kinds.SeqExp w) p h = not_none w p h
kind_range declared_kinds.Par p h = tt
kind_range declared_kinds.If p h = tt
kind_range (declared_kinds.IfExp w) p h = not_none w p h
kind_range declared_kinds.While p h = tt
kind_range (declared_kinds.Op op w) p h = h
kind_range (declared_kinds.Not w) p h = h
kind_range (declared_kinds.Assign w) p h = h
kind_range (declared_kinds.Deref w) p h = h
kind_range (declared_kinds.Local w v) p h = h
kind_range (declared_kinds.Array w n v) p h = h
kind_range (declared_kinds.Share t) p h = h

kinds_range : (ks : List Kind) → list_all is_plain ks ≡ true → AllByRecursion HasRange (map part_of ks) → All IsInRange ks
kinds_range [] p h = All-nil IsInRange
kinds_range (k ∷ ks) p (r, h) =
    let (one, rest) = and_parts (is_plain k) (list_all is_plain ks) p in
    All-cons IsInRange k ks (kind_range k one r) (kinds_range ks rest h)

-- the program's imports
pub written_fine : (is : List SeenImport) → AreWritten is → ImportsFine (map sources.import_of is)
written_fine [] h = tt
written_fine (i ∷ is) (w, h) = (w, written_fine is h)

pub imports_range : (is : List PlanImport) → ImportsFine (map import_of is) → All (λ (i : PlanImport). IsSmall i.ty) is
imports_range [] h = All-nil (λ (i : PlanImport). IsSmall i.ty)
imports_range (i ∷ is) (fine, h) = All-cons (λ (i : PlanImport). IsSmall i.ty) i is fine (imports_range is h)

-- the parts of a checked module are in range
pub checked_range : NodeHasType → (l : SeenLinear) → IsChecked l → AllByRecursion HasRange (all_parts (map sources.import_of l.imports) (node_seen l.term))
checked_range law l c =
    let is : Imports = map sources.import_of l.imports in
    let m : Numbered = node_seen l.term in
    let fine : ImportsFine is = written_fine l.imports c.imports in
    let fit : NodesFit m = nodes_fit law is [] _ m (type_of l.result) fine tt c.term.types c.limits c.typed in
    parts_range m (all_types is m) (types_fine m (import_types is) fit (imports_fine is fine)) fit

pub in_range : NodeHasType → (l : SeenLinear) → IsChecked l → (imports : List PlanImport) (outcome : Ty) (parts : List Kind)
    → map import_of imports ≡ map sources.import_of l.imports → type_of outcome ≡ type_of l.result
    → map part_of parts ≡ all_parts (map sources.import_of l.imports) (node_seen l.term) → list_all is_plain parts ≡ true
    → AreInRange imports outcome parts
in_range law l c imports outcome parts same_imports same_outcome same_parts plain =
    record {
      of_imports = imports_range imports (subst (λ (is : Imports). ImportsFine is) (sym same_imports) (written_fine l.imports c.imports));
      of_result = subst (λ (t : Type'). IsFine t) (sym same_outcome) c.result;
      of_parts = kinds_range parts plain (subst (λ (ks : List Part). AllByRecursion HasRange ks) (sym same_parts) (checked_range law l c));
    }
