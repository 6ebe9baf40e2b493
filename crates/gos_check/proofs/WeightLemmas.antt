-- A term that is judged has the type that weighs it.
use Rattle.std.specs.Prelude.{◌≡◌, ℕ, ◌+◌, List, [], ◌∷◌, Bool, true, false, Option, Some, None, Ok, map, slice_get, if◌then◌else◌, ◌*◌, ◌≤◌, length, sum_by}
use Rattle.std.specs.Str.{bytes_eq}
use Rattle.std.proofs.Common.{arith, refl, ap, ◌∙◌, subst}
use Rattle.std.proofs.lemmas.List.Sums.{sum_by-cons}
use Rattle.gos_lex.specs.declared.token.Span.{Span}
use Rattle.gos_types.specs.Types.{Type', Com, Var, Pair, Fun, type_of}
use Rattle.gos_syntax.specs.Modules.{SeenImport}
use Rattle.gos_syntax.specs.Trees.{Tree, Skip, Lit, Use, Lam, New, Array, App, Both, Fst, Snd, Seq, Par, If, While, Assign, Deref, Not, Bin}
use Rattle.gos_model.specs.Terms.{Name}
use Rattle.gos_model.specs.Typing.{Imports, import_type, array_type}
use Rattle.gos_model.specs.Weight.{count, or_com, after_fun, left_of, right_of, read_of, op_type, node_type, nodes_weight}
use Rattle.gos_model.specs.Sources.{import_of, term_of, binder_of, bound_or_import, one_further, op_of}
use Rattle.gos_syntax.specs.Sizes.{size}
use Rattle.gos_check.specs.Faults.{Found, after}
use Rattle.gos_check.specs.Written.{literal, written, written_width, written_length}
use Rattle.gos_check.specs.Scopes.{Binder, Binders, type_at, used}
use Rattle.gos_check.specs.Demands.{application, first_side, second_side, sequence, parallel, choice, looping, assignment, reading, negation, operation, done}
use Rattle.gos_check.specs.Judging.{place_of, separate, judged}
use Rattle.gos_check.specs.inner.Walked.{names_of, types_of, weight_of, parts_weight}
use Rattle.gos_check.proofs.SizeLemmas.{size_below_count}
use Rattle.gos_check.proofs.FoundLemmas.{after_is, sized_is, done_is, two_is, three_is, separate_is}
use Rattle.gos_check.proofs.RuleLemmas.{ok_is}
use Rattle.gos_check.proofs.DemandLemmas.{used_is, literal_is, application_is, first_is, second_is, sequence_is, parallel_is, choice_is, looping_is, assignment_is, reading_is, negation_is, operation_is}

-- the type of a name with this binder, or with none
abbrev pub looked_up : Imports → List Type' → Name → Option ℕ → Option Type'
looked_up i types x None = import_type i x
looked_up i types x (Some n) = slice_get types n

looked_further : (i : Imports) (types : List Type') (t : Type') (x : Name) (o : Option ℕ)
    → looked_up i (t ∷ types) x (one_further o) ≡ looked_up i types x o
looked_further i types t x None = refl
looked_further i types t x (Some n) = refl

looked_at : (i : Imports) (b : Binder) (g : Binders) (x : Name) (test : Bool)
    → looked_up i (types_of g) x (binder_of (names_of g) x) ≡ type_at i g x
    → looked_up i (b.ty ∷ types_of g) x (if test then Some 0 else one_further (binder_of (names_of g) x)) ≡ (if test then Some b.ty else type_at i g x)
looked_at i b g x true h = refl
looked_at i b g x false h = looked_further i (types_of g) b.ty x (binder_of (names_of g) x) ∙ h

-- the number of a name's binder leads to the name's type
pub type_there : (i : Imports) (g : Binders) (x : Name) → looked_up i (types_of g) x (binder_of (names_of g) x) ≡ type_at i g x
type_there i [] x = refl
type_there i (b ∷ g) x = looked_at i b g x (bytes_eq b.name x) (type_there i g x)

use_type : (i : Imports) (types : List Type') (x : Name) (o : Option ℕ) → node_type i types (bound_or_import x o) ≡ or_com (looked_up i types x o)
use_type i types x None = refl
use_type i types x (Some n) = refl

-- what is asked of a block with an array behind its length
abbrev pub array_rule : Imports → Binders → Name → ℕ → ℕ → Span → Tree → Unit {0} → Found Type'
array_rule i g x n w wt m _ =
    after (written_width wt w) (λ _. after (judged i (record { name = x; ty = array_type n w } ∷ g) m) (λ b. done (place_of m) b))

-- the type that weighs a term that is judged is its type
pub judged_type : (i : Imports) (g : Binders) (tree : Tree) (t : Type') → judged i g tree ≡ Ok t
    → node_type i (types_of g) (term_of (names_of g) tree) ≡ t
judged_type i g (Skip s) t h = ok_is Com t (sized_is s (Ok Com) t h).0
judged_type i g (Lit s k w) t h = literal_is s k w t (sized_is s (literal s k w) t h).0
judged_type i g (Use s x) t h =
    use_type i (types_of g) x (binder_of (names_of g) x) ∙ ap or_com (type_there i g x ∙ used_is s x (type_at i g x) t (sized_is s (used s x (type_at i g x)) t h).0)
judged_type i g (Lam s x a at m) t h =
    let p = after_is (written at a) _ t (sized_is s _ t h).0 in
    let q = after_is (judged i (record { name = x; ty = a } ∷ g) m) (λ b. Ok (Fun a b)) t p.2 in
    ap (λ b. Fun a b) (judged_type i (record { name = x; ty = a } ∷ g) m q.0 q.1) ∙ ok_is (Fun a q.0) t q.2
judged_type i g (New s x w wt m) t h =
    let p = after_is (written_width wt w) _ t (sized_is s _ t h).0 in
    let q = after_is (judged i (record { name = x; ty = Var w } ∷ g) m) (λ b. done (place_of m) b) t p.2 in
    judged_type i (record { name = x; ty = Var w } ∷ g) m q.0 q.1 ∙ (done_is (place_of m) q.0 t q.2).1
judged_type i g (Array s x n u w wt m) t h =
    let e = sized_is s (after (written_length u n) (array_rule i g x n w wt m)) t h in
    let o = after_is (written_length u n) (array_rule i g x n w wt m) t e.0 in
    let p = after_is (written_width wt w) (λ _. after (judged i (record { name = x; ty = array_type n w } ∷ g) m) (λ b. done (place_of m) b)) t o.2 in
    let q = after_is (judged i (record { name = x; ty = array_type n w } ∷ g) m) (λ b. done (place_of m) b) t p.2 in
    judged_type i (record { name = x; ty = array_type n w } ∷ g) m q.0 q.1 ∙ (done_is (place_of m) q.0 t q.2).1
judged_type i g (App s m n) t h =
    let p = two_is (judged i g m) (judged i g n) (λ a b. separate m n (application (place_of m) a (place_of n) b)) t (sized_is s _ t h).0 in
    let q = separate_is m n (application (place_of m) p.0 (place_of n) p.1) t p.4 in
    ap after_fun (judged_type i g m p.0 p.2 ∙ application_is (place_of m) p.0 (place_of n) p.1 t q.0)
judged_type i g (Both s m n) t h =
    let p = two_is (judged i g m) (judged i g n) (λ a b. Ok (Pair a b)) t (sized_is s _ t h).0 in
    ap (λ x. Pair x (node_type i (types_of g) (term_of (names_of g) n))) (judged_type i g m p.0 p.2) ∙ ap (λ x. Pair p.0 x) (judged_type i g n p.1 p.3) ∙ ok_is (Pair p.0 p.1) t p.4
judged_type i g (Fst s m) t h =
    let p = after_is (judged i g m) (λ a. first_side (place_of m) a) t (sized_is s _ t h).0 in
    ap left_of (judged_type i g m p.0 p.1 ∙ (first_is (place_of m) p.0 t p.2).1)
judged_type i g (Snd s m) t h =
    let p = after_is (judged i g m) (λ a. second_side (place_of m) a) t (sized_is s _ t h).0 in
    ap right_of (judged_type i g m p.0 p.1 ∙ (second_is (place_of m) p.0 t p.2).1)
judged_type i g (Seq s m n) t h =
    let p = two_is (judged i g m) (judged i g n) (λ a b. sequence (place_of m) a (place_of n) b) t (sized_is s _ t h).0 in
    judged_type i g n p.1 p.3 ∙ (sequence_is (place_of m) p.0 (place_of n) p.1 t p.4).2
judged_type i g (Par s m n) t h =
    let p = two_is (judged i g m) (judged i g n) (λ a b. separate m n (parallel (place_of m) a (place_of n) b)) t (sized_is s _ t h).0 in
    let q = separate_is m n (parallel (place_of m) p.0 (place_of n) p.1) t p.4 in
    let r = parallel_is (place_of m) p.0 (place_of n) p.1 t q.0 in
    r.1 ∙ r.2
judged_type i g (If s m n o) t h =
    let p = three_is (judged i g m) (judged i g n) (judged i g o) (λ a b c. choice (place_of m) a (place_of n) b (place_of o) c) t (sized_is s _ t h).0 in
    let q = choice_is (place_of m) p.0 (place_of n) p.1 (place_of o) p.2 t p.6 in
    judged_type i g n p.1 p.4 ∙ q.2 ∙ q.3
judged_type i g (While s m n) t h =
    let p = two_is (judged i g m) (judged i g n) (λ a b. looping (place_of m) a (place_of n) b) t (sized_is s _ t h).0 in
    let q = looping_is (place_of m) p.0 (place_of n) p.1 t p.4 in
    q.1 ∙ q.2
judged_type i g (Assign s m n) t h =
    let p = two_is (judged i g m) (judged i g n) (λ a b. assignment (place_of m) a (place_of n) b) t (sized_is s _ t h).0 in
    (assignment_is (place_of m) p.0 (place_of n) p.1 t p.4).3
judged_type i g (Deref s m) t h =
    let p = after_is (judged i g m) (λ a. reading (place_of m) a) t (sized_is s _ t h).0 in
    let q = reading_is (place_of m) p.0 t p.2 in
    ap read_of (judged_type i g m p.0 p.1 ∙ q.1) ∙ q.2
judged_type i g (Not s m) t h =
    let p = after_is (judged i g m) (λ a. negation (place_of m) a) t (sized_is s _ t h).0 in
    let q = negation_is (place_of m) p.0 t p.2 in
    judged_type i g m p.0 p.1 ∙ q.1 ∙ q.2
judged_type i g (Bin s op m n) t h =
    let p = two_is (judged i g m) (judged i g n) (λ a b. operation op (place_of m) a (place_of n) b) t (sized_is s _ t h).0 in
    let q = operation_is op (place_of m) p.0 (place_of n) p.1 t p.4 in
    ap (op_type (op_of op)) (judged_type i g m p.0 p.2 ∙ q.1) ∙ q.3

use_weight : (i : Imports) (types : List Type') (x : Name) (o : Option ℕ)
    → nodes_weight i types (bound_or_import x o) ≡ 4 + count (node_type i types (bound_or_import x o))
use_weight i types x None = refl
use_weight i types x (Some n) = refl

-- a term weighs what its own node weighs, and what those of its parts do
parts_weigh : (i : Imports) (g : Binders) (tree : Tree)
    → weight_of i g tree ≡ 4 + count (node_type i (types_of g) (term_of (names_of g) tree)) + parts_weight i g tree
parts_weigh i g (Skip s) = omega arith
parts_weigh i g (Lit s k w) = omega arith
parts_weigh i g (Use s x) = omega (arith, use_weight i (types_of g) x (binder_of (names_of g) x))
parts_weigh i g (Lam s x a at m) = refl
parts_weigh i g (New s x w wt m) = refl
parts_weigh i g (Array s x n u w wt m) = omega arith
parts_weigh i g (App s m n) = omega arith
parts_weigh i g (Both s m n) = omega arith
parts_weigh i g (Fst s m) = refl
parts_weigh i g (Snd s m) = refl
parts_weigh i g (Seq s m n) = omega arith
parts_weigh i g (Par s m n) = omega arith
parts_weigh i g (If s m n p) = omega arith
parts_weigh i g (While s m n) = omega arith
parts_weigh i g (Assign s m n) = omega arith
parts_weigh i g (Deref s m) = refl
parts_weigh i g (Not s m) = refl
parts_weigh i g (Bin s op m n) = omega arith

-- the weight of a term that is judged
pub judged_weight : (i : Imports) (g : Binders) (tree : Tree) (t : Type') → judged i g tree ≡ Ok t
    → weight_of i g tree ≡ 4 + count t + parts_weight i g tree
judged_weight i g tree t h =
    subst (λ (u : Type'). weight_of i g tree ≡ 4 + count u + parts_weight i g tree) (judged_type i g tree t h) (parts_weigh i g tree)

-- a term weighs at least 4 for each of its nodes
pub nodes_weigh : (i : Imports) (g : Binders) (tree : Tree) → 4 * size tree ≤ weight_of i g tree
nodes_weigh i g (Skip s) = omega arith
nodes_weigh i g (Lit s k w) = omega arith
nodes_weigh i g (Use s x) = omega (arith, use_weight i (types_of g) x (binder_of (names_of g) x))
nodes_weigh i g (Lam s x a at m) = omega (arith, nodes_weigh i (record { name = x; ty = a } ∷ g) m)
nodes_weigh i g (New s x w wt m) = omega (arith, nodes_weigh i (record { name = x; ty = Var w } ∷ g) m)
nodes_weigh i g (Array s x n u w wt m) = omega (arith, nodes_weigh i (record { name = x; ty = array_type n w } ∷ g) m)
nodes_weigh i g (App s m n) = omega (arith, nodes_weigh i g m, nodes_weigh i g n)
nodes_weigh i g (Both s m n) = omega (arith, nodes_weigh i g m, nodes_weigh i g n)
nodes_weigh i g (Fst s m) = omega (arith, nodes_weigh i g m)
nodes_weigh i g (Snd s m) = omega (arith, nodes_weigh i g m)
nodes_weigh i g (Seq s m n) = omega (arith, nodes_weigh i g m, nodes_weigh i g n)
nodes_weigh i g (Par s m n) = omega (arith, nodes_weigh i g m, nodes_weigh i g n)
nodes_weigh i g (If s m n p) = omega (arith, nodes_weigh i g m, nodes_weigh i g n, nodes_weigh i g p)
nodes_weigh i g (While s m n) = omega (arith, nodes_weigh i g m, nodes_weigh i g n)
nodes_weigh i g (Assign s m n) = omega (arith, nodes_weigh i g m, nodes_weigh i g n)
nodes_weigh i g (Deref s m) = omega (arith, nodes_weigh i g m)
nodes_weigh i g (Not s m) = omega (arith, nodes_weigh i g m)
nodes_weigh i g (Bin s op m n) = omega (arith, nodes_weigh i g m, nodes_weigh i g n)

-- an import has a handshake at least
pub imports_weigh : (is : List SeenImport) → length is ≤ sum_by (λ x. count x.ty) (map import_of is)
imports_weigh [] = omega arith
imports_weigh (i ∷ is) =
    let first : sum_by (λ x. count x.ty) (map import_of (i ∷ is)) ≡ count (type_of i.ty) + sum_by (λ x. count x.ty) (map import_of is) =
    sum_by-cons (λ x. count x.ty) (import_of i) (map import_of is) in
    omega (arith, first, size_below_count (type_of i.ty), imports_weigh is)
