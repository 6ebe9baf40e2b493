-- What the walk knows of a term.
--
-- Read first: Judging, Rules. Between the functions of this crate.
use Rattle.std.specs.Prelude.{ℕ, ◌+◌, List, [], ◌∷◌, map, Ok}
use Rattle.gos_types.specs.Types.{Type', Com, Var, Pair, Fun}
use Rattle.gos_syntax.specs.declared.terms.Term.{Term}
use Rattle.gos_syntax.specs.Trees.{Tree, Skip, Lit, Use, Lam, New, Array, App, Both, Fst, Snd, Seq, Par, If, While, Assign, Deref, Not, Bin, tree_of}
use Rattle.gos_model.specs.Terms.{Name}
use Rattle.gos_model.specs.Typing.{Imports, array_type}
use Rattle.gos_model.specs.Weight.{nodes_weight}
use Rattle.gos_model.specs.Sources.{term_of}
use Rattle.gos_syntax.specs.Sizes.{size}
use Rattle.gos_check.specs.Sizes.{IsCountable}
use Rattle.gos_check.specs.Faults.{Found, after}
use Rattle.gos_check.specs.Written.{written, written_width, written_length, literal}
use Rattle.gos_check.specs.Scopes.{Binders, type_at, used}
use Rattle.gos_check.specs.Demands.{done, application, first_side, second_side, sequence, parallel, choice, looping, assignment, reading, negation, operation}
use Rattle.gos_check.specs.Judging.{place_of, of_two, of_three, separate, judged}

-- the tree of a term of the program
abbrev pub tree : Term → Tree
tree term = tree_of term.form term.span

-- the names of binders
abbrev pub names_of : Binders → List Name
names_of = map (λ b. b.name)

-- the types of binders
abbrev pub types_of : Binders → List Type'
types_of = map (λ b. b.ty)

-- each binder has a type of fewer than 2^32 nodes
abbrev pub BindCountable : Binders → Type 0
BindCountable [] = Unit {0}
BindCountable (b ∷ g) = IsCountable b.ty × BindCountable g

-- what the nodes of a tree weigh
abbrev pub weight_of : Imports → Binders → Tree → ℕ
weight_of i g t = nodes_weight i (types_of g) (term_of (names_of g) t)

-- what the nodes of the parts of a tree weigh, and the numbers of its array
abbrev pub parts_weight : Imports → Binders → Tree → ℕ
parts_weight i g (Skip s) = 0
parts_weight i g (Lit s k w) = 0
parts_weight i g (Use s x) = 0
parts_weight i g (Lam s x a t m) = weight_of i (record { name = x; ty = a } ∷ g) m
parts_weight i g (New s x w t m) = weight_of i (record { name = x; ty = Var w } ∷ g) m
parts_weight i g (Array s x n u w t m) = n + weight_of i (record { name = x; ty = array_type n w } ∷ g) m
parts_weight i g (App s m n) = weight_of i g m + weight_of i g n
parts_weight i g (Both s m n) = weight_of i g m + weight_of i g n
parts_weight i g (Fst s m) = weight_of i g m
parts_weight i g (Snd s m) = weight_of i g m
parts_weight i g (Seq s m n) = weight_of i g m + weight_of i g n
parts_weight i g (Par s m n) = weight_of i g m + weight_of i g n
parts_weight i g (If s m n p) = weight_of i g m + weight_of i g n + weight_of i g p
parts_weight i g (While s m n) = weight_of i g m + weight_of i g n
parts_weight i g (Assign s m n) = weight_of i g m + weight_of i g n
parts_weight i g (Deref s m) = weight_of i g m
parts_weight i g (Not s m) = weight_of i g m
parts_weight i g (Bin s op m n) = weight_of i g m + weight_of i g n

-- how many nodes the parts of a tree have
abbrev pub parts_size : Tree → ℕ
parts_size (Skip s) = 0
parts_size (Lit s k w) = 0
parts_size (Use s x) = 0
parts_size (Lam s x a t m) = size m
parts_size (New s x w t m) = size m
parts_size (Array s x n u w t m) = size m
parts_size (App s m n) = size m + size n
parts_size (Both s m n) = size m + size n
parts_size (Fst s m) = size m
parts_size (Snd s m) = size m
parts_size (Seq s m n) = size m + size n
parts_size (Par s m n) = size m + size n
parts_size (If s m n p) = size m + size n + size p
parts_size (While s m n) = size m + size n
parts_size (Assign s m n) = size m + size n
parts_size (Deref s m) = size m
parts_size (Not s m) = size m
parts_size (Bin s op m n) = size m + size n

-- the type of a tree, where nothing is asked of the handshakes of its own type
abbrev pub parts_judged : Imports → Binders → Tree → Found Type'
parts_judged i g (Skip s) = Ok Com
parts_judged i g (Lit s k w) = literal s k w
parts_judged i g (Use s x) = used s x (type_at i g x)
parts_judged i g (Lam s x a t m) = after (written t a) (λ _. after (judged i (record { name = x; ty = a } ∷ g) m) (λ b. Ok (Fun a b)))
parts_judged i g (New s x w t m) =
    after (written_width t w) (λ _. after (judged i (record { name = x; ty = Var w } ∷ g) m) (λ b. done (place_of m) b))
parts_judged i g (Array s x n u w t m) =
    after (written_length u n) (λ _. after (written_width t w) (λ _. after (judged i (record { name = x; ty = array_type n w } ∷ g) m) (λ b. done (place_of m) b)))
parts_judged i g (App s m n) = of_two (judged i g m) (judged i g n) (λ a b. separate m n (application (place_of m) a (place_of n) b))
parts_judged i g (Both s m n) = of_two (judged i g m) (judged i g n) (λ a b. Ok (Pair a b))
parts_judged i g (Fst s m) = after (judged i g m) (λ a. first_side (place_of m) a)
parts_judged i g (Snd s m) = after (judged i g m) (λ a. second_side (place_of m) a)
parts_judged i g (Seq s m n) = of_two (judged i g m) (judged i g n) (λ a b. sequence (place_of m) a (place_of n) b)
parts_judged i g (Par s m n) = of_two (judged i g m) (judged i g n) (λ a b. separate m n (parallel (place_of m) a (place_of n) b))
parts_judged i g (If s m n p) =
    of_three (judged i g m) (judged i g n) (judged i g p) (λ a b c. choice (place_of m) a (place_of n) b (place_of p) c)
parts_judged i g (While s m n) = of_two (judged i g m) (judged i g n) (λ a b. looping (place_of m) a (place_of n) b)
parts_judged i g (Assign s m n) = of_two (judged i g m) (judged i g n) (λ a b. assignment (place_of m) a (place_of n) b)
parts_judged i g (Deref s m) = after (judged i g m) (λ a. reading (place_of m) a)
parts_judged i g (Not s m) = after (judged i g m) (λ a. negation (place_of m) a)
parts_judged i g (Bin s op m n) = of_two (judged i g m) (judged i g n) (λ a b. operation op (place_of m) a (place_of n) b)
