-- The weight of a module, which bounds its cells and its pace.
--
-- Read first: Typing. A node weighs 4 and the handshakes of its type, and a block with an array weighs its numbers too, 1 each;
-- the handshakes of the imports count once more.
use Rattle.std.specs.Prelude.{ℕ, ◌+◌, List, [], ◌∷◌, length, sum_by, Option, Some, None, slice_get, ◌*◌}
use Rattle.gos_types.specs.Types.{Type', Com, Exp, Var, Pair, Fun}
use Rattle.gos_types.specs.Handshakes.{handshakes_of}
use Rattle.gos_model.specs.Terms.{Op, Term, Skip, Lit, Bound, Import, Lam, App, Both, Fst, Snd, Seq, Par, If, While, Assign, Deref, New, NewArray, Not, Bin, Loc, Arr, Scope, Wait, Held, Put, result_width}
use Rattle.gos_model.specs.Typing.{Imports, import_type, array_type}

-- the type that is there, or any
abbrev pub or_com : Option Type' → Type'
or_com None = Com
or_com (Some t) = t

-- the outcome of a function type
abbrev pub after_fun : Type' → Type'
after_fun (Fun a b) = b
after_fun t = Com

-- the first side of a product type
abbrev pub left_of : Type' → Type'
left_of (Pair a b) = a
left_of t = Com

-- the second side of a product type
abbrev pub right_of : Type' → Type'
right_of (Pair a b) = b
right_of t = Com

-- the type that reading a variable has
abbrev pub read_of : Type' → Type'
read_of (Var w) = Exp w
read_of t = t

-- the type of an operation on operands of this type
abbrev pub op_type : Op → Type' → Type'
op_type op (Exp w) = Exp (result_width op w)
op_type op t = Com

-- The type of a typed term. It is total, so that every node has one; of a term that isn't typed it says nothing.
abbrev pub node_type : Imports → List Type' → Term → Type'
node_type i g Skip = Com
node_type i g (Lit k w) = Exp w
node_type i g (Bound n) = or_com (slice_get g n)
node_type i g (Import x) = or_com (import_type i x)
node_type i g (Lam a m) = Fun a (node_type i (a ∷ g) m)
node_type i g (App m n) = after_fun (node_type i g m)
node_type i g (Both m n) = Pair (node_type i g m) (node_type i g n)
node_type i g (Fst m) = left_of (node_type i g m)
node_type i g (Snd m) = right_of (node_type i g m)
node_type i g (Seq m n) = node_type i g n
node_type i g (Par m n) = Com
node_type i g (If m n p) = node_type i g n
node_type i g (While m n) = Com
node_type i g (Assign m n) = Com
node_type i g (Deref m) = read_of (node_type i g m)
node_type i g (New w m) = node_type i (Var w ∷ g) m
node_type i g (NewArray n w m) = node_type i (array_type n w ∷ g) m
node_type i g (Not m) = node_type i g m
node_type i g (Bin op m n) = op_type op (node_type i g m)
node_type i g (Loc l) = Com
node_type i g (Arr l) = Com
node_type i g (Scope l m) = Com
node_type i g (Wait x s) = Com
node_type i g (Held k op n) = Com
node_type i g (Put m k) = Com

-- how many handshakes a type has
abbrev pub count : Type' → ℕ
count t = length (handshakes_of t)

-- what a node itself weighs, without the numbers of an array
abbrev pub node_weight : Imports → List Type' → Term → ℕ
node_weight i g m = 4 + count (node_type i g m)

-- the sum over the nodes of a term
abbrev pub nodes_weight : Imports → List Type' → Term → ℕ
nodes_weight i g Skip = node_weight i g Skip
nodes_weight i g (Lit k w) = node_weight i g (Lit k w)
nodes_weight i g (Bound n) = node_weight i g (Bound n)
nodes_weight i g (Import x) = node_weight i g (Import x)
nodes_weight i g (Lam a m) = node_weight i g (Lam a m) + nodes_weight i (a ∷ g) m
nodes_weight i g (App m n) = node_weight i g (App m n) + nodes_weight i g m + nodes_weight i g n
nodes_weight i g (Both m n) = node_weight i g (Both m n) + nodes_weight i g m + nodes_weight i g n
nodes_weight i g (Fst m) = node_weight i g (Fst m) + nodes_weight i g m
nodes_weight i g (Snd m) = node_weight i g (Snd m) + nodes_weight i g m
nodes_weight i g (Seq m n) = node_weight i g (Seq m n) + nodes_weight i g m + nodes_weight i g n
nodes_weight i g (Par m n) = node_weight i g (Par m n) + nodes_weight i g m + nodes_weight i g n
nodes_weight i g (If m n p) = node_weight i g (If m n p) + nodes_weight i g m + nodes_weight i g n + nodes_weight i g p
nodes_weight i g (While m n) = node_weight i g (While m n) + nodes_weight i g m + nodes_weight i g n
nodes_weight i g (Assign m n) = node_weight i g (Assign m n) + nodes_weight i g m + nodes_weight i g n
nodes_weight i g (Deref m) = node_weight i g (Deref m) + nodes_weight i g m
nodes_weight i g (New w m) = node_weight i g (New w m) + nodes_weight i (Var w ∷ g) m
nodes_weight i g (NewArray n w m) = n + node_weight i g (NewArray n w m) + nodes_weight i (array_type n w ∷ g) m
nodes_weight i g (Not m) = node_weight i g (Not m) + nodes_weight i g m
nodes_weight i g (Bin op m n) = node_weight i g (Bin op m n) + nodes_weight i g m + nodes_weight i g n
nodes_weight i g (Loc l) = 0
nodes_weight i g (Arr l) = 0
nodes_weight i g (Scope l m) = 0
nodes_weight i g (Wait x s) = 0
nodes_weight i g (Held k op n) = 0
nodes_weight i g (Put m k) = 0

-- the weight of a module: its body's nodes, and the handshakes of its imports once
abbrev pub weight : Imports → Term → ℕ
weight i m = nodes_weight i [] m + sum_by (λ x. count x.ty) i

-- the pace bound of a program with this weight, in cycles
abbrev pub pace : ℕ → ℕ
pace w = 32 * (w + 1)
