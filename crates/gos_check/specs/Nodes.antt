-- The typed term of a checked module, and what it means.
--
-- Read first: Terms, Typing and Weight of gos_model. A `Node` of the program has boxes. `Numbered` is the same node without
-- them, its forms sorted by how many parts they have, and `numbered_of` leads from one to the other.
use Rattle.std.specs.Prelude.{◌≡◌, ℕ, suc, List, [], ◌∷◌, ◌||◌, nat_eq, if◌then◌else◌}
use Rattle.gos_types.specs.declared.types.Ty.{Ty}
use Rattle.gos_types.specs.Types.{Type', Var, Fun, type_of}
use Rattle.gos_model.specs.Terms as terms
use Rattle.gos_model.specs.Terms.{Op, Term}
use Rattle.gos_model.specs.Typing.{Imports, array_type}
use Rattle.gos_model.specs.Weight.{node_type}
use Rattle.gos_model.specs.Sources.{op_of}
use Rattle.gos_check.specs.declared.forms.OnePart.{OnePart}
use Rattle.gos_check.specs.declared.forms.OnePart.TheVariants as one
use Rattle.gos_check.specs.declared.forms.TwoParts.{TwoParts}
use Rattle.gos_check.specs.declared.forms.TwoParts.TheVariants as two
use Rattle.gos_check.specs.declared.linear.Split.{Split}
use Rattle.gos_check.specs.declared.linear.Node.{Node}
use Rattle.gos_check.specs.declared.linear.NodeForm.{NodeForm}
use Rattle.gos_check.specs.declared.linear.NodeForm.TheVariants as forms

-- the binders
pub data Binding : Type 0 where
  OfFun : Binding
  OfNew : (w : ℕ) → Binding
  OfArray : (n w : ℕ) → Binding

-- the forms of one part
pub data OneForm : Type 0 where
  OfFst OfSnd OfDeref OfNot : OneForm

-- the forms of two parts
pub data TwoForm : Type 0 where
  OfApp OfBoth OfSeq OfPar OfWhile OfAssign : TwoForm
  OfBin : (op : Op) → TwoForm

-- the forms as the program tells them apart
abbrev pub one_form : OnePart → OneForm
one_form one.First = OfFst
one_form one.Second = OfSnd
one_form one.Reading = OfDeref
one_form one.Negation = OfNot

abbrev pub two_form : TwoParts → TwoForm
two_form two.Application = OfApp
two_form two.Product = OfBoth
two_form two.Sequence = OfSeq
two_form two.Parallel = OfPar
two_form two.Loop = OfWhile
two_form two.Assignment = OfAssign
two_form (two.Operation op) = OfBin (op_of op)

-- a node with its type and its splits: `skip` or a literal, a number that is used, a binder with its number, a form of one
-- part, a form of two parts, and a choice
pub data Numbered : Type 0 where
  Closed : (ty : Type') (splits : List Split) (c : Term) → Numbered
  Use : (ty : Type') (splits : List Split) (n : ℕ) → Numbered
  Under : (ty : Type') (splits : List Split) (binding : Binding) (n : ℕ) (m : Numbered) → Numbered
  One : (ty : Type') (splits : List Split) (form : OneForm) (m : Numbered) → Numbered
  Two : (ty : Type') (splits : List Split) (form : TwoForm) (m n : Numbered) → Numbered
  If : (ty : Type') (splits : List Split) (m n p : Numbered) → Numbered

-- a node of the program, without its boxes
abbrev pub numbered_of : Ty → List Split → NodeForm → Numbered
numbered_of t ss forms.Skip = Closed (type_of t) ss terms.Skip
numbered_of t ss (forms.Lit k w) = Closed (type_of t) ss (terms.Lit k w)
numbered_of t ss (forms.Use n) = Use (type_of t) ss n
numbered_of t ss (forms.Fun' n p a qs f) = Under (type_of t) ss OfFun n (numbered_of a qs.items f)
numbered_of t ss (forms.New' n w p a qs f) = Under (type_of t) ss (OfNew w) n (numbered_of a qs.items f)
numbered_of t ss (forms.Array' n l w p a qs f) = Under (type_of t) ss (OfArray l w) n (numbered_of a qs.items f)
numbered_of t ss (forms.App' p a qs f q b rs g) = Two (type_of t) ss OfApp (numbered_of a qs.items f) (numbered_of b rs.items g)
numbered_of t ss (forms.Pair' p a qs f q b rs g) = Two (type_of t) ss OfBoth (numbered_of a qs.items f) (numbered_of b rs.items g)
numbered_of t ss (forms.Fst' p a qs f) = One (type_of t) ss OfFst (numbered_of a qs.items f)
numbered_of t ss (forms.Snd' p a qs f) = One (type_of t) ss OfSnd (numbered_of a qs.items f)
numbered_of t ss (forms.Seq' p a qs f q b rs g) = Two (type_of t) ss OfSeq (numbered_of a qs.items f) (numbered_of b rs.items g)
numbered_of t ss (forms.Par' p a qs f q b rs g) = Two (type_of t) ss OfPar (numbered_of a qs.items f) (numbered_of b rs.items g)
numbered_of t ss (forms.If' p a qs f q b rs g r c us h) =
    If (type_of t) ss (numbered_of a qs.items f) (numbered_of b rs.items g) (numbered_of c us.items h)
numbered_of t ss (forms.While' p a qs f q b rs g) = Two (type_of t) ss OfWhile (numbered_of a qs.items f) (numbered_of b rs.items g)
numbered_of t ss (forms.Assign' p a qs f q b rs g) = Two (type_of t) ss OfAssign (numbered_of a qs.items f) (numbered_of b rs.items g)
numbered_of t ss (forms.Deref' p a qs f) = One (type_of t) ss OfDeref (numbered_of a qs.items f)
numbered_of t ss (forms.Not' p a qs f) = One (type_of t) ss OfNot (numbered_of a qs.items f)
numbered_of t ss (forms.Bin' op p a qs f q b rs g) = Two (type_of t) ss (OfBin (op_of op)) (numbered_of a qs.items f) (numbered_of b rs.items g)

-- a node of the program as it is seen
abbrev pub node_seen : Node → Numbered
node_seen node = numbered_of node.ty node.splits.items node.form

-- the type of a node
abbrev pub type_of_node : Numbered → Type'
type_of_node (Closed t ss c) = t
type_of_node (Use t ss n) = t
type_of_node (Under t ss b n m) = t
type_of_node (One t ss f m) = t
type_of_node (Two t ss f m n) = t
type_of_node (If t ss m n p) = t

-- the argument of a function type
abbrev pub argument_of : Type' → Type'
argument_of (Fun a b) = a
argument_of t = t

-- the type of what a binder binds, where the whole node has the type t
abbrev pub bound_type : Binding → Type' → Type'
bound_type OfFun t = argument_of t
bound_type (OfNew w) t = Var w
bound_type (OfArray n w) t = array_type n w

-- the terms of the forms
abbrev pub binder_term : Binding → Type' → Term → Term
binder_term OfFun t m = terms.Lam (argument_of t) m
binder_term (OfNew w) t m = terms.New w m
binder_term (OfArray n w) t m = terms.NewArray n w m

abbrev pub one_term : OneForm → Term → Term
one_term OfFst m = terms.Fst m
one_term OfSnd m = terms.Snd m
one_term OfDeref m = terms.Deref m
one_term OfNot m = terms.Not m

abbrev pub two_term : TwoForm → Term → Term → Term
two_term OfApp m n = terms.App m n
two_term OfBoth m n = terms.Both m n
two_term OfSeq m n = terms.Seq m n
two_term OfPar m n = terms.Par m n
two_term OfWhile m n = terms.While m n
two_term OfAssign m n = terms.Assign m n
two_term (OfBin op) m n = terms.Bin op m n

-- what each number stands for
abbrev pub Meaning : Type 0
Meaning = ℕ → Term

-- one binder further in
abbrev pub shifted : Term → Term
shifted (terms.Bound i) = terms.Bound (suc i)
shifted m = m

-- below a binder with this number
abbrev pub below : ℕ → Meaning → Meaning
below n env = λ k. if nat_eq k n then terms.Bound 0 else shifted (env k)

-- inside a split both its sides stand for what is split
abbrev pub inside_one : Split → Meaning → Meaning
inside_one s env = λ k. if nat_eq k s.left || nat_eq k s.right then env s.of else env k

-- inside splits, in their order
abbrev pub inside : List Split → Meaning → Meaning
inside [] env = env
inside (s ∷ ss) env = inside ss (inside_one s env)

-- the term of a node, where numbers stand for these terms
abbrev pub meaning : Meaning → Numbered → Term
meaning env (Closed t ss c) = c
meaning env (Use t ss n) = env n
meaning env (Under t ss b n m) = binder_term b t (meaning (below n (inside ss env)) m)
meaning env (One t ss f m) = one_term f (meaning (inside ss env) m)
meaning env (Two t ss f m n) = two_term f (meaning (inside ss env) m) (meaning (inside ss env) n)
meaning env (If t ss m n p) = terms.If (meaning (inside ss env) m) (meaning (inside ss env) n) (meaning (inside ss env) p)

-- each node has the type of its term, with imports i and under binders of the types g
abbrev pub HasTypes : Imports → List Type' → Meaning → Numbered → Type 0
HasTypes i g env (Closed t ss c) = t ≡ node_type i g c
HasTypes i g env (Use t ss n) = t ≡ node_type i g (env n)
HasTypes i g env (Under t ss b n m) =
    (t ≡ node_type i g (meaning env (Under t ss b n m))) × HasTypes i (bound_type b t ∷ g) (below n (inside ss env)) m
HasTypes i g env (One t ss f m) = (t ≡ node_type i g (meaning env (One t ss f m))) × HasTypes i g (inside ss env) m
HasTypes i g env (Two t ss f m n) =
    (t ≡ node_type i g (meaning env (Two t ss f m n))) × HasTypes i g (inside ss env) m × HasTypes i g (inside ss env) n
HasTypes i g env (If t ss m n p) =
    (t ≡ node_type i g (meaning env (If t ss m n p)))
    × HasTypes i g (inside ss env) m × HasTypes i g (inside ss env) n × HasTypes i g (inside ss env) p
