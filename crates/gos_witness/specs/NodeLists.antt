-- A term as a list of nodes named by number.
--
-- Read first: Terms and Sources of gos_model, Sizes, Needs. A node names its parts by their numbers, which are lower than its own. So
-- the terms of a list are built from left to right, each from those before it, and a list that grows keeps the terms that it had.
use Rattle.std.specs.Prelude.{◌≡◌, ◌<◌, ◌≤◌, ◌⊎◌, ℕ, List, [], ◌∷◌, ◌++◌, length, Option, Some, None, slice_get, get_or}
use Rattle.gos_types.specs.declared.types.Ty.{Ty}
use Rattle.gos_types.specs.Types.{Type', Com, type_of}
use Rattle.gos_model.specs.Terms.{Name, Term, Skip, Lit, Bound, Import, Lam, App, Both, Fst, Snd, Seq, Par, If, While, Assign, Deref, New, NewArray, Not, Bin, Loc, Arr, Scope, Wait, Held, Put}
use Rattle.gos_model.specs.Sources.{op_of}
use Rattle.gos_witness.specs.Sizes.{size}
use Rattle.gos_witness.specs.Needs.{needs}
use Rattle.gos_witness.specs.declared.nodes.Leaf.{Leaf}
use Rattle.gos_witness.specs.declared.nodes.Leaf.TheVariants as leaves
use Rattle.gos_witness.specs.declared.nodes.OnePart.{OnePart}
use Rattle.gos_witness.specs.declared.nodes.OnePart.TheVariants as one
use Rattle.gos_witness.specs.declared.nodes.TwoParts.{TwoParts}
use Rattle.gos_witness.specs.declared.nodes.TwoParts.TheVariants as two
use Rattle.gos_witness.specs.declared.nodes.Form.{Form}
use Rattle.gos_witness.specs.declared.nodes.Form.TheVariants as forms
use Rattle.gos_witness.specs.declared.nodes.Node.{Node}
use Rattle.gos_witness.specs.declared.nodes.TheConstants.{MOST_NODES}

-- the types of functions and the names of ports
pub record Tables : Type 0 where
  pub types : List Ty
  pub names : List Name

-- a list
pub record Listed : Type 0 where
  pub tables : Tables
  pub nodes : List Node

abbrev pub type_or_com : Option Ty → Type'
type_or_com None = Com
type_or_com (Some t) = type_of t

abbrev pub name_or_none : Option Name → Name
name_or_none None = []
name_or_none (Some x) = x

-- a type and a name by its number
abbrev pub type_at : Tables → ℕ → Type'
type_at a i = type_or_com (slice_get a.types i)

abbrev pub name_at : Tables → ℕ → Name
name_at a i = name_or_none (slice_get a.names i)

-- the terms of the forms, by those of their parts
abbrev pub leaf_term : Tables → Leaf → Term
leaf_term a leaves.Skip = Skip
leaf_term a (leaves.Lit k w) = Lit k w
leaf_term a (leaves.Bound n) = Bound n
leaf_term a (leaves.Import x) = Import (name_at a x)
leaf_term a (leaves.Loc p) = Loc p
leaf_term a (leaves.Arr p) = Arr p
leaf_term a (leaves.Wait x s) = Wait (name_at a x) s

abbrev pub one_term : Tables → OnePart → Term → Term
one_term a (one.Lam t) m = Lam (type_at a t) m
one_term a (one.New w) m = New w m
one_term a (one.NewArray n w) m = NewArray n w m
one_term a one.Fst m = Fst m
one_term a one.Snd m = Snd m
one_term a one.Deref m = Deref m
one_term a one.Not m = Not m
one_term a (one.Scope p) m = Scope p m
one_term a (one.Held k op) m = Held k (op_of op) m
one_term a (one.Put k) m = Put m k

abbrev pub two_term : TwoParts → Term → Term → Term
two_term two.App m n = App m n
two_term two.Both m n = Both m n
two_term two.Seq m n = Seq m n
two_term two.Par m n = Par m n
two_term two.While m n = While m n
two_term two.Assign m n = Assign m n
two_term (two.Bin op) m n = Bin (op_of op) m n

-- how many binders around its part a form adds
abbrev pub binders_of : OnePart → ℕ
binders_of (one.Lam t) = 1
binders_of (one.New w) = 1
binders_of (one.NewArray n w) = 1
binders_of o = 0

-- the term of a form, by the terms of the nodes before it
abbrev pub form_term : Tables → List Term → Form → Term
form_term a ts (forms.Leaf leaf) = leaf_term a leaf
form_term a ts (forms.One o m) = one_term a o (get_or ts m Skip)
form_term a ts (forms.Two o m n) = two_term o (get_or ts m Skip) (get_or ts n Skip)
form_term a ts (forms.If m n p) = If (get_or ts m Skip) (get_or ts n Skip) (get_or ts p Skip)

-- the terms of nodes, behind these
abbrev pub grown : Tables → List Term → List Node → List Term
grown a ts [] = ts
grown a ts (n ∷ ns) = grown a (ts ++ form_term a ts n.form ∷ []) ns

-- the terms of a list
abbrev pub terms : Listed → List Term
terms l = grown l.tables [] l.nodes

-- the term of a node by its number
abbrev pub seen : Listed → ℕ → Term
seen l i = get_or (terms l) i Skip

-- the term of a form, its parts by their numbers
abbrev pub shape : Listed → Form → Term
shape l f = form_term l.tables (terms l) f

-- numbers have at most 64 bits
abbrev pub IsNarrow : ℕ → Type 0
IsNarrow w = w ≤ 64

-- the numbers in a form are those of types and names, and widths are at most 64 bits
abbrev pub FitsLeaf : Tables → Leaf → Type 0
FitsLeaf a leaves.Skip = Unit {0}
FitsLeaf a (leaves.Lit k w) = IsNarrow w
FitsLeaf a (leaves.Bound n) = Unit {0}
FitsLeaf a (leaves.Import x) = x < length a.names
FitsLeaf a (leaves.Loc p) = Unit {0}
FitsLeaf a (leaves.Arr p) = Unit {0}
FitsLeaf a (leaves.Wait x s) = x < length a.names

abbrev pub FitsOne : Tables → OnePart → Type 0
FitsOne a (one.Lam t) = t < length a.types
FitsOne a (one.New w) = IsNarrow w
FitsOne a (one.NewArray n w) = IsNarrow w
FitsOne a o = Unit {0}

-- and the parts of a form come before number i
abbrev pub Fits : Tables → ℕ → Form → Type 0
Fits a i (forms.Leaf leaf) = FitsLeaf a leaf
Fits a i (forms.One o m) = FitsOne a o × (m < i)
Fits a i (forms.Two o m n) = (m < i) × (n < i)
Fits a i (forms.If m n p) = (m < i) × (n < i) × (p < i)

-- n counted up to the limit
abbrev pub IsCount : ℕ → ℕ → Type 0
IsCount k n = ((n < MOST_NODES) × (k ≡ n)) ⊎ ((MOST_NODES ≤ n) × (k ≡ MOST_NODES))

-- what stands beside the form of a node is right
pub record IsRight (l : Listed) (i : ℕ) (n : Node) : Type 0 where
  pub term : seen l i ≡ shape l n.form
  pub fits : Fits l.tables i n.form
  pub size : IsCount n.size (size (seen l i))
  pub needs : n.needs ≡ needs (seen l i)
  pub few : n.needs ≤ 4294967296

abbrev pub IsKept : Listed → Type 0
IsKept l = (i : ℕ) (n : Node) → slice_get l.nodes i ≡ Some n → IsRight l i n
