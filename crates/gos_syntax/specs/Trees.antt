-- The trees that the grammar speaks of: the terms of the program without their boxes.
--
-- A `Term` of the program has boxes. `Tree` is the same term without them, and `tree_of` leads from one to the other.
use Rattle.std.specs.Prelude.{ℕ, List}
use Rattle.gos_lex.specs.declared.token.Span.{Span}
use Rattle.gos_types.specs.Types.{Type', type_of}
use Rattle.gos_syntax.specs.declared.terms.Op.{Op}
use Rattle.gos_syntax.specs.declared.terms.Form.{Form}
use Rattle.gos_syntax.specs.declared.terms.Form.TheVariants.{Skip as AtSkip, Lit as AtLit, Name as AtName, Fun', New', Array', App', Pair', Fst', Snd', Seq', Par', If', While', Assign', Deref', Not', Bin'}

-- a term with its place in the text
pub data Tree : Type 0 where
  Skip : (span : Span) → Tree
  Lit : (span : Span) (value width : ℕ) → Tree
  Use : (span : Span) (name : List ℕ) → Tree
  Lam : (span : Span) (name : List ℕ) (ty : Type') (ty_span : Span) (body : Tree) → Tree
  New : (span : Span) (name : List ℕ) (width : ℕ) (width_span : Span) (body : Tree) → Tree
  Array : (span : Span) (name : List ℕ) (length : ℕ) (length_span : Span) (width : ℕ) (width_span : Span) (body : Tree) → Tree
  App : (span : Span) (a b : Tree) → Tree
  Both : (span : Span) (a b : Tree) → Tree
  Fst : (span : Span) (a : Tree) → Tree
  Snd : (span : Span) (a : Tree) → Tree
  Seq : (span : Span) (a b : Tree) → Tree
  Par : (span : Span) (a b : Tree) → Tree
  If : (span : Span) (a b c : Tree) → Tree
  While : (span : Span) (a b : Tree) → Tree
  Assign : (span : Span) (a b : Tree) → Tree
  Deref : (span : Span) (a : Tree) → Tree
  Not : (span : Span) (a : Tree) → Tree
  Bin : (span : Span) (op : Op) (a b : Tree) → Tree

-- a form of the program at its place, without its boxes
abbrev pub tree_of : Form → Span → Tree
tree_of AtSkip span = Skip span
tree_of (AtLit value width) span = Lit span value width
tree_of (AtName name) span = Use span name
tree_of (Fun' name ty ty_span p s f) span = Lam span name (type_of ty) ty_span (tree_of f s)
tree_of (New' name width width_span p s f) span = New span name width width_span (tree_of f s)
tree_of (Array' name length length_span width width_span p s f) span = Array span name length length_span width width_span (tree_of f s)
tree_of (App' p s f q t g) span = App span (tree_of f s) (tree_of g t)
tree_of (Pair' p s f q t g) span = Both span (tree_of f s) (tree_of g t)
tree_of (Fst' p s f) span = Fst span (tree_of f s)
tree_of (Snd' p s f) span = Snd span (tree_of f s)
tree_of (Seq' p s f q t g) span = Seq span (tree_of f s) (tree_of g t)
tree_of (Par' p s f q t g) span = Par span (tree_of f s) (tree_of g t)
tree_of (If' p s f q t g r u h) span = If span (tree_of f s) (tree_of g t) (tree_of h u)
tree_of (While' p s f q t g) span = While span (tree_of f s) (tree_of g t)
tree_of (Assign' p s f q t g) span = Assign span (tree_of f s) (tree_of g t)
tree_of (Deref' p s f) span = Deref span (tree_of f s)
tree_of (Not' p s f) span = Not span (tree_of f s)
tree_of (Bin' op p s f q t g) span = Bin span op (tree_of f s) (tree_of g t)
