-- A term of the source as nodes, with what serves its imports.
--
-- Read first: NodeLists, Keeping; Sources and Linking of gos_model. A supply is the node of what serves the import of a name.
use Rattle.std.specs.Prelude.{◌≡◌, ◌<◌, ℕ, List, [], ◌∷◌, Option, Some, None, length, if◌then◌else◌}
use Rattle.std.specs.Str.{bytes_eq}
use Rattle.gos_syntax.specs.declared.terms.Term as source
use Rattle.gos_syntax.specs.Trees.{Tree, tree_of}
use Rattle.gos_model.specs.Terms.{Name, Term}
use Rattle.gos_model.specs.Linking.{with_giver, supplied}
use Rattle.gos_model.specs.Sources.{term_of}
use Rattle.gos_witness.specs.declared.binders.Binders.{Binders}
use Rattle.gos_witness.specs.declared.binders.Binders.TheVariants.{Outermost, Binder'}
use Rattle.gos_witness.specs.declared.adding.Supply.{Supply}
use Rattle.gos_witness.specs.NodeLists.{Listed, seen}

-- the names of binders, the innermost first
abbrev pub names_of : Binders → List Name
names_of Outermost = []
names_of (Binder' name p outer) = name.now ∷ names_of outer

-- the tree of a term of the program
abbrev pub tree : source.Term → Tree
tree term = tree_of term.form term.span

-- the node of the first supply of this name
abbrev pub node_for : List Supply → Name → Option ℕ
node_for [] x = None
node_for (s ∷ ss) x = if bytes_eq s.name.now x then Some s.node else node_for ss x

-- the term that serves the import of this name
abbrev pub served : Listed → List Supply → Name → Option Term
served l ss x = with_giver (seen l) (node_for ss x)

-- the supplies are nodes
abbrev pub AreThere : Listed → List Supply → Type 0
AreThere l ss = (x : Name) (n : ℕ) → node_for ss x ≡ Some n → n < length l.nodes

-- they serve the terms of f
abbrev pub Serves : Listed → List Supply → (Name → Option Term) → Type 0
Serves l ss f = (x : Name) → served l ss x ≡ f x

-- a term of the source under binders, whose imports f serves
abbrev pub meant : List Name → Tree → (Name → Option Term) → Term
meant names m f = supplied f (term_of names m)

-- a node of the new list is g of the terms that the supplies of the old one serve
pub record IsAdded (old new : Listed) (ss : List Supply) (g : (Name → Option Term) → Term) (i : ℕ) : Type 0 where
  pub there : i < length new.nodes
  pub term : (f : Name → Option Term) → Serves old ss f → seen new i ≡ g f
