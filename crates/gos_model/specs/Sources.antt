-- The program of a parsed module.
--
-- Read first: Terms, Typing, Moves (programs), and Trees and Modules of gos_syntax. Places and brackets are left out, and a name becomes the
-- number of its binder. The innermost binder of a name wins; a name without a binder is an import, declared or not.
use Rattle.std.specs.Prelude.{ℕ, suc, List, [], ◌∷◌, Option, Some, None, map, if◌then◌else◌}
use Rattle.std.specs.Str.{bytes_eq}
use Rattle.gos_types.specs.Types.{type_of}
use Rattle.gos_syntax.specs.declared.terms.Op as source
use Rattle.gos_syntax.specs.declared.terms.Op.TheVariants as ops
use Rattle.gos_syntax.specs.Trees as trees
use Rattle.gos_syntax.specs.Trees.{Tree, tree_of}
use Rattle.gos_syntax.specs.Modules.{SeenImport, SeenModule}
use Rattle.gos_model.specs.Terms.{Name, Op, Add, Sub, And, Or, Xor, Eq, Less, Term, Skip, Lit, Bound, Import, Lam, App, Both, Fst, Snd, Seq, Par, If, While, Assign, Deref, New, NewArray, Not, Bin}
use Rattle.gos_model.specs.Typing.{Imported}
use Rattle.gos_model.specs.Moves.{Program}

-- one binder further in
abbrev pub one_further : Option ℕ → Option ℕ
one_further None = None
one_further (Some n) = Some (suc n)

-- the number of the innermost binder of a name, under binders of these names with the innermost first
abbrev pub binder_of : List Name → Name → Option ℕ
binder_of [] x = None
binder_of (y ∷ names) x = if bytes_eq y x then Some 0 else one_further (binder_of names x)

-- a name with this binder, or with none
abbrev pub bound_or_import : Name → Option ℕ → Term
bound_or_import x None = Import x
bound_or_import x (Some n) = Bound n

-- what a name stands for under these binders
abbrev pub use_of : List Name → Name → Term
use_of names x = bound_or_import x (binder_of names x)

-- an operator
abbrev pub op_of : source.Op → Op
op_of ops.Add = Add
op_of ops.Sub = Sub
op_of ops.And = And
op_of ops.Or = Or
op_of ops.Xor = Xor
op_of ops.Eq = Eq
op_of ops.Less = Less

-- the term of a tree, under binders of these names with the innermost first
abbrev pub term_of : List Name → Tree → Term
term_of names (trees.Skip s) = Skip
term_of names (trees.Lit s value width) = Lit value width
term_of names (trees.Use s x) = use_of names x
term_of names (trees.Lam s x a t b) = Lam a (term_of (x ∷ names) b)
term_of names (trees.New s x w t b) = New w (term_of (x ∷ names) b)
term_of names (trees.Array s x n t w u b) = NewArray n w (term_of (x ∷ names) b)
term_of names (trees.App s a b) = App (term_of names a) (term_of names b)
term_of names (trees.Both s a b) = Both (term_of names a) (term_of names b)
term_of names (trees.Fst s a) = Fst (term_of names a)
term_of names (trees.Snd s a) = Snd (term_of names a)
term_of names (trees.Seq s a b) = Seq (term_of names a) (term_of names b)
term_of names (trees.Par s a b) = Par (term_of names a) (term_of names b)
term_of names (trees.If s a b c) = If (term_of names a) (term_of names b) (term_of names c)
term_of names (trees.While s a b) = While (term_of names a) (term_of names b)
term_of names (trees.Assign s a b) = Assign (term_of names a) (term_of names b)
term_of names (trees.Deref s a) = Deref (term_of names a)
term_of names (trees.Not s a) = Not (term_of names a)
term_of names (trees.Bin s op a b) = Bin (op_of op) (term_of names a) (term_of names b)

-- an import of a program
abbrev pub import_of : SeenImport → Imported
import_of i = record { name = i.name; ty = type_of i.ty }

-- the program of a module: its imports in written order, and its body under no binder
abbrev pub program_of : SeenModule → Program
program_of m = record { imports = map import_of m.imports; body = term_of [] (tree_of m.body.form m.body.span) }
