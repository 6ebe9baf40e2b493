-- How large a module may be that is checked: no count of its nodes or of its imports passes 32 bits.
use Rattle.std.specs.Prelude.{◌^◌, ◌<◌, List, [], ◌∷◌, length}
use Rattle.gos_types.specs.Types.{Type', type_of}
use Rattle.gos_types.specs.Types as types
use Rattle.gos_syntax.specs.Trees.{Tree, Skip, Lit, Use, Lam, New, Array, App, Both, Fst, Snd, Seq, Par, If, While, Assign, Deref, Not, Bin, tree_of}
use Rattle.gos_syntax.specs.Sizes.{size}
use Rattle.gos_syntax.specs.Modules.{SeenImport, SeenModule}

-- a type of fewer than 2^32 nodes
abbrev pub IsCountable : Type' → Type 0
IsCountable t = types.size t < 2 ^ 32

-- each type that is written in a tree is of fewer than 2^32 nodes
abbrev pub WritesCountable : Tree → Type 0
WritesCountable (Skip s) = Unit {0}
WritesCountable (Lit s value width) = Unit {0}
WritesCountable (Use s name) = Unit {0}
WritesCountable (Lam s name ty ty_span body) = IsCountable ty × WritesCountable body
WritesCountable (New s name width width_span body) = WritesCountable body
WritesCountable (Array s name length length_span width width_span body) = WritesCountable body
WritesCountable (App s a b) = WritesCountable a × WritesCountable b
WritesCountable (Both s a b) = WritesCountable a × WritesCountable b
WritesCountable (Fst s a) = WritesCountable a
WritesCountable (Snd s a) = WritesCountable a
WritesCountable (Seq s a b) = WritesCountable a × WritesCountable b
WritesCountable (Par s a b) = WritesCountable a × WritesCountable b
WritesCountable (If s a b c) = WritesCountable a × WritesCountable b × WritesCountable c
WritesCountable (While s a b) = WritesCountable a × WritesCountable b
WritesCountable (Assign s a b) = WritesCountable a × WritesCountable b
WritesCountable (Deref s a) = WritesCountable a
WritesCountable (Not s a) = WritesCountable a
WritesCountable (Bin s op a b) = WritesCountable a × WritesCountable b

-- each import's type is of fewer than 2^32 nodes
abbrev pub AreCountable : List SeenImport → Type 0
AreCountable [] = Unit {0}
AreCountable (i ∷ is) = IsCountable (type_of i.ty) × AreCountable is

-- the body and each written type have fewer than 2^32 nodes, and there are fewer than 2^32 imports
pub record IsCountableModule (m : SeenModule) : Type 0 where
  pub imports : length m.imports < 2 ^ 32
  pub import_types : AreCountable m.imports
  pub result : IsCountable (type_of m.result)
  pub body : size (tree_of m.body.form m.body.span) < 2 ^ 32
  pub body_types : WritesCountable (tree_of m.body.form m.body.span)
