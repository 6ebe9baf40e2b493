-- Trees that can be written: their names are names, and their numerals no greater than they may be where they stand.
--
-- Read first: Trees, ModuleTrees.
use Rattle.std.specs.Prelude.{◌≤◌, List, [], ◌∷◌}
use Rattle.gos_lex.specs.Names.{IsName}
use Rattle.gos_lex.specs.declared.numeral.TheConstants.{GREATEST_NUMERAL}
use Rattle.gos_types.specs.Types as types
use Rattle.gos_types.specs.Types.{Type'}
use Rattle.gos_syntax.specs.Trees.{Tree, Skip, Lit, Use, Lam, New, Array, App, Both, Fst, Snd, Seq, Par, If, While, Assign, Deref, Not, Bin}
use Rattle.gos_syntax.specs.ModuleTrees.{ImportTree, ModuleTree}
use Rattle.gos_syntax.specs.Grammar.{IsSmall}

-- the numerals of a type are small
abbrev pub HasNumerals : Type' → Type 0
HasNumerals types.Com = Unit {0}
HasNumerals (types.Exp w) = IsSmall w
HasNumerals (types.Var w) = IsSmall w
HasNumerals (types.Pair a b) = HasNumerals a × HasNumerals b
HasNumerals (types.Fun a b) = HasNumerals a × HasNumerals b

-- the names of a term are names, its values no greater than a token's, and its widths and lengths small
abbrev pub IsWritableTree : Tree → Type 0
IsWritableTree (Skip s) = Unit {0}
IsWritableTree (Lit s value width) = (value ≤ GREATEST_NUMERAL) × IsSmall width
IsWritableTree (Use s name) = IsName name
IsWritableTree (Lam s name ty ty_span body) = IsName name × HasNumerals ty × IsWritableTree body
IsWritableTree (New s name width width_span body) = IsName name × IsSmall width × IsWritableTree body
IsWritableTree (Array s name length length_span width width_span body) = IsName name × IsSmall length × IsSmall width × IsWritableTree body
IsWritableTree (App s a b) = IsWritableTree a × IsWritableTree b
IsWritableTree (Both s a b) = IsWritableTree a × IsWritableTree b
IsWritableTree (Fst s a) = IsWritableTree a
IsWritableTree (Snd s a) = IsWritableTree a
IsWritableTree (Seq s a b) = IsWritableTree a × IsWritableTree b
IsWritableTree (Par s a b) = IsWritableTree a × IsWritableTree b
IsWritableTree (If s a b c) = IsWritableTree a × (IsWritableTree b × IsWritableTree c)
IsWritableTree (While s a b) = IsWritableTree a × IsWritableTree b
IsWritableTree (Assign s a b) = IsWritableTree a × IsWritableTree b
IsWritableTree (Deref s a) = IsWritableTree a
IsWritableTree (Not s a) = IsWritableTree a
IsWritableTree (Bin s op a b) = IsWritableTree a × IsWritableTree b

-- the same of imports
abbrev pub AreWritable : List ImportTree → Type 0
AreWritable [] = Unit {0}
AreWritable (imported ∷ others) = IsName imported.name × (HasNumerals imported.ty × AreWritable others)

-- the same of a module
pub record IsWritable (m : ModuleTree) : Type 0 where
  pub imports : AreWritable m.imports
  pub body : IsWritableTree m.body
  pub result : HasNumerals m.result
