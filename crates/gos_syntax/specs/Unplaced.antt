-- Trees with their places left out.
--
-- Read first: Trees, ModuleTrees.
use Rattle.std.specs.Prelude.{map}
use Rattle.gos_lex.specs.declared.token.Span.{Span}
use Rattle.gos_syntax.specs.Trees.{Tree, Skip, Lit, Use, Lam, New, Array, App, Both, Fst, Snd, Seq, Par, If, While, Assign, Deref, Not, Bin}
use Rattle.gos_syntax.specs.ModuleTrees.{ImportTree, ModuleTree}

-- the place of everything whose place is left out
abbrev pub nowhere : Span
nowhere = record { from = 0; to = 0 }

-- a term with its places left out
abbrev pub unplaced : Tree → Tree
unplaced (Skip s) = Skip nowhere
unplaced (Lit s value width) = Lit nowhere value width
unplaced (Use s name) = Use nowhere name
unplaced (Lam s name ty ty_span body) = Lam nowhere name ty nowhere (unplaced body)
unplaced (New s name width width_span body) = New nowhere name width nowhere (unplaced body)
unplaced (Array s name length length_span width width_span body) = Array nowhere name length nowhere width nowhere (unplaced body)
unplaced (App s a b) = App nowhere (unplaced a) (unplaced b)
unplaced (Both s a b) = Both nowhere (unplaced a) (unplaced b)
unplaced (Fst s a) = Fst nowhere (unplaced a)
unplaced (Snd s a) = Snd nowhere (unplaced a)
unplaced (Seq s a b) = Seq nowhere (unplaced a) (unplaced b)
unplaced (Par s a b) = Par nowhere (unplaced a) (unplaced b)
unplaced (If s a b c) = If nowhere (unplaced a) (unplaced b) (unplaced c)
unplaced (While s a b) = While nowhere (unplaced a) (unplaced b)
unplaced (Assign s a b) = Assign nowhere (unplaced a) (unplaced b)
unplaced (Deref s a) = Deref nowhere (unplaced a)
unplaced (Not s a) = Not nowhere (unplaced a)
unplaced (Bin s op a b) = Bin nowhere op (unplaced a) (unplaced b)

-- an import with its places left out
abbrev pub unplaced_import : ImportTree → ImportTree
unplaced_import imported = record { name = imported.name; name_span = nowhere; ty = imported.ty; ty_span = nowhere }

-- a module with its places left out
abbrev pub unplaced_module : ModuleTree → ModuleTree
unplaced_module m = record { imports = map unplaced_import m.imports; body = unplaced m.body; result = m.result; result_span = nowhere }
