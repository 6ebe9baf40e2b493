-- How large a tree is.
use Rattle.std.specs.Prelude.{ℕ, ◌+◌}
use Rattle.gos_syntax.specs.Trees.{Tree, Skip, Lit, Use, Lam, New, Array, App, Both, Fst, Snd, Seq, Par, If, While, Assign, Deref, Not, Bin}

-- how many nodes a tree has
abbrev pub size : Tree → ℕ
size (Skip s) = 1
size (Lit s value width) = 1
size (Use s name) = 1
size (Lam s name ty ty_span body) = size body + 1
size (New s name width width_span body) = size body + 1
size (Array s name length length_span width width_span body) = size body + 1
size (App s a b) = size a + size b + 1
size (Both s a b) = size a + size b + 1
size (Fst s a) = size a + 1
size (Snd s a) = size a + 1
size (Seq s a b) = size a + size b + 1
size (Par s a b) = size a + size b + 1
size (If s a b c) = size a + size b + size c + 1
size (While s a b) = size a + size b + 1
size (Assign s a b) = size a + size b + 1
size (Deref s a) = size a + 1
size (Not s a) = size a + 1
size (Bin s op a b) = size a + size b + 1
