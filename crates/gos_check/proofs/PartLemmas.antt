-- A tree and its parts: how many nodes it has, and how it is judged.
use Rattle.std.specs.Prelude.{◌≡◌, ◌+◌}
use Rattle.std.proofs.Common.{arith, refl}
use Rattle.gos_syntax.specs.Trees.{Tree, Skip, Lit, Use, Lam, New, Array, App, Both, Fst, Snd, Seq, Par, If, While, Assign, Deref, Not, Bin}
use Rattle.gos_syntax.specs.Sizes.{size}
use Rattle.gos_model.specs.Typing.{Imports}
use Rattle.gos_check.specs.Scopes.{Binders}
use Rattle.gos_check.specs.Judging.{place_of, sized, judged}
use Rattle.gos_check.specs.inner.Walked.{parts_size, parts_judged}

-- a tree has its parts and its own node
pub size_parts : (tree : Tree) → size tree ≡ parts_size tree + 1
size_parts (Skip s) = omega arith
size_parts (Lit s k w) = omega arith
size_parts (Use s x) = omega arith
size_parts (Lam s x a t m) = omega arith
size_parts (New s x w t m) = omega arith
size_parts (Array s x n u w t m) = omega arith
size_parts (App s m n) = omega arith
size_parts (Both s m n) = omega arith
size_parts (Fst s m) = omega arith
size_parts (Snd s m) = omega arith
size_parts (Seq s m n) = omega arith
size_parts (Par s m n) = omega arith
size_parts (If s m n p) = omega arith
size_parts (While s m n) = omega arith
size_parts (Assign s m n) = omega arith
size_parts (Deref s m) = omega arith
size_parts (Not s m) = omega arith
size_parts (Bin s op m n) = omega arith

-- a tree is judged by its parts, and by the handshakes of its type
pub judged_is : (i : Imports) (g : Binders) (tree : Tree) → judged i g tree ≡ sized (place_of tree) (parts_judged i g tree)
judged_is i g (Skip s) = refl
judged_is i g (Lit s k w) = refl
judged_is i g (Use s x) = refl
judged_is i g (Lam s x a t m) = refl
judged_is i g (New s x w t m) = refl
judged_is i g (Array s x n u w t m) = refl
judged_is i g (App s m n) = refl
judged_is i g (Both s m n) = refl
judged_is i g (Fst s m) = refl
judged_is i g (Snd s m) = refl
judged_is i g (Seq s m n) = refl
judged_is i g (Par s m n) = refl
judged_is i g (If s m n p) = refl
judged_is i g (While s m n) = refl
judged_is i g (Assign s m n) = refl
judged_is i g (Deref s m) = refl
judged_is i g (Not s m) = refl
judged_is i g (Bin s op m n) = refl
