-- A type has at most twice as many handshakes as nodes.
use Rattle.std.specs.Prelude.{◌*◌, ◌≤◌, length}
use Rattle.std.proofs.Common.{arith, length-append}
use Rattle.std.proofs.lemmas.List.{length-map}
use Rattle.gos_types.specs.Types.{Type', Com, Exp, Var, Pair, Fun, size}
use Rattle.gos_types.specs.Handshakes.{handshakes_of}

pub count_le_size : (t : Type') → length (handshakes_of t) ≤ 2 * size t
count_le_size Com = omega arith
count_le_size (Exp w) = omega arith
count_le_size (Var w) = omega arith
count_le_size (Pair a b) = simp (length-append, length-map) (omega (arith, count_le_size a, count_le_size b))
count_le_size (Fun a b) = simp (length-append, length-map) (omega (arith, count_le_size a, count_le_size b))
