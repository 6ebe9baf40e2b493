-- A type with few handshakes has few nodes.
use Rattle.std.specs.Prelude.{◌*◌, ◌<◌, ◌≤◌}
use Rattle.std.proofs.Common.{arith, length-append}
use Rattle.std.proofs.lemmas.List.{length-map}
use Rattle.gos_types.specs.Types.{Type', Com, Exp, Var, Pair, Fun, size}
use Rattle.gos_model.specs.Weight.{count}
use Rattle.gos_check.specs.Sizes.{IsCountable}

-- a type has fewer nodes than twice its handshakes
pub size_below_count : (t : Type') → size t < 2 * count t
size_below_count Com = omega arith
size_below_count (Exp w) = omega arith
size_below_count (Var w) = omega arith
size_below_count (Pair a b) = simp (length-append, length-map) (omega (arith, size_below_count a, size_below_count b))
size_below_count (Fun a b) = simp (length-append, length-map) (omega (arith, size_below_count a, size_below_count b))

-- what has no more handshakes than are allowed can be counted
pub countable_of_small : (t : Type') → count t ≤ 64 → IsCountable t
countable_of_small t h = omega (arith, size_below_count t)

-- so can a function of such types
pub countable_fun : (a b : Type') → count a ≤ 64 → count b ≤ 64 → IsCountable (Fun a b)
countable_fun a b h k = omega (arith, size_below_count a, size_below_count b)

-- so can a product of such types
pub countable_pair : (a b : Type') → count a ≤ 64 → count b ≤ 64 → IsCountable (Pair a b)
countable_pair a b h k = omega (arith, size_below_count a, size_below_count b)

-- so can the first side of such a product
pub countable_first : (a b : Type') → count (Pair a b) ≤ 64 → IsCountable a
countable_first a b h = let k : count a ≤ 64 = omega (arith, simp (length-append, length-map) at h) in countable_of_small a k

-- so can the second side of such a product
pub countable_second : (a b : Type') → count (Pair a b) ≤ 64 → IsCountable b
countable_second a b h = let k : count b ≤ 64 = omega (arith, simp (length-append, length-map) at h) in countable_of_small b k

-- so can the outcome of such a function
pub countable_outcome : (a b : Type') → count (Fun a b) ≤ 64 → IsCountable b
countable_outcome a b h = let k : count b ≤ 64 = omega (arith, simp (length-append, length-map) at h) in countable_of_small b k
