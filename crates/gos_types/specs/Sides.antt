-- The sides of a product and of a function: how their handshakes stand in one list.
--
-- Read first: Handshakes.
use Rattle.std.specs.Prelude.{◌≡◌, List, ◌++◌, length, take, drop}
use Rattle.gos_types.specs.declared.shakes.Step.TheVariants.{First, Second, Argument, Outcome}
use Rattle.gos_types.specs.Types.{Type', Pair, Fun}
use Rattle.gos_types.specs.Handshakes.{turn_all, below, handshakes_of}

-- a list is two lists joined, and each can be read off it again
pub record AreJoined (A : Type 0) (whole first second : List A) : Type 0 where
  pub joined : whole ≡ first ++ second
  pub first_again : take (length first) whole ≡ first
  pub second_again : drop (length first) whole ≡ second

-- those of a product are those of its sides, each a step further from the root
abbrev pub PairsHaveSides : Type 0
PairsHaveSides = (a b : Type') → AreJoined _ (handshakes_of (Pair a b)) (below First (handshakes_of a)) (below Second (handshakes_of b))

-- those of a function are those of its argument, as the other side sees them, and those of its outcome
abbrev pub FunctionsHaveSides : Type 0
FunctionsHaveSides =
    (a b : Type') → AreJoined _ (handshakes_of (Fun a b)) (below Argument (turn_all (handshakes_of a))) (below Outcome (handshakes_of b))
