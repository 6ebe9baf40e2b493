-- Only what has two parts or more has splits: a node without parts, or with one, has none.
--
-- Read first: Linearity of gos_check. A split stands where two parts of a node both use a number. With one part each side
-- would be used there, or in another split of the node, and some split would have both its sides in that part.
use Rattle.std.specs.Prelude.{◌≡◌, ℕ, ◌<◌, ◌≤◌, List, []}
use Rattle.gos_types.specs.Types.{Type'}
use Rattle.gos_model.specs.Typing.{Typed}
use Rattle.gos_model.specs.Moves.{Program}
use Rattle.gos_check.specs.declared.linear.Split.{Split}
use Rattle.gos_check.specs.Nodes.{Numbered, Closed, Use, Under, One, Two, If}
use Rattle.gos_check.specs.Linearity.{times, sides, used, made, SidesApart, StandsFor}

-- only nodes of two and three parts have splits
abbrev pub SplitsAtForks : Numbered → Type 0
SplitsAtForks (Closed t ss c) = ss ≡ []
SplitsAtForks (Use t ss n) = ss ≡ []
SplitsAtForks (Under t ss b n m) = (ss ≡ []) × SplitsAtForks m
SplitsAtForks (One t ss f m) = (ss ≡ []) × SplitsAtForks m
SplitsAtForks (Two t ss f m n) = SplitsAtForks m × SplitsAtForks n
SplitsAtForks (If t ss m n p) = SplitsAtForks m × SplitsAtForks n × SplitsAtForks p

-- each side of these splits is once among these numbers
abbrev pub AreOnceIn : List Split → List ℕ → Type 0
AreOnceIn ss ns = (k : ℕ) → 0 < times k (sides ss) → times k ns ≡ 1

-- Each side is used once, and in its own node; but what a node uses by itself is no side of its own.
abbrev pub SidesUsedWithin : Numbered → Type 0
SidesUsedWithin (Closed t ss c) = AreOnceIn ss (used (Closed t ss c))
SidesUsedWithin (Use t ss n) = AreOnceIn ss (used (Use t ss n)) × (times n (sides ss) ≡ 0)
SidesUsedWithin (Under t ss b n m) = AreOnceIn ss (used (Under t ss b n m)) × SidesUsedWithin m
SidesUsedWithin (One t ss f m) = AreOnceIn ss (used (One t ss f m)) × SidesUsedWithin m
SidesUsedWithin (Two t ss f m n) = AreOnceIn ss (used (Two t ss f m n)) × SidesUsedWithin m × SidesUsedWithin n
SidesUsedWithin (If t ss m n p) = AreOnceIn ss (used (If t ss m n p)) × SidesUsedWithin m × SidesUsedWithin n × SidesUsedWithin p

abbrev pub LeavesHaveNoSplits : Type 0
LeavesHaveNoSplits = (m : Numbered) → SidesUsedWithin m → ((k : ℕ) → times k (made m) ≤ 1) → SidesApart m → SplitsAtForks m

-- A typed term that stands for a program with a type is so. That the program has a type excludes locations.
abbrev pub StandingIsSplitAtForks : Type 0
StandingIsSplitAtForks =
    (p : Program) (m : Numbered) (t : Type') → StandsFor p m → Typed p.imports [] p.body t → SidesUsedWithin m × SplitsAtForks m
