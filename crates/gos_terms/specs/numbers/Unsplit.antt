-- A node `m || n` of a typed term has no splits, as nothing is free on both sides, and neither has an application.
--
-- Read first: Kept; Typing of gos_model (`Apart`).
use Rattle.std.specs.Prelude.{◌≡◌, List, [], ◌∷◌}
use Rattle.gos_types.specs.Types.{Com, Fun}
use Rattle.gos_check.specs.declared.linear.Split.{Split}
use Rattle.gos_check.specs.Nodes.{Numbered, Closed, Use, Under, One, Two, If, TwoForm, OfApp, OfPar, node_seen}
use Rattle.gos_check.specs.Checked.{SeenLinear, IsChecked}
use Rattle.gos_terms.specs.leaves.SmallSplits.{twice}

-- what the form and the splits of a node of two parts may have to be
abbrev pub Row : Type 1
Row = TwoForm → List Split → Type 0

-- each node of two parts within is so
abbrev pub AtForks : Row → Numbered → Type 0
AtForks P (Closed t ss c) = Unit {0}
AtForks P (Use t ss n) = Unit {0}
AtForks P (Under t ss b n m) = AtForks P m
AtForks P (One t ss f m) = AtForks P m
AtForks P (Two t ss f m n) = P f ss × AtForks P m × AtForks P n
AtForks P (If t ss m n p) = AtForks P m × AtForks P n × AtForks P p

-- of the forms of two parts `||` has no splits
abbrev pub ParallelUnsplit : Row
ParallelUnsplit OfPar ss = ss ≡ []
ParallelUnsplit f ss = Unit {0}

-- and neither has an application
abbrev pub AppliedUnsplit : Row
AppliedUnsplit OfApp ss = ss ≡ []
AppliedUnsplit f ss = Unit {0}

-- no node `m || n` within has splits
abbrev pub ParallelsAreUnsplit : Numbered → Type 0
ParallelsAreUnsplit = AtForks ParallelUnsplit

-- no node within that applies has splits
abbrev pub ApplicationsAreUnsplit : Numbered → Type 0
ApplicationsAreUnsplit = AtForks AppliedUnsplit

-- So it is in a checked module.
abbrev pub CheckedIsUnsplit : Type 0
CheckedIsUnsplit =
    (l : SeenLinear) → IsChecked l → ParallelsAreUnsplit (node_seen l.term) × ApplicationsAreUnsplit (node_seen l.term)

-- a sequence may use a number twice
abbrev pub TwiceIsUnsplit : Type 0
TwiceIsUnsplit = ParallelsAreUnsplit twice

-- but not both sides of `||`
abbrev pub both_sides : Numbered
both_sides = Two Com (record { of = 0; left = 1; right = 2 } ∷ []) OfPar (Use Com [] 1) (Use Com [] 2)

abbrev pub SidesAreNotUnsplit : Type 0
SidesAreNotUnsplit = ParallelsAreUnsplit both_sides → ⊥

-- nor a function and its argument
abbrev pub applied_sides : Numbered
applied_sides = Two Com (record { of = 0; left = 1; right = 2 } ∷ []) OfApp (Use (Fun Com Com) [] 1) (Use Com [] 2)

abbrev pub AppliedAreNotUnsplit : Type 0
AppliedAreNotUnsplit = ApplicationsAreUnsplit applied_sides → ⊥

-- which a node that is no application doesn't matter to
abbrev pub OthersAreUnsplit : Type 0
OthersAreUnsplit = ApplicationsAreUnsplit both_sides
