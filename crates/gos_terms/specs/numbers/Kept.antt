-- What an induction on a typed term keeps of its numbers.
--
-- Read first: Typed of gos_compile; Splits of leaves; Checked of gos_check; Inside of stages. The numbers ns are there outside the
-- node: those of the imports, of the binders above it and of the splits above it.
use Rattle.std.specs.Prelude.{ℕ, ◌+◌, ◌≤◌, List, [], ◌∷◌, ◌++◌, length, Contains}
use Rattle.gos_check.specs.Nodes.{Numbered, Closed, Use, Under, One, Two, If, node_seen}
use Rattle.gos_check.specs.Linearity.{times, used, made, SidesApart}
use Rattle.gos_check.specs.Checked.{SeenLinear, IsChecked, program_in}
use Rattle.gos_compile.specs.Wiring.{Types, all_types}
use Rattle.gos_compile.specs.Typed.{NodesTyped}
use Rattle.gos_terms.specs.leaves.Splits.{SidesUsedWithin, SplitsAtForks}
use Rattle.gos_terms.specs.wired.Modules.{numbers_from}
use Rattle.gos_terms.specs.stages.Inside.{numbers_inside, AreSplit}

-- Each number that is used, and each that is split, is there: it is one of these, or a side of a split above it, or a binder's. In a node
-- with parts what is split may be a side of a split before it. (A use has no splits, as only nodes of two parts or more do.)
abbrev pub InScope : List ℕ → Numbered → Type 0
InScope ns (Closed t ss c) = AreSplit ss ns
InScope ns (Use t ss n) = Contains ns n
InScope ns (Under t ss b n m) = AreSplit ss ns × InScope (numbers_inside ss ns ++ n ∷ []) m
InScope ns (One t ss f m) = AreSplit ss ns × InScope (numbers_inside ss ns) m
InScope ns (Two t ss f m n) = AreSplit ss ns × InScope (numbers_inside ss ns) m × InScope (numbers_inside ss ns) n
InScope ns (If t ss m n p) =
    AreSplit ss ns × InScope (numbers_inside ss ns) m × InScope (numbers_inside ss ns) n × InScope (numbers_inside ss ns) p

-- Each number is there once or made once, and used at most once; it is used where it is there. Each side of a split is used in
-- the split's own node, which has two parts or more, and the two sides in different parts. Each node has the types of its row.
pub record IsKept (types : Types) (ns : List ℕ) (m : Numbered) : Type 0 where
  pub once : (k : ℕ) → times k (made m) + times k ns ≤ 1
  pub used_once : (k : ℕ) → times k (used m) ≤ 1
  pub scope : InScope ns m
  pub within : SidesUsedWithin m
  pub apart : SidesApart m
  pub forks : SplitsAtForks m
  pub typed : NodesTyped types m

-- So it is in a checked module, with the numbers of its imports.
abbrev pub CheckedIsKept : Type 0
CheckedIsKept =
    (l : SeenLinear) → IsChecked l
    → IsKept (all_types (program_in l).imports (node_seen l.term)) (numbers_from 0 (length (program_in l).imports)) (node_seen l.term)
