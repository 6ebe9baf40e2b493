use Rattle.std.proofs.Common.{◌≡◌, ◌++◌, List, ℕ, length, map, take}
use Rattle.std.specs.Prelude.{Contains}
use Rattle.gos_netlist.specs.Seen.{number_of}
use Rattle.gos_netcheck.specs.Rules.{KeptBefore}
use Rattle.gos_netcheck.specs.inner.PortSearch.{AreTaken}
use Rattle.gos_netcheck.proofs.ports.take_all.Given as goal

-- the nets so far are new and taken
abbrev pub invariant-loop-net : goal.invariant-loop-net
invariant-loop-net l =
    (length l.taken ≡ length l.fn.taken)
    × ((before : List ℕ) → AreTaken l.fn.taken before
    → KeptBefore (λ i n. Contains (before ++ take i (map number_of l.nets)) n → ⊥) (map number_of l.nets) l.net-index
    × AreTaken l.taken (before ++ take l.net-index (map number_of l.nets)))
