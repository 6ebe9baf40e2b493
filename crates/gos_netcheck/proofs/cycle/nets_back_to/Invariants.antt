use Rattle.std.proofs.Common.{◌≡◌, ℕ, ◌<◌, map, reverse, take}
use Rattle.std.specs.Prelude.{Some, slice_get}
use Rattle.gos_netlist.specs.Seen.{number_of}
use Rattle.gos_netcheck.proofs.cycle.nets_back_to.Given as goal

-- the nets so far are the last ones of the path, and none of them is the one that is looked for
abbrev pub invariant-loop-i : goal.invariant-loop-i
invariant-loop-i l =
    (map number_of l.nets.items ≡ take l.i (reverse (map number_of l.path)))
    × ((k : ℕ) → k < l.i → slice_get (reverse (map number_of l.path)) k ≡ Some l.net.0 → ⊥)
