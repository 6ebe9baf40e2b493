use Rattle.std.proofs.Common.{◌≡◌, ◌+◌, ◌++◌, List, length, map, take}
use Rattle.gos_macro.specs.declared.gates.Wire.{Wire}
use Rattle.gos_macro.specs.Wires.{nets_in, HoldNets}
use Rattle.gos_fast_share.specs.inner.Seen.{all_of, from, side_outs, blocks_size}
use Rattle.gos_fast_share.proofs.sides.fill_side.Given as goal

-- whatever holds the nets to come holds all nets, behind the wires so far
abbrev pub invariant-loop-j : goal.invariant-loop-j
invariant-loop-j l =
    ((behind : List Wire) → HoldNets (side_outs l.side l.base l.at (from l.j l.ty)) behind → HoldNets (side_outs l.side l.base l.start (all_of l.ty)) (take l.j l.wires ++ behind))
    × (map nets_in l.wires ≡ map nets_in l.initial.wires)
    × (length l.wires ≡ length l.initial.wires)
    × (l.j + length (from l.j l.ty) ≡ length (all_of l.ty))
    × (l.at + blocks_size (from l.j l.ty) ≡ l.start + blocks_size (all_of l.ty))
