use Rattle.std.proofs.Common.{◌≡◌, ◌++◌, map, drop}
use Rattle.gos_netlist.specs.Seen.{number_of}
use Rattle.gos_netcheck.specs.PortRules.{inputs_among}
use Rattle.gos_netcheck.proofs.ports.inputs.Given as goal

-- the inputs so far and those among the rest
abbrev pub invariant-loop-i : goal.invariant-loop-i
invariant-loop-i l =
    map number_of l.inputs.items ++ inputs_among (drop l.i l.places) (map number_of (drop l.i l.nets))
    ≡ inputs_among l.places (map number_of l.nets)
