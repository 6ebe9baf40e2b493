-- Cells that are narrow are so as clauses of netlists see them.
use Rattle.std.proofs.Common.{◌≤◌, All, List, map}
use Rattle.std.proofs.lemmas.List.Elements.{All-map}
use Rattle.gos_netlist.specs.Nets.{Cell}
use Rattle.gos_netlist.specs.Seen.{cell_of}
use Rattle.gos_netlist.specs.declared.nets.Cell.{Cell as Written}

pub narrow_as_seen : (cells : List Written) → All (λ c. c.width ≤ 64) cells → All (λ c. c.width ≤ 64) (map cell_of cells)
narrow_as_seen cells h = All-map (λ (c : Cell). c.width ≤ 64) cell_of cells h
