use Rattle.std.specs.Prelude.{map}
use Rattle.gos_netlist.specs.Seen.{cell_of, number_of}
use Rattle.gos_netcheck.proofs.LevelLemmas.{AreLevelsBefore}
use Rattle.gos_netcheck.proofs.levels.levels_of.Given as goal

-- the nets so far have their levels
abbrev pub invariant-loop-net : goal.invariant-loop-net
invariant-loop-net l = AreLevelsBefore (map cell_of l.cells) (map number_of l.order) l.net-index l.levels.items
