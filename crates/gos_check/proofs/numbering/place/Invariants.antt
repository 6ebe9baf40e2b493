use Rattle.std.proofs.Common.{◌≡◌, drop}
use Rattle.gos_check.specs.Nodes.{node_seen}
use Rattle.gos_check.specs.Numbering.{placed}
use Rattle.gos_check.proofs.numbering.place.Given as goal

-- what is placed so far, and then what is left
abbrev pub invariant-loop-one : goal.invariant-loop-one
invariant-loop-one l =
    placed l.imports (drop l.one-index l.names) (node_seen l.node) ≡ placed l.imports l.names (node_seen l.initial.node)
