use Rattle.std.proofs.Common.{◌≡◌, true}
use Rattle.gos_verilog.specs.inner.CellLines.{is_wire}
use Rattle.gos_verilog.proofs.driven.likely.Given as goal

-- the kind so far is that of a wire
abbrev pub invariant-loop-b : goal.invariant-loop-b
invariant-loop-b l = (goal.iterator-loop-b).can_next l.b-iterator × (goal.iterator-loop-b).is_finite l.b-iterator × (is_wire l.kind ≡ true)
