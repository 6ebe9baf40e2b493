use Rattle.std.proofs.Common.{◌≡◌, ◌≤◌, length, drop}
use Rattle.gos_verilog.specs.inner.Breaks.{LeadsOn}
use Rattle.gos_verilog.specs.inner.Left.{LeftOutputs}
use Rattle.gos_verilog.proofs.OutputLemmas.{OutputsSoFar}
use Rattle.gos_verilog.proofs.outputs.outputs.Given as goal

-- the outputs so far are read
abbrev pub invariant-loop-k : goal.invariant-loop-k
invariant-loop-k l =
    record { within : l.cursor.at ≤ length l.cursor.text; left : LeadsOn (LeftOutputs l.nets) (LeftOutputs (drop l.k l.nets)) (record { text = l.rest; at = 0 }) l.cursor; count : length l.known.items ≡ l.k; far : OutputsSoFar l.rest l.nets l.inputs.cells.items l.cursor l.k l.known.items }
