use Rattle.std.proofs.Common.{◌≡◌, length}
use Rattle.gos_verilog.specs.inner.Drivers.{LeadsToFeeds}
use Rattle.gos_verilog.proofs.writing.table.Given as goal

-- the table leads to nets so far
abbrev pub invariant-loop-k : goal.invariant-loop-k
invariant-loop-k l = record { long : length l.table.items ≡ l.cells; leads : LeadsToFeeds l.nets l.k l.table.items }
