use Rattle.std.proofs.Common.{◌≡◌, ◌-◌, length}
use Rattle.gos_verilog.proofs.HeadLemmas.{NamesSoFar}
use Rattle.gos_verilog.proofs.head.names.Given as goal

-- the names so far are read
abbrev pub invariant-loop-cursor : goal.invariant-loop-cursor
invariant-loop-cursor l = record { text : l.cursor.text ≡ l.text; far : NamesSoFar l.initial.cursor l.cursor l.names.items }

abbrev pub decreases-loop-cursor : goal.decreases-loop-cursor
decreases-loop-cursor l = length l.text - l.cursor.at
