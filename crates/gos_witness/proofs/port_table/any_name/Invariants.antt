use Rattle.std.proofs.Common.{◌≡◌}
use Rattle.gos_lex.specs.Items.{Misses}
use Rattle.gos_lex.proofs.WordTableLemmas.{IsAmongFirst}
use Rattle.gos_witness.proofs.port_table.any_name.Given as goal

-- the names so far don't stand
abbrev pub invariant-loop-k : goal.invariant-loop-k
invariant-loop-k l = (l.cursor ≡ l.initial.cursor) × Misses (IsAmongFirst l.k l.names) l.initial.cursor.text l.initial.cursor.at l.furthest
