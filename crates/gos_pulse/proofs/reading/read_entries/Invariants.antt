use Rattle.std.proofs.Common.{◌<◌, ◌+◌, ◌^◌, length}
use Rattle.std.specs.Str.Lines.{lines}
use Rattle.gos_lex.specs.Lines.{statements_from}
use Rattle.gos_pulse.proofs.EntryLemmas.{ReadSoFar}
use Rattle.gos_pulse.proofs.reading.read_entries.Given as goal

-- whatever the rest reads as, the text reads as the entries so far and then that
abbrev pub invariant-loop-entries : goal.invariant-loop-entries
invariant-loop-entries l =
    (l.line + length l.rest < 2 ^ 64)
    × ReadSoFar l.net l.cycles (statements_from l.from (lines l.text)) l.entries.items (statements_from l.line (lines l.rest))

abbrev pub decreases-loop-entries : goal.decreases-loop-entries
decreases-loop-entries l = length l.rest
