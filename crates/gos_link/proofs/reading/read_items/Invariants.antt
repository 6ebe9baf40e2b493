use Rattle.std.proofs.Common.{◌<◌, ◌≤◌, ◌+◌, ◌^◌, length}
use Rattle.std.specs.Str.Lines.{lines}
use Rattle.gos_lex.specs.Lines.{statements_from}
use Rattle.gos_link.proofs.ItemLemmas.{ReadSoFar}
use Rattle.gos_link.proofs.reading.read_items.Given as goal

-- whatever the rest reads as, the text reads as the lines so far and then that; and each line has a byte
abbrev pub invariant-loop-lines : goal.invariant-loop-lines
invariant-loop-lines l =
    (l.line + length l.rest < 2 ^ 64)
    × ReadSoFar l.own (statements_from 1 (lines l.text)) l.lines (statements_from l.line (lines l.rest))
    × (length l.lines + length l.rest ≤ length l.text)

abbrev pub decreases-loop-lines : goal.decreases-loop-lines
decreases-loop-lines l = length l.rest
