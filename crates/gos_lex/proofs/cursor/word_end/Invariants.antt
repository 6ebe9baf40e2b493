use Rattle.std.proofs.Common.{◌≡◌, ◌+◌, ◌≤◌, length, take}
use Rattle.std.specs.List.{slice_range}
use Rattle.gos_lex.proofs.cursor.word_end.Given as goal

-- the bytes so far stand in the text
abbrev pub invariant-loop-i : goal.invariant-loop-i
invariant-loop-i l = (l.at + l.i ≤ length l.text) × (slice_range l.text l.at (l.at + l.i) ≡ take l.i l.bytes)
