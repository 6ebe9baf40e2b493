use Rattle.std.proofs.Common.{◌≡◌, ◌<◌, ◌^◌, drop}
use Rattle.gos_lex.specs.Numerals.{value_after, value_of}
use Rattle.gos_lex.proofs.line_number.number.Given as goal

abbrev pub invariant-loop-digit : goal.invariant-loop-digit
invariant-loop-digit l = (value_of l.word ≡ value_after l.value (drop l.digit-index l.word)) × (l.value < 2 ^ 64)
