use Rattle.std.proofs.Common.{◌≡◌, ◌≤◌, drop}
use Rattle.gos_lex.specs.declared.numeral.TheConstants.{GREATEST_NUMERAL}
use Rattle.gos_lex.specs.Numerals.{value_after, value_of}
use Rattle.gos_lex.proofs.numeral.number_of.Given as goal

-- the value so far, followed by the rest, is the value of all, and a numeral may have it
abbrev pub invariant-loop-b : goal.invariant-loop-b
invariant-loop-b l = (value_after l.value (drop l.b-index l.bytes) ≡ value_of l.bytes) × (l.value ≤ GREATEST_NUMERAL)
