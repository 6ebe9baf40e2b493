use Rattle.std.proofs.Common.{◌≡◌, ◌≤◌}
use Rattle.std.specs.Option.{IfSome}
use Rattle.std.specs.List.{slice_range}
use Rattle.gos_lex.specs.Items.{Begins}
use Rattle.gos_lex.specs.Decimals.{IsDecimalIn}
use Rattle.gos_lex.specs.inner.Digits.{digits_so_far}
use Rattle.gos_lex.proofs.decimal.decimal_run.Given as goal

-- the digits so far stand in the text, and begin a number of the range
abbrev pub invariant-loop-i : goal.invariant-loop-i
invariant-loop-i l = (slice_range l.text l.at l.i ≡ digits_so_far l.value) × Begins (IsDecimalIn l.low l.high) (digits_so_far l.value) × IfSome l.value (λ value. value ≤ l.high)
