use Rattle.std.proofs.Common.{◌≡◌, ◌-◌, ◌^◌, ◌<◌}
use Rattle.std.specs.Fmt.{decimal}
use Rattle.std.specs.List.{slice_range}
use Rattle.gos_lex.proofs.decimal.plain_number.Given as goal

-- the digits so far stand in the text, and their value has so many
abbrev pub invariant-loop-i : goal.invariant-loop-i
invariant-loop-i l =
    (slice_range l.text l.at l.i ≡ decimal l.value) × (0 < l.value) × (l.value < 10 ^ (l.i - l.at)) × (l.value < 1000000000000000000)
