use Rattle.std.proofs.Common.{◌≡◌, map, length}
use Rattle.gos_netlist.specs.Seen.{cell_of}
use Rattle.gos_netcheck.specs.Rules.{KeptBefore}
use Rattle.gos_tidy.specs.inner.Fixed.{IsHeld}
use Rattle.gos_tidy.proofs.steady.all_held.Given as goal

-- all cells so far stand there, or the constants that they show for ever
abbrev pub invariant-loop-n : goal.invariant-loop-n
invariant-loop-n l = KeptBefore (IsHeld (map cell_of l.others)) (map cell_of l.cells) l.n
