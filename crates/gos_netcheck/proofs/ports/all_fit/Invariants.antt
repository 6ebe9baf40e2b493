use Rattle.std.proofs.Common.{map}
use Rattle.std.specs.Prelude.{slice_get}
use Rattle.gos_netlist.specs.Seen.{cell_of, number_of}
use Rattle.gos_netcheck.specs.Rules.{KeptBefore}
use Rattle.gos_netcheck.specs.PortRules.{FitsAt}
use Rattle.gos_netcheck.proofs.ports.all_fit.Given as goal

-- all nets so far fit
abbrev pub invariant-loop-i : goal.invariant-loop-i
invariant-loop-i l = KeptBefore (λ i n. FitsAt (map cell_of l.cells) (slice_get l.places i) n) (map number_of l.nets) l.i
