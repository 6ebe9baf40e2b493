use Rattle.std.proofs.Common.{◌≡◌, map}
use Rattle.std.specs.Prelude.{slice_get}
use Rattle.gos_netlist.specs.Seen.{cell_of}
use Rattle.gos_netcheck.specs.Rules.{KeptBefore, Kept}
use Rattle.gos_tidy.proofs.steady.ends_stay.Given as goal

-- the cells at the ports so far are the same
abbrev pub invariant-loop-port : goal.invariant-loop-port
invariant-loop-port l = KeptBefore (λ _ p. Kept (λ _ n. slice_get (map cell_of l.others) n ≡ slice_get (map cell_of l.cells) n) p.nets) l.ports l.port-index
