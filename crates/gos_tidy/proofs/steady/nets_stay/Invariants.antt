use Rattle.std.proofs.Common.{◌≡◌, map}
use Rattle.std.specs.Prelude.{slice_get}
use Rattle.gos_netlist.specs.Seen.{cell_of, number_of}
use Rattle.gos_netcheck.specs.Rules.{KeptBefore}
use Rattle.gos_tidy.proofs.steady.nets_stay.Given as goal

-- the cells of the nets so far are the same
abbrev pub invariant-loop-net : goal.invariant-loop-net
invariant-loop-net l = KeptBefore (λ _ n. slice_get (map cell_of l.others) n ≡ slice_get (map cell_of l.cells) n) (map number_of l.nets) l.net-index
