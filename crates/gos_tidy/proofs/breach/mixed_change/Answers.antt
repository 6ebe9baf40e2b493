use Rattle.std.specs.Prelude.{map}
use Rattle.gos_netlist.specs.Seen.{cell_of}
use Rattle.gos_tidy.proofs.BreachLemmas.{none_left}
use Rattle.gos_tidy.proofs.breach.mixed_change.Goals as goal

pub returns-in-None-rest_at-clause-none : goal.returns-in-None-rest_at-clause-none
returns-in-None-rest_at-clause-none c =
    λ own. none_left (map cell_of c.args.cells.now) c.args.a.0 c.args.b.0 (c.in-None.ensures.none own) (c.in-None-rest_at.ensures.none own)
