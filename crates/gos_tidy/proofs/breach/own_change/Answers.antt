use Rattle.std.specs.Prelude.{map}
use Rattle.std.proofs.Common.{inl}
use Rattle.gos_netlist.specs.Seen.{cell_of}
use Rattle.gos_tidy.specs.inner.Reading.{number_at}
use Rattle.gos_tidy.proofs.breach.own_change.Goals as goal

pub returns-in-Some-clause-allows : goal.returns-in-Some-clause-allows
returns-in-Some-clause-allows c =
    let folds = c.in-Some.ensures.shown in
    inl (folds.folds, number_at (map cell_of c.args.cells.now), folds.named, folds.shows)
