use Rattle.gos_syntax.proofs.LeadsLemmas.{stops_after}
use Rattle.gos_syntax.proofs.StopLemmas.{passed_on}
use Rattle.gos_syntax.proofs.source.Source.imports.Goals as goal

pub returns-in_err-import-clause-refused : goal.returns-in_err-import-clause-refused
returns-in_err-import-clause-refused c =
    passed_on c.from_residual.result c.from_residual.ensures.1 (stops_after c.loop-alloc.invariant.read c.in_err-import.ensures.refused)
