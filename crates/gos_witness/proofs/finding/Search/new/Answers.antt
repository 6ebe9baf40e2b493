use Rattle.std.proofs.Common.{List, subst}
use Rattle.gos_witness.specs.declared.program.ProgramPort.{ProgramPort}
use Rattle.gos_witness.specs.inner.PortMasks.{AreMasks}
use Rattle.gos_witness.proofs.finding.Search.new.Goals as goal

pub returns-clause-masks : goal.returns-clause-masks
returns-clause-masks c = λ l. subst (λ (z : List ProgramPort). AreMasks z l c.in_ok-masks.masks) c.ports.ensures.value (c.in_ok-masks.ensures l)
