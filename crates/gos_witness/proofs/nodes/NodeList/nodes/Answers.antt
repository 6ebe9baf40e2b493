use Rattle.std.proofs.Common.{subst}
use Rattle.gos_witness.specs.NodeLists.{Listed, IsKept}
use Rattle.gos_witness.proofs.nodes.NodeList.nodes.Goals as goal

pub returns-clause-right : goal.returns-clause-right
returns-clause-right c = subst (λ (x : Listed). IsKept x) c.self.view_is c.self.invariant
