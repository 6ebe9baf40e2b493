use Rattle.gos_supplies.proofs.typing.NameLemmas.{typed_under_fewer}
use Rattle.gos_supplies.proofs.laws.typing.names.Goals as goal

pub returns : goal.returns
returns c = typed_under_fewer
