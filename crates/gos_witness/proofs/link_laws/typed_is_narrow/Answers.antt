use Rattle.gos_witness.proofs.NarrowLemmas.{typed_narrow}
use Rattle.gos_witness.proofs.link_laws.typed_is_narrow.Goals as goal

pub returns : goal.returns
returns c = typed_narrow
