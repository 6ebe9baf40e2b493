use Rattle.gos_pool.proofs.MarkLemmas.{marks_stay}
use Rattle.gos_pool.proofs.laws.marks_stay.Goals as goal

pub returns : goal.returns
returns c = marks_stay
