use Rattle.gos_terms.proofs.applying.ReadLemmas.{deref_is_reading}
use Rattle.gos_terms.proofs.laws.applying.derefs_are_readings.Goals as goal

pub returns : goal.returns
returns c = deref_is_reading
