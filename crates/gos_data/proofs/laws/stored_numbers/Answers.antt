use Rattle.gos_data.specs.laws.StoredKept.{stored_is_kept, kept_is_not_stored}
use Rattle.gos_data.proofs.laws.stored_numbers.Goals as goal

pub returns : goal.returns
returns c = record { kept = stored_is_kept; cleared = kept_is_not_stored }
