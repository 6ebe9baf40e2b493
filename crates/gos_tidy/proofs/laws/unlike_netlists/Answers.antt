use Rattle.gos_tidy.proofs.SmallTidyLemmas.{silent_is_not_alike}
use Rattle.gos_tidy.proofs.laws.unlike_netlists.Goals as goal

pub returns : goal.returns
returns c = silent_is_not_alike
