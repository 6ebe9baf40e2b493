use Rattle.gos_macro.specs.path_search.laws.Told.{told_is_kept}
use Rattle.gos_macro.proofs.laws.path_search.told_is_kept.Goals as goal

pub returns : goal.returns
returns c = told_is_kept
