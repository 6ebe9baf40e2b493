use Rattle.std.proofs.Common.{refl}
use Rattle.gos_macro.proofs.laws.path_search.small_searches.Goals as goal

pub returns-clause-skip : goal.returns-clause-skip
returns-clause-skip c = (refl, refl)

pub returns-clause-shared : goal.returns-clause-shared
returns-clause-shared c = (refl, refl, refl)

pub returns-clause-late : goal.returns-clause-late
returns-clause-late c = refl
