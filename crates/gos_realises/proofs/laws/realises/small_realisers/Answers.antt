use Rattle.gos_realises.proofs.realises.NameLemmas.{name_is_realised}
use Rattle.gos_realises.proofs.realises.SkipLemmas.{skip_is_realised}
use Rattle.gos_realises.proofs.realises.UseLemmas.{use_is_realised}
use Rattle.gos_realises.proofs.laws.realises.small_realisers.Goals as goal

pub returns-clause-skip : goal.returns-clause-skip
returns-clause-skip c = skip_is_realised

pub returns-clause-name : goal.returns-clause-name
returns-clause-name c = name_is_realised

pub returns-clause-applied : goal.returns-clause-applied
returns-clause-applied c = use_is_realised
