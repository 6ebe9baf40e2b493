use Rattle.gos_realises.proofs.realises.SkipLemmas.{skip_is_realised}
use Rattle.gos_realises.proofs.realises.SmallTurnLemmas.{both_sides_are_not}
use Rattle.gos_realises.proofs.laws.realises.turns.Goals as goal

pub returns-clause-skip : goal.returns-clause-skip
returns-clause-skip c = skip_is_realised.suits.regular

pub returns-clause-both : goal.returns-clause-both
returns-clause-both c = both_sides_are_not
