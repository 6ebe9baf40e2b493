use Rattle.gos_realises.proofs.realises.SmallLinkLemmas.{skip_is_slim, weight_is_needed}
use Rattle.gos_realises.proofs.laws.realises.slim.Goals as goal

pub returns-clause-skip : goal.returns-clause-skip
returns-clause-skip c = skip_is_slim

pub returns-clause-weight : goal.returns-clause-weight
returns-clause-weight c = weight_is_needed
