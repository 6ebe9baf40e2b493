use Rattle.gos_sharing.proofs.buffers.BranchLemmas.{works_for_one, buffers_are_loyal}
use Rattle.gos_sharing.proofs.laws.buffers.callers.Goals as goal

pub returns-clause-works : goal.returns-clause-works
returns-clause-works c = works_for_one

pub returns-clause-loyal : goal.returns-clause-loyal
returns-clause-loyal c = buffers_are_loyal
