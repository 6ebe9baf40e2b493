use Rattle.gos_expand.proofs.AcceptLemmas.{laid_accepted, all_cut}
use Rattle.gos_expand.proofs.FewLemmas.{laid_small}
use Rattle.gos_expand.proofs.laws.laid_is_accepted.Goals as goal

pub returns-clause-accepted : goal.returns-clause-accepted
returns-clause-accepted c = laid_accepted

pub returns-clause-cut : goal.returns-clause-cut
returns-clause-cut c = all_cut

pub returns-clause-few : goal.returns-clause-few
returns-clause-few c = laid_small
