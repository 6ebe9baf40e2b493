use Rattle.gos_joining.proofs.webs.SmallWebLemmas.{unjoined_is_not, swap_is_renumbering, swap_is_seen, first_is_cut, wrong_is_no_cut, first_is_once}
use Rattle.gos_joining.proofs.laws.webs.small_webs.Goals as goal

pub returns-clause-unjoined : goal.returns-clause-unjoined
returns-clause-unjoined c = unjoined_is_not

pub returns-clause-swap : goal.returns-clause-swap
returns-clause-swap c = swap_is_renumbering

pub returns-clause-seen : goal.returns-clause-seen
returns-clause-seen c = swap_is_seen

pub returns-clause-first : goal.returns-clause-first
returns-clause-first c = first_is_cut

pub returns-clause-wrong : goal.returns-clause-wrong
returns-clause-wrong c = wrong_is_no_cut

pub returns-clause-once : goal.returns-clause-once
returns-clause-once c = first_is_once
