use Rattle.gos_terms.proofs.applying.SmallUseLemmas.{two_are_parted, one_is_not_parted, uses_are_apart, same_uses_are_not, wrong_is_placed, empty_is_not_placed, skip_can_be_wired, wrong_cannot}
use Rattle.gos_terms.proofs.laws.applying.small_uses.Goals as goal

pub returns-clause-parted : goal.returns-clause-parted
returns-clause-parted c = two_are_parted

pub returns-clause-not_parted : goal.returns-clause-not_parted
returns-clause-not_parted c = one_is_not_parted

pub returns-clause-apart : goal.returns-clause-apart
returns-clause-apart c = uses_are_apart

pub returns-clause-not_apart : goal.returns-clause-not_apart
returns-clause-not_apart c = same_uses_are_not

pub returns-clause-placed : goal.returns-clause-placed
returns-clause-placed c = wrong_is_placed

pub returns-clause-not_placed : goal.returns-clause-not_placed
returns-clause-not_placed c = empty_is_not_placed

pub returns-clause-can : goal.returns-clause-can
returns-clause-can c = skip_can_be_wired

pub returns-clause-cannot : goal.returns-clause-cannot
returns-clause-cannot c = wrong_cannot
