use Rattle.gos_joining.proofs.webs.CutLemmas.{element_is_cut, list_is_cut}
use Rattle.gos_joining.proofs.webs.CutListLemmas.{cut_list_is}
use Rattle.gos_joining.proofs.webs.IdleLemmas.{idle_is_cut}
use Rattle.gos_joining.proofs.laws.webs.lists_are_cut.Goals as goal

pub returns-clause-element : goal.returns-clause-element
returns-clause-element c = element_is_cut

pub returns-clause-list : goal.returns-clause-list
returns-clause-list c = list_is_cut

pub returns-clause-idle : goal.returns-clause-idle
returns-clause-idle c = idle_is_cut

pub returns-clause-one : goal.returns-clause-one
returns-clause-one c = cut_list_is
