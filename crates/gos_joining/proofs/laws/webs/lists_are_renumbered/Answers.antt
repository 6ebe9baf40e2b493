use Rattle.gos_joining.proofs.webs.MovedLemmas.{does_is_moved, runs_is_moved, quiet_is_moved}
use Rattle.gos_joining.proofs.laws.webs.lists_are_renumbered.Goals as goal

pub returns-clause-element : goal.returns-clause-element
returns-clause-element c = does_is_moved

pub returns-clause-list : goal.returns-clause-list
returns-clause-list c = runs_is_moved

pub returns-clause-quiet : goal.returns-clause-quiet
returns-clause-quiet c = quiet_is_moved
