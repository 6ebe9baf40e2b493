use Rattle.gos_realises.proofs.joined.JoiningLemmas.{fitting_is_joined}
use Rattle.gos_realises.proofs.joined.WholeLemmas.{applied_is_joined, sides_are_joined, variables_are_joined, supplied_is_joined, variables_have_widths}
use Rattle.gos_realises.proofs.laws.joined.joinings.Goals as goal

pub returns-clause-fitting : goal.returns-clause-fitting
returns-clause-fitting c = fitting_is_joined

pub returns-clause-applied : goal.returns-clause-applied
returns-clause-applied c = applied_is_joined

pub returns-clause-sides : goal.returns-clause-sides
returns-clause-sides c = sides_are_joined

pub returns-clause-variables : goal.returns-clause-variables
returns-clause-variables c = variables_are_joined

pub returns-clause-supplied : goal.returns-clause-supplied
returns-clause-supplied c = supplied_is_joined

pub returns-clause-widths : goal.returns-clause-widths
returns-clause-widths c = variables_have_widths
