use Rattle.gos_supplies.proofs.unfoldings.SmallHeadLemmas.{argument_unfolds, below_unfolds, function_is_no_head, inside_is_no_head, unfolded_is_realised}
use Rattle.gos_supplies.proofs.laws.unfoldings.small_heads.Goals as goal

pub returns-clause-argument : goal.returns-clause-argument
returns-clause-argument c = argument_unfolds

pub returns-clause-below : goal.returns-clause-below
returns-clause-below c = below_unfolds

pub returns-clause-function : goal.returns-clause-function
returns-clause-function c = function_is_no_head

pub returns-clause-inside : goal.returns-clause-inside
returns-clause-inside c = inside_is_no_head

pub returns-clause-realised : goal.returns-clause-realised
returns-clause-realised c = unfolded_is_realised
