use Rattle.gos_realises.proofs.realises.FunctionLemmas.{empty_is_no_function}
use Rattle.gos_realises.proofs.realises.SmallLemmas.{other_types_are_not, no_number_is_done, wild_is_not, large_does_not_suit, function_import_does_not_suit, wide_function_is_none, wide_import_is_none}
use Rattle.gos_realises.proofs.realises.TraceLemmas.{empty_is_not_skip, order_is_told}
use Rattle.gos_realises.proofs.laws.realises.others_are_refused.Goals as goal

pub returns-clause-empty : goal.returns-clause-empty
returns-clause-empty c = empty_is_not_skip

pub returns-clause-function : goal.returns-clause-function
returns-clause-function c = empty_is_no_function

pub returns-clause-order : goal.returns-clause-order
returns-clause-order c = order_is_told

pub returns-clause-other : goal.returns-clause-other
returns-clause-other c = other_types_are_not

pub returns-clause-number : goal.returns-clause-number
returns-clause-number c = no_number_is_done

pub returns-clause-wild : goal.returns-clause-wild
returns-clause-wild c = wild_is_not

pub returns-clause-large : goal.returns-clause-large
returns-clause-large c = large_does_not_suit

pub returns-clause-function_import : goal.returns-clause-function_import
returns-clause-function_import c = function_import_does_not_suit

pub returns-clause-wide_function : goal.returns-clause-wide_function
returns-clause-wide_function c = wide_function_is_none

pub returns-clause-wide_import : goal.returns-clause-wide_import
returns-clause-wide_import c = wide_import_is_none
