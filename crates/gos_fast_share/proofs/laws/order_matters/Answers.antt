use Rattle.gos_fast_share.proofs.OrderLemmas as lemmas
use Rattle.gos_fast_share.proofs.laws.order_matters.Goals as goal

pub returns-clause-ranks : goal.returns-clause-ranks
returns-clause-ranks c = lemmas.requests_are_first

pub returns-clause-other_ranks : goal.returns-clause-other_ranks
returns-clause-other_ranks c = lemmas.answer_is_not_first

pub returns-clause-keep : goal.returns-clause-keep
returns-clause-keep c = lemmas.command_keeps

pub returns-clause-other : goal.returns-clause-other
returns-clause-other c = lemmas.other_order_fails

pub returns-clause-fixed : goal.returns-clause-fixed
returns-clause-fixed c = lemmas.fixed_order_fails
