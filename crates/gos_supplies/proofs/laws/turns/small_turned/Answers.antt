use Rattle.gos_supplies.proofs.turns.SmallTurnedLemmas.{same_of_skip_is_regular, call_is_name, unjoined_is_none}
use Rattle.gos_supplies.proofs.turns.SmallRestLemmas.{call_rests, astray_does_not_rest}
use Rattle.gos_supplies.proofs.laws.turns.small_turned.Goals as goal

pub returns-clause-same : goal.returns-clause-same
returns-clause-same c = same_of_skip_is_regular c.functions.ensures.same c.small_realisers.ensures.skip

pub returns-clause-call : goal.returns-clause-call
returns-clause-call c = call_is_name

pub returns-clause-unjoined : goal.returns-clause-unjoined
returns-clause-unjoined c = unjoined_is_none

pub returns-clause-rests : goal.returns-clause-rests
returns-clause-rests c = call_rests

pub returns-clause-astray : goal.returns-clause-astray
returns-clause-astray c = astray_does_not_rest
