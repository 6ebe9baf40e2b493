use Rattle.gos_plan.proofs.StayLemmas.{tokens_stay, parts_take_what_lay}
use Rattle.gos_plan.proofs.laws.tokens_stay.Goals as goal

pub returns-clause-stay : goal.returns-clause-stay
returns-clause-stay c = tokens_stay

pub returns-clause-take : goal.returns-clause-take
returns-clause-take c = parts_take_what_lay
