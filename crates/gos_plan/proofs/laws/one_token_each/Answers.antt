use Rattle.gos_plan.proofs.laws.one_token_each.Goals as goal
use Rattle.gos_plan.proofs.TurnLemmas as turns

pub returns : goal.returns
returns c = turns.one_token_each
