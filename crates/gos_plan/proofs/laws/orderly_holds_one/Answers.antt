use Rattle.gos_plan.proofs.HeldLemmas as held
use Rattle.gos_plan.proofs.laws.orderly_holds_one.Goals as goal

pub returns : goal.returns
returns c = held.orderly_holds_one
