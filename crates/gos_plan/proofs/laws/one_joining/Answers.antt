use Rattle.gos_plan.proofs.JoiningLemmas.{joining_is_one}
use Rattle.gos_plan.proofs.laws.one_joining.Goals as goal

pub returns : goal.returns
returns c = joining_is_one
