use Rattle.gos_check.proofs.LengthLemmas.{others_are_refused, four_is_taken}
use Rattle.gos_check.proofs.laws.lengths.Goals as goal

pub returns-clause-others : goal.returns-clause-others
returns-clause-others c = others_are_refused

pub returns-clause-four : goal.returns-clause-four
returns-clause-four c = four_is_taken
