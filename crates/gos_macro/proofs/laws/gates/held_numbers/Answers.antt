use Rattle.gos_macro.proofs.PassingShareLemmas.{holds_silently, held_is_not_silent}
use Rattle.gos_macro.proofs.laws.gates.held_numbers.Goals as goal

pub returns-clause-silent : goal.returns-clause-silent
returns-clause-silent c = holds_silently

pub returns-clause-seen : goal.returns-clause-seen
returns-clause-seen c = held_is_not_silent
