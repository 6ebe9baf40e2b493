use Rattle.gos_macro.specs.laws.SkipPaths.{skip_puts, skip_paths}
use Rattle.gos_macro.proofs.PathLemmas.{skip_is_no_dead_end, shared_answers_pass, shared_requests_wait, shared_answers_are_not_late, counting_is_not_named}
use Rattle.gos_macro.proofs.ChoiceLemmas.{skip_puts_something, choice_puts_late, choice_puts_early}
use Rattle.gos_macro.proofs.laws.gates.small_paths.Goals as goal

pub returns-clause-skip : goal.returns-clause-skip
returns-clause-skip c = skip_paths

pub returns-clause-no_dead_end : goal.returns-clause-no_dead_end
returns-clause-no_dead_end c = skip_is_no_dead_end

pub returns-clause-puts : goal.returns-clause-puts
returns-clause-puts c = skip_puts

pub returns-clause-puts_something : goal.returns-clause-puts_something
returns-clause-puts_something c = skip_puts_something

pub returns-clause-puts_late : goal.returns-clause-puts_late
returns-clause-puts_late c = choice_puts_late

pub returns-clause-puts_early : goal.returns-clause-puts_early
returns-clause-puts_early c = choice_puts_early

pub returns-clause-answers : goal.returns-clause-answers
returns-clause-answers c = shared_answers_pass

pub returns-clause-requests : goal.returns-clause-requests
returns-clause-requests c = shared_requests_wait

pub returns-clause-late : goal.returns-clause-late
returns-clause-late c = shared_answers_are_not_late

pub returns-clause-counting : goal.returns-clause-counting
returns-clause-counting c = counting_is_not_named
