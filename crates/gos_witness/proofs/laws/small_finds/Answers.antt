use Rattle.gos_witness.proofs.SmallFindLemmas as lemmas
use Rattle.gos_witness.proofs.laws.small_finds.Goals as goal

pub returns-clause-first : goal.returns-clause-first
returns-clause-first c = lemmas.done_is_not_first

pub returns-clause-second : goal.returns-clause-second
returns-clause-second c = lemmas.run_is_not_second

pub returns-clause-right : goal.returns-clause-right
returns-clause-right c = lemmas.first_is_right

pub returns-clause-refused : goal.returns-clause-refused
returns-clause-refused c = lemmas.skip_is_not_refused

pub returns-clause-steps : goal.returns-clause-steps
returns-clause-steps c = lemmas.skip_takes_no_steps

pub returns-clause-spent : goal.returns-clause-spent
returns-clause-spent c = lemmas.skip_is_not_spent

pub returns-clause-large : goal.returns-clause-large
returns-clause-large c = lemmas.skip_is_not_large
