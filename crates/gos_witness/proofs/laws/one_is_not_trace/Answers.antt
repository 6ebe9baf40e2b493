use Rattle.gos_witness.proofs.FindLemmas as lemmas
use Rattle.gos_witness.proofs.laws.one_is_not_trace.Goals as goal

pub returns-clause-one : goal.returns-clause-one
returns-clause-one c = lemmas.one_is_not_trace

pub returns-clause-explained : goal.returns-clause-explained
returns-clause-explained c = lemmas.explained_is_not_refused
