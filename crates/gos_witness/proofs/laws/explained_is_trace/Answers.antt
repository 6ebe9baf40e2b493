use Rattle.gos_witness.proofs.ExplainLemmas as lemmas
use Rattle.gos_witness.proofs.laws.explained_is_trace.Goals as goal

pub returns : goal.returns
returns c = lemmas.explained_is_trace
