use Rattle.gos_realises.proofs.realises.TraceLemmas.{lists_are_traces}
use Rattle.gos_realises.proofs.laws.realises.lists_are_traces.Goals as goal

pub returns : goal.returns
returns c = lists_are_traces
