use Rattle.gos_nodes.proofs.windows.KeepingLemmas as keeping
use Rattle.gos_nodes.proofs.laws.windows.turns_keep_protocol.Goals as goal

pub returns : goal.returns
returns c = keeping.turns_keep_protocol
