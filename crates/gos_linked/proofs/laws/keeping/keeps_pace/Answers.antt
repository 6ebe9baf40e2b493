use Rattle.gos_linked.proofs.laws.keeping.keeps_pace.Goals as goal
use Rattle.gos_linked.proofs.keeping.KeepingLemmas.{net_keeps_pace}

pub returns : goal.returns
returns c = net_keeps_pace
