use Rattle.gos_swaps.proofs.needed.BlockedLemmas as lemmas
use Rattle.gos_swaps.proofs.laws.needed.blocked_places.Goals as goal

pub returns-clause-stays : goal.returns-clause-stays
returns-clause-stays c = lemmas.blocked_stays

pub returns-clause-absent : goal.returns-clause-absent
returns-clause-absent c = lemmas.absent_never_comes
