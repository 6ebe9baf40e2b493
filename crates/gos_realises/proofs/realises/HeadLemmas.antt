-- A plan realises a head where it realises what the head unfolds to.
use Rattle.std.proofs.Common.{inl}
use Rattle.gos_model.proofs.HeadLemmas.{head_ready}
use Rattle.gos_realises.specs.realises.Functions.{HeadsAreRealised}
use Rattle.gos_realises.proofs.realises.ReadyLemmas.{ready_is_realised}

pub heads_are_realised : HeadsAreRealised
heads_are_realised p m n rewrites = ready_is_realised p m n (head_ready m n (inl rewrites))
