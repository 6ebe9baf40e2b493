-- So each handshake of a ground result stands in a joint, and the plan realises its term behind a Share.
use Rattle.std.specs.Prelude.{◌<◌}
use Rattle.std.proofs.Common.{subst}
use Rattle.gos_types.specs.Types.{Type', Com, Exp, Var, Pair, Fun}
use Rattle.gos_realises.specs.realises.Regular.{count}
use Rattle.gos_supplies.proofs.progress.RealiserLemmas.{realisers_are_joined}
use Rattle.gos_sharing.proofs.buffers.VariableLemmas.{ground_is_buffered}
use Rattle.gos_sharing.specs.ground_types.Joints.{GroundResultIsJoined, BufferedGroundIsRealised}
use Rattle.gos_sharing.proofs.ground_types.VariableLemmas.{variable_is_joined}

pub ground_result_is_joined : GroundResultIsJoined
ground_result_is_joined Com p m ground real j small = realisers_are_joined Com p m tt real j small
ground_result_is_joined (Exp w) p m ground real j small = realisers_are_joined (Exp w) p m tt real j small
ground_result_is_joined (Var w) p m ground real j small =
    variable_is_joined w p m real j (subst (λ (t : Type'). j < count t) real.suits.outcome small)
ground_result_is_joined (Pair a b) p m ground real j small = absurd ground
ground_result_is_joined (Fun a b) p m ground real j small = absurd ground

pub buffered_ground_is_realised : BufferedGroundIsRealised
buffered_ground_is_realised t c p m two ground real =
    ground_is_buffered t c p m two ground (ground_result_is_joined t p m ground real) real
