-- A plan that realises a term of a ground type has a joint at each handshake of its result.
--
-- Read first: Realises of gos_realises; Realisers of gos_supplies, which says it of commands and of expressions; Buffering
-- of buffers.
use Rattle.std.specs.Prelude.{ℕ, ◌<◌}
use Rattle.gos_types.specs.Types.{Type', Var, IsGround}
use Rattle.gos_model.specs.Terms.{Term}
use Rattle.gos_plan.specs.Plans.{Plan, ResultEnd}
use Rattle.gos_realises.specs.realises.Realises.{Realises}
use Rattle.gos_joining.specs.webs.Cutting.{StandsIn}
use Rattle.gos_sharing.specs.buffers.Buffering.{ResultIsJoined, buffered}

-- Both handshakes of a variable. Else what reads it, or writes it, would ask in vain, where the program isn't stalled.
abbrev pub VariableIsJoined : Type 0
VariableIsJoined = (w : ℕ) (p : Plan) (m : Term) → Realises (Var w) p m → (j : ℕ) → j < 2 → StandsIn p (ResultEnd j)

-- And so of each ground type.
abbrev pub GroundResultIsJoined : Type 0
GroundResultIsJoined = (t : Type') (p : Plan) (m : Term) → IsGround t → Realises t p m → ResultIsJoined p

-- So the plan realises the same behind a Share, with nothing else asked.
abbrev pub BufferedGroundIsRealised : Type 0
BufferedGroundIsRealised =
    (t : Type') (c : ℕ) (p : Plan) (m : Term) → c < 2 → IsGround t → Realises t p m → Realises t (buffered t c p) m
