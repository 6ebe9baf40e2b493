-- A plan behind a Share of which one caller alone is joined realises what it realises without, at every type.
--
-- Read first: Behind of behind; Realises of gos_realises.
use Rattle.std.specs.Prelude.{ℕ, ◌<◌}
use Rattle.gos_types.specs.Types.{Type'}
use Rattle.gos_model.specs.Terms.{Term}
use Rattle.gos_plan.specs.Plans.{Plan}
use Rattle.gos_realises.specs.realises.Realises.{Realises}
use Rattle.gos_sharing.specs.behind.Behind.{passing}

-- The plan realises the same behind either caller of a Share.
abbrev pub AnyPassingIsRealised : Type 0
AnyPassingIsRealised = (t : Type') (c : ℕ) (p : Plan) (m : Term) → c < 2 → Realises t p m → Realises t (passing t c p) m
