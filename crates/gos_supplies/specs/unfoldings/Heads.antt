-- Head expansion: a plan realises a term where it realises what the term's head unfolds to, at every type.
--
-- Read first: Reach of gos_model; Realises of gos_realises. At a function type the argument stands behind the head, and at
-- a product a projection before it, so that the head then stands below another one.
use Rattle.std.specs.Prelude.{◌⊎◌, []}
use Rattle.gos_types.specs.Types.{Type'}
use Rattle.gos_model.specs.Terms.{Term}
use Rattle.gos_model.specs.Typing.{Typed}
use Rattle.gos_model.specs.Reach.{Rel, Under, Rewrites}
use Rattle.gos_plan.specs.Plans.{Plan}
use Rattle.gos_realises.specs.realises.Realises.{Realises}

-- one unfolding of the term's own head, which is the term itself or stands below applications and projections
abbrev pub UnfoldsHead : Rel
UnfoldsHead m n = Rewrites m n ⊎ Under Rewrites m n

-- A plan realises a term, at any type, where it realises what the term's head unfolds to.
abbrev pub HeadIsRealised : Type 0
HeadIsRealised =
    (t : Type') (p : Plan) (m n : Term) → UnfoldsHead m n → Typed p.imports [] m t → Realises t p n → Realises t p m
