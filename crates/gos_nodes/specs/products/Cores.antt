-- The sides of the plan of a product are done by their regions: all else of it stands still.
--
-- Read first: Both; Core of gos_sharing; Wirings of gos_realises.
use Rattle.gos_types.specs.Types.{Type'}
use Rattle.gos_plan.specs.Plans.{Plan}
use Rattle.gos_realises.specs.realises.Regular.{count}
use Rattle.gos_realises.specs.realises.Links.{IsJoined}
use Rattle.gos_realises.specs.realises.Wirings.{side}
use Rattle.gos_sharing.specs.cores.Core.{Core, IsCore, IsStill}
use Rattle.gos_nodes.specs.products.Both.{Side, IsBoth}

-- c is a core of s, beside which all stands still
abbrev pub IsStillCore : Plan → Plan → Type 0
IsStillCore s c = (f : Core) × IsCore f s c × IsStill f s c

-- Each side of the product, joined, has its region's plan for such a core.
abbrev pub SidesAreCores : Type 0
SidesAreCores =
    (a b : Type') (r : Plan) (g e : Side)
    → IsBoth a b r g e
    → ((s : Plan) → IsJoined (side 0 a r) s → IsStillCore s g.plan) × ((s : Plan) → IsJoined (side (count a) b r) s → IsStillCore s e.plan)
