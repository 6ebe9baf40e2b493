-- The plan of a product of two sides realises the pair of two terms where the regions realise these.
--
-- Read first: Both, Cores; Pairs of gos_supplies.
use Rattle.std.specs.Prelude.{All}
use Rattle.gos_types.specs.Types.{Type', Pair}
use Rattle.gos_model.specs.Terms.{Term, Both}
use Rattle.gos_plan.specs.Plans.{Plan}
use Rattle.gos_plan.specs.TokenBits.{LiteralFits}
use Rattle.gos_realises.specs.realises.Realises.{AllPorts, Realises}
use Rattle.gos_realises.specs.realises.Regular.{IsRegular}
use Rattle.gos_nodes.specs.products.Both.{Side, IsBoth}

-- with imports that are ports
abbrev pub SidesRealiseBoth : Type 0
SidesRealiseBoth =
    (a b : Type') (r : Plan) (g e : Side) (m n : Term)
    → IsBoth a b r g e → IsRegular r → All LiteralFits r.parts → AllPorts r.imports → Realises a g.plan m → Realises b e.plan n
    → Realises (Pair a b) r (Both m n)
