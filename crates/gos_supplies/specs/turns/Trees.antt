-- Trees of instances: where the plan of each is regular, so is the joining of all.
--
-- Read first: Composed; Trees of instances.
use Rattle.std.specs.Prelude.{ℕ, All}
use Rattle.gos_plan.specs.Plans.{Plan}
use Rattle.gos_plan.specs.TokenBits.{LiteralFits}
use Rattle.gos_plan.specs.Joining.{Wiring, IsJoining}
use Rattle.gos_realises.specs.realises.Regular.{IsRegular}
use Rattle.gos_joining.specs.webs.Renumbering.{Renumber}
use Rattle.gos_joining.specs.renumbered.Rewired.{IsRewired}
use Rattle.gos_supplies.specs.instances.Trees.{Tree, Alone, Serve, wired, IsTree}

-- the plan of each instance is regular, and its literals fit their widths
abbrev pub AreRegular : Tree → Type 0
AreRegular (Alone p m) = All LiteralFits p.parts × IsRegular p
AreRegular (Serve is js x t u) = AreRegular t × AreRegular u

abbrev pub TreeIsRegular : Type 0
TreeIsRegular = (t : Tree) (r : Plan) → IsTree t → AreRegular t → IsJoining (wired t) r → IsRegular r

-- The order of the instances is free.
abbrev pub RewiredTreeIsRegular : Type 0
RewiredTreeIsRegular =
    (t : Tree) (w : Wiring) (forth back : ℕ → ℕ) (f : ℕ → Renumber) (r : Plan)
    → IsTree t → AreRegular t → IsRewired forth back f w (wired t) → IsJoining w r → IsRegular r
