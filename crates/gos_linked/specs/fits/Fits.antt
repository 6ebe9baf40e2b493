-- Linking keeps plans slim, and slim plans are small for their weight and never too large.
--
-- Read first: Linked and Answers of gos_link; Slim of gos_realises. The plans of `compile` are slim, by its contract.
use Rattle.std.specs.Prelude.{ℕ, ◌+◌, ◌*◌, ◌≤◌, List, [], ◌∷◌}
use Rattle.gos_plan.specs.Plans.{Plan}
use Rattle.gos_plan.specs.Seen.{SeenPlan}
use Rattle.gos_plan.specs.Size.{plan_size}
use Rattle.gos_realises.specs.realises.Slim.{IsSlim}
use Rattle.gos_link.specs.declared.build.Build.{Build}
use Rattle.gos_link.specs.declared.fault.LinkFault.TheVariants as faults
use Rattle.gos_link.specs.Linked.{plans_of, IsLinked, IsUnlinked}
use Rattle.gos_link.specs.Answers.{ArePlansOf}

-- each of plans is slim
abbrev pub AreSlim : List Plan → Type 0
AreSlim [] = Unit {0}
AreSlim (p ∷ ps) = IsSlim p × AreSlim ps

-- the linked plan of slim plans is slim
abbrev pub LinkedIsSlim : Type 0
LinkedIsSlim = (b : Build) (ps : List SeenPlan) (p : Plan) → ArePlansOf b ps → AreSlim (plans_of ps) → IsLinked b ps p → IsSlim p

-- A build of slim plans isn't refused for its size, whatever it would be. For a weight w, which is at most 32,768, the size is at
-- most 26 * 4 w for the parts and their handshakes, 4 * 2 w for the joints and 12 (w + 1) for the ports: 4,063,244. A number of an
-- array counts 8, and takes 1 of the weight from all these.
abbrev pub SlimIsNeverTooLarge : Type 0
SlimIsNeverTooLarge =
    (b : Build) (ps : List SeenPlan) (size ports : ℕ) → ArePlansOf b ps → AreSlim (plans_of ps) → IsUnlinked b ps (faults.TooLarge size ports) → ⊥

-- The size of a slim plan, which bounds the cells of its netlist, is at most 128 for each unit of its weight, and 128. By the
-- numbers above, it is at most 124 w + 12.
abbrev pub SlimIsSmall : Type 0
SlimIsSmall = (p : Plan) → IsSlim p → plan_size p ≤ 128 * (p.weight + 1)
