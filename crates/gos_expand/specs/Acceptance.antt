-- Which plans can be laid out, and that their netlists are accepted.
--
-- Read first: Laid, Kept; Accepted of gos_netcheck; Ranges of gos_plan.
use Rattle.std.specs.Prelude.{◌≡◌, ◌≢◌, ℕ, ◌<◌, ◌≤◌, List, ◌∷◌, map, length, All, Some, slice_get}
use Rattle.gos_types.specs.Types.{IsGround, IsDone, type_of}
use Rattle.gos_plan.specs.Kinds.{Part}
use Rattle.gos_plan.specs.Plans.{Plan, IsRight}
use Rattle.gos_plan.specs.Ranges.{AreInRange}
use Rattle.gos_plan.specs.Seen.{SeenPlan, plan_of}
use Rattle.gos_plan.specs.Size.{plan_size}
use Rattle.gos_netlist.specs.Cycles.{HasCycle}
use Rattle.gos_netcheck.specs.Accepted.{IsAccepted}
use Rattle.gos_expand.specs.Starts.{Keep, keep_all, Laying}
use Rattle.gos_expand.specs.Kept.{IsWhole}
use Rattle.gos_expand.specs.Laid.{circuit, laid}

-- no name stands twice
abbrev pub AreDifferent : List (List ℕ) → Type 0
AreDifferent names = (i j : ℕ) (a b : List ℕ) → i < j → slice_get names i ≡ Some a → slice_get names j ≡ Some b → a ≢ b

-- the result is a command or an expression, and the imports have ground types
pub record HasGroundPorts (p : SeenPlan) : Type 0 where
  pub result : IsDone (type_of p.outcome)
  pub ground : All (λ i. IsGround (type_of i.ty)) p.imports

-- The plan is right and in range, its ports are ground, and no two of them have one name.
pub record CanBeLaid (p : SeenPlan) (root : List ℕ) : Type 0 where
  pub in_range : AreInRange p.imports p.outcome p.parts
  pub right : IsRight (plan_of p)
  pub ports : HasGroundPorts p
  pub names : AreDifferent (root ∷ map (λ i. i.name) p.imports)

-- The netlist of such a plan is accepted, however it is laid out, where it has no combinational cycle.
abbrev pub CircuitIsAccepted : Type 0
CircuitIsAccepted =
    (lay : Laying) (p : SeenPlan) (root : List ℕ)
    → CanBeLaid p root → (HasCycle (circuit lay (plan_of p) root).cells → ⊥) → IsAccepted (circuit lay (plan_of p) root)

-- So it is whichever directions of joints keep their registers.
abbrev pub LaidIsAccepted : Type 0
LaidIsAccepted =
    (keep : Keep) (p : SeenPlan) (root : List ℕ)
    → CanBeLaid p root → (HasCycle (laid keep (plan_of p) root).cells → ⊥) → IsAccepted (laid keep (plan_of p) root)

-- it has none where all keep them
abbrev pub AllCutCycles : Type 0
AllCutCycles = (p : SeenPlan) (root : List ℕ) → CanBeLaid p root → HasCycle (laid keep_all (plan_of p) root).cells → ⊥

-- And it has no more cells than the plan's size, where each order is of as many handshakes as its Share has.
abbrev pub AreWhole : Laying → Plan → Type 0
AreWhole lay p = (i : ℕ) (k : Part) → slice_get p.parts i ≡ Some k → IsWhole (lay.making i) k

abbrev pub CircuitIsSmall : Type 0
CircuitIsSmall =
    (lay : Laying) (p : SeenPlan) (root : List ℕ)
    → CanBeLaid p root → AreWhole lay (plan_of p) → length (circuit lay (plan_of p) root).cells ≤ plan_size (plan_of p)

abbrev pub LaidIsSmall : Type 0
LaidIsSmall =
    (keep : Keep) (p : SeenPlan) (root : List ℕ) → CanBeLaid p root → length (laid keep (plan_of p) root).cells ≤ plan_size (plan_of p)
