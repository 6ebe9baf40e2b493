-- The cycles of a plan's netlist are lists of the plan, and no number goes out without its pulse.
--
-- Read first: Acceptance, Facts; Cycles and Silence of gos_pace; Protocol of gos_model.
use Rattle.std.specs.Prelude.{◌≡◌, ℕ, List, Some, slice_get}
use Rattle.gos_netlist.specs.Cycles.{HasCycle}
use Rattle.gos_netlist.specs.Settling.{Numbers, IsRun}
use Rattle.gos_pace.specs.RunProtocol.{InputsInRange}
use Rattle.gos_pace.specs.Silence.{InputsAreClean, OutputsAreSilent}
use Rattle.gos_plan.specs.Kinds.{Part}
use Rattle.gos_plan.specs.Plans.{End, Plan}
use Rattle.gos_plan.specs.Seen.{SeenPlan, plan_of}
use Rattle.gos_pace.specs.Cycles.{CyclesAreLists}
use Rattle.gos_expand.specs.Kept.{IsMadeFor}
use Rattle.gos_expand.specs.Starts.{Keep, Laying}
use Rattle.gos_expand.specs.Laid.{circuit, laid}
use Rattle.gos_expand.specs.Facts.{order_at, Rises}
use Rattle.gos_expand.specs.Acceptance.{CanBeLaid}

-- Each order that a part's gates are made for is that of the ranks of its ends.
abbrev pub AreMadeFor : Laying → Plan → (End → ℕ) → Type 0
AreMadeFor lay p rank = (i : ℕ) (k : Part) → slice_get p.parts i ≡ Some k → IsMadeFor (lay.making i) k (order_at rank i)

-- So it is in every run from reset whose inputs are in range, of every plan that can be laid out, where ranks go up wherever
-- what comes in passes on in one cycle, and gates are made for no order but theirs.
abbrev pub CircuitMakesLists : Type 0
CircuitMakesLists =
    (lay : Laying) (p : SeenPlan) (root : List ℕ) (rank : End → ℕ) (ins vs : List Numbers)
    → CanBeLaid p root → Rises lay (plan_of p) rank → AreMadeFor lay (plan_of p) rank
    → InputsInRange (circuit lay (plan_of p) root) ins → IsRun (circuit lay (plan_of p) root).cells ins vs
    → CyclesAreLists (plan_of p) (circuit lay (plan_of p) root) vs

-- So it is whichever directions of joints keep their registers, where gates are made for no order and no combinational cycle
-- is left.
abbrev pub LaidMakesLists : Type 0
LaidMakesLists =
    (keep : Keep) (p : SeenPlan) (root : List ℕ) (ins vs : List Numbers)
    → CanBeLaid p root → (HasCycle (laid keep (plan_of p) root).cells → ⊥)
    → InputsInRange (laid keep (plan_of p) root) ins → IsRun (laid keep (plan_of p) root).cells ins vs
    → CyclesAreLists (plan_of p) (laid keep (plan_of p) root) vs

-- In every such run whose inputs are clean, the outputs are silent. It goes on so after an input that breaks the protocol.
abbrev pub CircuitStaysSilent : Type 0
CircuitStaysSilent =
    (lay : Laying) (p : SeenPlan) (root : List ℕ) (rank : End → ℕ) (ins vs : List Numbers)
    → CanBeLaid p root → Rises lay (plan_of p) rank → AreMadeFor lay (plan_of p) rank
    → InputsAreClean (circuit lay (plan_of p) root) ins → IsRun (circuit lay (plan_of p) root).cells ins vs
    → OutputsAreSilent (circuit lay (plan_of p) root) vs

abbrev pub LaidStaysSilent : Type 0
LaidStaysSilent =
    (keep : Keep) (p : SeenPlan) (root : List ℕ) (ins vs : List Numbers)
    → CanBeLaid p root → (HasCycle (laid keep (plan_of p) root).cells → ⊥)
    → InputsAreClean (laid keep (plan_of p) root) ins → IsRun (laid keep (plan_of p) root).cells ins vs
    → OutputsAreSilent (laid keep (plan_of p) root) vs
