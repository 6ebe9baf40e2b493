-- What is so of the fast circuit of a plan that can be laid out: all that is of its other circuits.
--
-- Read first: Fast, Acceptance, Runs.
use Rattle.std.specs.Prelude.{◌≡◌, ◌≤◌, ℕ, List, length}
use Rattle.gos_netlist.specs.Nets.{Netlist}
use Rattle.gos_netlist.specs.Settling.{Numbers, IsRun}
use Rattle.gos_netcheck.specs.Accepted.{IsAccepted}
use Rattle.gos_pace.specs.RunProtocol.{InputsInRange}
use Rattle.gos_pace.specs.Silence.{InputsAreClean, OutputsAreSilent}
use Rattle.gos_pace.specs.Cycles.{CyclesAreLists}
use Rattle.gos_plan.specs.Plans.{End, Plan}
use Rattle.gos_plan.specs.Seen.{SeenPlan, plan_of}
use Rattle.gos_plan.specs.Size.{plan_size}
use Rattle.gos_expand.specs.Starts.{Laying}
use Rattle.gos_expand.specs.Facts.{Rises}
use Rattle.gos_expand.specs.Acceptance.{CanBeLaid}
use Rattle.gos_expand.specs.Fast.{by_number, SharesFollow, IsFastOf}

-- Where ranks go up along the passages of gates that are made by number, they do so along those of gates that follow them.
abbrev pub FollowersRise : Type 0
FollowersRise =
    (p : Plan) (lay : Laying) (rank : End → ℕ) → Rises (by_number p lay.keep) p rank → SharesFollow lay p rank → Rises lay p rank

-- So it has no combinational cycle, and is accepted; it has no more cells than the plan's size.
abbrev pub FastIsAccepted : Type 0
FastIsAccepted = (p : SeenPlan) (root : List ℕ) (net : Netlist) → CanBeLaid p root → IsFastOf (plan_of p) root net → IsAccepted net

abbrev pub FastIsSmall : Type 0
FastIsSmall =
    (p : SeenPlan) (root : List ℕ) (net : Netlist) → CanBeLaid p root → IsFastOf (plan_of p) root net → length net.cells ≤ plan_size (plan_of p)

-- Its cycles are lists of the plan, and prompt, in every run from reset whose inputs are in range.
abbrev pub FastMakesLists : Type 0
FastMakesLists =
    (p : SeenPlan) (root : List ℕ) (net : Netlist) (ins vs : List Numbers)
    → CanBeLaid p root → IsFastOf (plan_of p) root net → InputsInRange net ins → IsRun net.cells ins vs → CyclesAreLists (plan_of p) net vs

-- Its outputs are silent, where its inputs are clean.
abbrev pub FastStaysSilent : Type 0
FastStaysSilent =
    (p : SeenPlan) (root : List ℕ) (net : Netlist) (ins vs : List Numbers)
    → CanBeLaid p root → IsFastOf (plan_of p) root net → InputsAreClean net ins → IsRun net.cells ins vs → OutputsAreSilent net vs

-- A plan has one.
abbrev pub FastIsOne : Type 0
FastIsOne = (p : Plan) (root : List ℕ) (net other : Netlist) → IsFastOf p root net → IsFastOf p root other → net ≡ other
