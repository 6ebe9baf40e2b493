-- Rings of handshakes: what comes in at one passes on, from part to part, and comes back, all in one cycle.
--
-- Read first: Facts, Acceptance; Cycles of gos_netlist. Such a ring is a combinational cycle of the netlist, and each of these
-- is such a ring. So who looks for cycles need not look at cells.
use Rattle.std.specs.Prelude.{◌↔◌, ℕ, List, [], ◌∷◌}
use Rattle.gos_netlist.specs.Cycles.{HasCycle}
use Rattle.gos_plan.specs.Plans.{PartEnd, Plan}
use Rattle.gos_plan.specs.Seen.{SeenPlan, plan_of}
use Rattle.gos_expand.specs.Starts.{Laying}
use Rattle.gos_expand.specs.Laid.{circuit_cells}
use Rattle.gos_expand.specs.Facts.{PassesOn}
use Rattle.gos_expand.specs.Acceptance.{CanBeLaid}

-- a handshake of a part
pub record Shake : Type 0 where
  pub part : ℕ
  pub number : ℕ

-- what comes in at one passes on to another, by these
abbrev pub PassesBy : Laying → Plan → Shake → List Shake → Shake → Type 0
PassesBy lay p a [] b = PassesOn lay p a.part a.number (PartEnd b.part b.number)
PassesBy lay p a (c ∷ cs) b = PassesOn lay p a.part a.number (PartEnd c.part c.number) × PassesBy lay p c cs b

-- what comes in at some handshake comes back there
abbrev pub HasRing : Laying → Plan → Type 0
HasRing lay p = (a : Shake) × (cs : List Shake) × PassesBy lay p a cs a

-- The netlist of a plan that can be laid out has a combinational cycle exactly where there is a ring.
abbrev pub RingsAreCycles : Type 0
RingsAreCycles = (lay : Laying) (p : SeenPlan) (root : List ℕ) → CanBeLaid p root → HasCycle (circuit_cells lay (plan_of p)) ↔ HasRing lay (plan_of p)
