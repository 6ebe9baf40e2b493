-- How clauses see a plan of this crate's program, and what is true inside each.
use Rattle.gos_plan.specs.declared.plan.Plan.TheInside.{Inside}
use Rattle.gos_plan.specs.Plans.{IsRight}
use Rattle.gos_plan.specs.Ranges.{AreInRange}
use Rattle.gos_plan.specs.Seen.{SeenPlan, plan_of}

-- a plan as its five values
abbrev pub seen_of : Inside → SeenPlan
seen_of p = record { weight = p.weight; imports = p.imports.items; outcome = p.outcome; parts = p.parts.items; joints = p.joints.items }

-- its joints are right, and its widths, literals and types are in range
pub record IsKept (p : Inside) : Type 0 where
  pub right : IsRight (plan_of (seen_of p))
  pub in_range : AreInRange p.imports.items p.outcome p.parts.items
