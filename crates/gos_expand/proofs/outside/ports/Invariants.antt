use Rattle.std.proofs.Common.{◌≡◌, ◌∷◌, take}
use Rattle.gos_types.specs.Types.{type_of}
use Rattle.gos_netlist.specs.Nets.{Give}
use Rattle.gos_plan.specs.Seen.{plan_of}
use Rattle.gos_expand.specs.Laid.{laid_port, taken}
use Rattle.gos_expand.proofs.outside.ports.Given as goal

-- the ports so far
abbrev pub invariant-loop-index : goal.invariant-loop-index
invariant-loop-index l = l.ports.items ≡ laid_port (plan_of l.plan) 0 l.root Give (type_of l.plan.outcome) ∷ taken (plan_of l.plan) 1 (take l.index (plan_of l.plan).imports)
