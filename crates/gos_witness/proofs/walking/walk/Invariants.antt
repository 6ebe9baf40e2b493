use Rattle.std.proofs.Common.{drop}
use Rattle.gos_witness.proofs.WalkLemmas.{IsWalked}
use Rattle.gos_witness.proofs.walking.walk.Given as goal

-- where the way stands
abbrev pub invariant-loop-step : goal.invariant-loop-step
invariant-loop-step l = IsWalked l.fn.list l.fn.root l.fn.start l.fn.steps l.zone (drop l.step-index l.fn.steps) l.node l.frames.items
