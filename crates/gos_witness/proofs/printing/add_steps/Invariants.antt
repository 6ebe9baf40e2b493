use Rattle.std.proofs.Common.{◌≡◌, ◌++◌, take}
use Rattle.gos_witness.specs.MovesText.{dotted}
use Rattle.gos_witness.proofs.printing.add_steps.Given as goal

-- the numbers so far
abbrev pub invariant-loop-step : goal.invariant-loop-step
invariant-loop-step l = l.text.items ≡ l.initial.text.items ++ dotted (take l.step-index l.steps)
