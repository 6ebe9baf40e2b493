use Rattle.std.proofs.Common.{◌-◌, [], length, List, ℕ}
use Rattle.gos_witness.specs.inner.Left.{Leads}
use Rattle.gos_witness.specs.inner.Parts.{IsPath, PathLeft}
use Rattle.gos_witness.proofs.path_text.path.Given as goal

-- the numbers so far are passed
abbrev pub invariant-loop-next : goal.invariant-loop-next
invariant-loop-next l = Leads (List ℕ) (PathLeft []) (PathLeft l.steps.items) l.initial.cursor l.cursor × IsPath l.steps.items

abbrev pub decreases-loop-next : goal.decreases-loop-next
decreases-loop-next l = length l.initial.cursor.text - l.cursor.at
