use Rattle.std.proofs.Common.{◌≡◌, ℕ, ◌<◌, ◌≤◌}
use Rattle.gos_netlist.specs.Settling.{at}
use Rattle.gos_sim.proofs.marks.first_from.Given as goal

-- the words so far are 0
abbrev pub invariant-loop-word : goal.invariant-loop-word
invariant-loop-word l = (word : ℕ) → l.from ≤ word → word < l.word → at l.words word ≡ 0
