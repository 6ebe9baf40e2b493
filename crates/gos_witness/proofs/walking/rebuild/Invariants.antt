use Rattle.std.proofs.Common.{length}
use Rattle.gos_witness.proofs.RebuildLemmas.{IsRebuilding}
use Rattle.gos_witness.proofs.walking.rebuild.Given as goal

-- the frames that are left stand around the whole so far
abbrev pub invariant-loop-frame : goal.invariant-loop-frame
invariant-loop-frame l = IsRebuilding l.initial.list l.list l.whole l.part l.frames.items l.initial.frames.items

abbrev pub decreases-loop-frame : goal.decreases-loop-frame
decreases-loop-frame l = length l.frames.items
