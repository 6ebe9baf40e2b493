use Rattle.std.proofs.Common.{◌≡◌, ℕ, ◌≤◌, length}
use Rattle.gos_sim.specs.inner.Marks.{IsUnmarked, KeepsMarks}
use Rattle.gos_sim.specs.inner.Readers.{IsOn, Reads}
use Rattle.gos_sim.proofs.readers.Readers.mark.Given as goal

-- what reads the place and isn't marked yet is on the rest of its chain
abbrev pub invariant-loop-link : goal.invariant-loop-link
invariant-loop-link l =
    record {
      within : l.link ≤ length l.self.all.items;
      each : length l.marks.words.items ≡ length l.initial.marks.words.items;
      kept : KeepsMarks l.initial.marks.words.items l.marks.words.items;
      rest : (item : ℕ) → Reads l.self l.place item → IsUnmarked l.marks.words.items item → IsOn l.self.all.items item l.link;
    }

-- links go down
abbrev pub decreases-loop-link : goal.decreases-loop-link
decreases-loop-link l = l.link
