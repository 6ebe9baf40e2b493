use Rattle.std.proofs.Common.{ℕ, ◌≤◌, false, length, drop}
use Rattle.std.specs.List.{slice_range}
use Rattle.gos_lex.specs.Gaps.{IsGap}
use Rattle.gos_lex.proofs.gap.gap_end.Given as goal

-- a gap that goes on from here is a gap from the start on
abbrev pub invariant-loop-i : goal.invariant-loop-i
invariant-loop-i l =
    (end : ℕ) → l.i ≤ end → end ≤ length l.text → IsGap l.in_comment (slice_range l.text l.i end) (drop end l.text)
    → IsGap false (slice_range l.text l.at end) (drop end l.text)
