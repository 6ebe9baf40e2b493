use Rattle.std.proofs.Common.{◌≡◌, ◌≤◌, ◌+◌, ℕ, length}
use Rattle.std.specs.Str.Lines.{lines}
use Rattle.gos_lex.specs.Lines.{content_of, statements_from}
use Rattle.gos_lex.proofs.lines.next_line.Given as goal

-- the lines so far say nothing
abbrev pub invariant-loop-rest : goal.invariant-loop-rest
invariant-loop-rest l =
    (content_of l.text ≡ content_of l.rest) × (l.skipped + length l.rest ≤ length l.text)
    × ((n : ℕ) → statements_from n (lines l.text) ≡ statements_from (n + l.skipped) (lines l.rest))

abbrev pub decreases-loop-rest : goal.decreases-loop-rest
decreases-loop-rest l = length l.rest
