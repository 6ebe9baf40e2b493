use Rattle.std.proofs.Common.{◌≡◌, ◌++◌, take}
use Rattle.std.specs.List.{AllByRecursion, flat_map}
use Rattle.gos_witness.specs.MovesText.{line_text, HasPath}
use Rattle.gos_witness.proofs.printing.add_lines.Given as goal

-- the lines so far
abbrev pub invariant-loop-line : goal.invariant-loop-line
invariant-loop-line l =
    (l.text.items ≡ l.initial.text.items ++ flat_map line_text (take l.line-index l.lines))
    × AllByRecursion HasPath (take l.line-index l.lines)
