use Rattle.std.proofs.Common.{◌≡◌, ◌++◌}
use Rattle.gos_tool.specs.demo.DemoFiles.{next_lines}
use Rattle.gos_tool.proofs.demo.texts.add_nexts.Given as goal

-- the lines so far
abbrev pub invariant-loop-before : goal.invariant-loop-before
invariant-loop-before l = l.text.items ≡ l.initial.text.items ++ next_lines l.before
