use Rattle.std.proofs.Common.{◌≡◌, ◌++◌}
use Rattle.gos_tool.specs.demo.DemoFiles.{level_lines}
use Rattle.gos_tool.proofs.demo.texts.add_levels.Given as goal

-- the lines so far
abbrev pub invariant-loop-before : goal.invariant-loop-before
invariant-loop-before l = l.text.items ≡ l.initial.text.items ++ level_lines l.before
