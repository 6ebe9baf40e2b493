use Rattle.std.proofs.Common.{◌-◌}
use Rattle.std.specs.Prelude.{codes}
use Rattle.gos_command.specs.Lines.{counted}
use Rattle.gos_tool.specs.demo.DemoFiles.{line, next_lines}
use Rattle.gos_tool.proofs.lemmas.demo.TextLemmas.{four_parts}
use Rattle.gos_tool.proofs.demo.texts.add_binds.Goals as goal

pub returns : goal.returns
returns c =
    four_parts c.args.text.now.items (line (codes "bind main f l1")) (next_lines (c.args.levels - 1)) (counted (codes "bind l") c.args.levels) (line (codes " f leaf"))
    c.in_ok-extend_from_slice.ensures.items c.in_ok-add_nexts.ensures c.in_ok-add_count.ensures c.in_ok-extend_from_slice-2.ensures.items
