use Rattle.std.proofs.Common.{◌++◌}
use Rattle.std.specs.Prelude.{codes}
use Rattle.gos_tool.specs.demo.DemoFiles.{line, level_lines}
use Rattle.gos_tool.proofs.lemmas.demo.TextLemmas.{three_parts}
use Rattle.gos_tool.proofs.demo.texts.add_instances.Goals as goal

pub returns : goal.returns
returns c =
    three_parts c.args.text.now.items (line (codes "gosbuild 1") ++ line (codes "inst main demo_main.gos demo_main.obj")) (level_lines c.args.levels)
    (line (codes "inst leaf demo_id.gos demo_leaf.obj"))
    c.in_ok-extend_from_slice.ensures.items c.in_ok-add_levels.ensures c.in_ok-extend_from_slice-2.ensures.items
