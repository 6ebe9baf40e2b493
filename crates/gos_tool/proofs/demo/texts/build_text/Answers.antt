use Rattle.std.proofs.Common.{◌∙◌, ◌++◌, [], List, ℕ, ap}
use Rattle.gos_tool.specs.demo.DemoFiles.{instance_lines, bind_lines, file_lines}
use Rattle.gos_tool.proofs.lemmas.demo.TextLemmas.{three_parts}
use Rattle.gos_tool.proofs.demo.texts.build_text.Goals as goal

pub returns : goal.returns
returns c =
    three_parts [] (instance_lines c.args.levels) (bind_lines c.args.levels) file_lines
    (c.in_ok-add_instances.ensures ∙ ap (λ (text : List ℕ). text ++ instance_lines c.args.levels) c.new-text.ensures.items)
    c.in_ok-add_binds.ensures c.in_ok-extend_from_slice.ensures.items
