use Rattle.std.proofs.Common.{◌∙◌, ◌++◌, List, ℕ, ap}
use Rattle.std.specs.Prelude.{codes}
use Rattle.gos_command.specs.Lines.{counted}
use Rattle.gos_tool.specs.demo.DemoFiles.{line, source_of}
use Rattle.gos_tool.proofs.lemmas.demo.TextLemmas.{five_parts}
use Rattle.gos_tool.proofs.demo.texts.add_level.Goals as goal

pub returns : goal.returns
returns c =
    let level = c.args.level in
    five_parts c.args.text.now.items (counted (codes "inst l") level) (codes " ") (source_of level) (counted (codes " demo_l") level) (line (codes ".obj"))
    c.in_ok-add_count.ensures c.in_ok-extend_from_slice.ensures.items
    (c.in_ok-extend_from_slice-2.ensures.items ∙ ap (λ (x : List ℕ). c.extend_from_slice.new.self.items ++ x) c.source_of.ensures)
    c.in_ok-add_count-2.ensures c.in_ok-extend_from_slice-3.ensures.items
