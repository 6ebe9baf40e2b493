use Rattle.std.proofs.Common.{◌∙◌, ◌+◌, ◌++◌, List, ℕ, ap}
use Rattle.gos_tool.specs.demo.DemoFiles.{level_line}
use Rattle.gos_tool.proofs.lemmas.demo.TextLemmas.{one_level}
use Rattle.gos_tool.proofs.demo.texts.add_levels.Goals as goal

pub loop-before-preserved : goal.loop-before-preserved
loop-before-preserved c =
    c.in_ok-add_level.ensures
    ∙ (ap (λ (text : List ℕ). text ++ level_line (c.loop-before.before + 1)) c.loop-before.invariant ∙ one_level c.loop-before.before c.args.text.now.items)
