use Rattle.gos_tool.proofs.lemmas.explained.SourceLemmas.{shell_face, shell_limits}
use Rattle.gos_tool.proofs.explained.sources.source_of.Goals as goal

pub returns-in-Ok-shell-clause-face : goal.returns-in-Ok-shell-clause-face
returns-in-Ok-shell-clause-face c =
    shell_face c.args.text.now c.in-Ok.made c.in-Ok-check.linear c.in-Ok-shell.shell c.in-Ok-check.ensures.program c.in-Ok-shell.ensures.shell c.in-Ok-check.ensures.outcome

pub returns-in-Ok-shell-clause-limits : goal.returns-in-Ok-shell-clause-limits
returns-in-Ok-shell-clause-limits c =
    shell_limits c.args.text.now c.in-Ok.made c.in-Ok-check.linear c.in-Ok-shell.shell c.in-Ok-check.ensures.program c.in-Ok-shell.ensures.shell c.in-Ok.ensures.source
    c.in-Ok-shell.ensures.small
