use Rattle.gos_tool.proofs.CompleteLemmas.{right_is_not_rejected}
use Rattle.gos_tool.proofs.laws.right_commands.Goals as goal

pub returns : goal.returns
returns c =
    right_is_not_rejected c.accepted_sources.ensures.rejected c.right_links.ensures.rejected c.right_runs.ensures.rejected c.right_builds.ensures.rejected c.right_netlists.ensures.tidy c.right_netlists.ensures.gates c.right_moves.ensures.explained c.right_moves.ensures.rejected
