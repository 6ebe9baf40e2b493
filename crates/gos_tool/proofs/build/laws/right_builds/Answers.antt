use Rattle.gos_tool.proofs.lemmas.build.CompleteLemmas.{build_is_not_rejected, empty_is_not_right}
use Rattle.gos_tool.proofs.build.laws.right_builds.Goals as goal

pub returns-clause-rejected : goal.returns-clause-rejected
returns-clause-rejected c =
    build_is_not_rejected c.one_build.ensures.build c.one_build.ensures.either c.accepted_sources.ensures.rejected c.accepted_sources.ensures.program
    c.accepted_sources.ensures.term c.right_pulses.ensures.rejected

pub returns-clause-empty : goal.returns-clause-empty
returns-clause-empty c = empty_is_not_right c.right_links.ensures.empty
