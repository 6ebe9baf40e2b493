use Rattle.gos_tool.proofs.lemmas.circuits.CompleteLemmas.{link_is_not_rejected, empty_is_no_build}
use Rattle.gos_tool.proofs.circuits.laws.right_links.Goals as goal

pub returns-clause-rejected : goal.returns-clause-rejected
returns-clause-rejected c = link_is_not_rejected c.one_build.ensures.build c.one_build.ensures.either c.one_answer.ensures.read

pub returns-clause-empty : goal.returns-clause-empty
returns-clause-empty c = empty_is_no_build
