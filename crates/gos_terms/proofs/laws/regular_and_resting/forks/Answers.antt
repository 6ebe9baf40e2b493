use Rattle.gos_terms.proofs.regular_and_resting.ForkLemmas.{fork_is_steady}
use Rattle.gos_terms.proofs.laws.regular_and_resting.forks.Goals as goal

pub returns : goal.returns
returns c = fork_is_steady c.branches_are_children.ensures.child c.branches_are_children.ensures.parts c.branches_cover.ensures
