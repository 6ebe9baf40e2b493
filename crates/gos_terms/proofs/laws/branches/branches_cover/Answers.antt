use Rattle.gos_terms.proofs.branches.EndLemmas.{branches_cover}
use Rattle.gos_terms.proofs.laws.branches.branches_cover.Goals as goal

pub returns : goal.returns
returns c = branches_cover c.branches_are_children.ensures.child
