use Rattle.gos_terms.proofs.control_forms.RunLemmas.{fork_realises}
use Rattle.gos_terms.proofs.laws.control_forms.forks_realise.Goals as goal

pub returns : goal.returns
returns c = fork_realises c.supplies_inside.ensures.realised c.branches_are_children.ensures.child c.branches_are_children.ensures.parts c.branches_cover.ensures
