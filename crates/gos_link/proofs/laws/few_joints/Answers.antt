use Rattle.gos_link.proofs.WholeLemmas.{joints_are_few}
use Rattle.gos_link.proofs.laws.few_joints.Goals as goal

pub returns : goal.returns
returns c = joints_are_few
