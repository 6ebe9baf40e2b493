use Rattle.gos_plan.proofs.ProjectionLemmas as projection
use Rattle.gos_plan.proofs.laws.parts_fire.Goals as goal

pub returns : goal.returns
returns c = projection.parts_fire
