use Rattle.std.proofs.Common.{◌∙◌, nat_eq, if◌then◌else◌}
use Rattle.gos_sim.proofs.operations.MuxOperation.value.Goals as goal

pub returns : goal.returns
returns g c = c.chosen.ensures ∙ (λ i. if nat_eq (c.value_at.ensures i) 1 then c.value_at-a.ensures i else c.value_at-b.ensures i)
