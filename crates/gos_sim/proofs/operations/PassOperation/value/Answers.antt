use Rattle.std.proofs.Common.{◌∙◌, nat_eq, if◌then◌else◌}
use Rattle.gos_sim.proofs.operations.PassOperation.value.Goals as goal

pub returns : goal.returns
returns g c = c.chosen.ensures ∙ (λ i. if nat_eq (c.value_at.ensures i) 1 then c.value_at-2.ensures i else c.of_bit.ensures i)
