use Rattle.std.proofs.Common.{◌∙◌, bit_or}
use Rattle.gos_sim.proofs.operations.OrOperation.value.Goals as goal

pub returns : goal.returns
returns g c = c.or.ensures ∙ (λ i. bit_or (c.value_at.ensures i) (c.value_at-2.ensures i))
