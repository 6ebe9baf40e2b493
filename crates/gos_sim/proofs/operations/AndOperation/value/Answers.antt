use Rattle.std.proofs.Common.{◌∙◌, bit_and}
use Rattle.gos_sim.proofs.operations.AndOperation.value.Goals as goal

pub returns : goal.returns
returns g c = c.and.ensures ∙ (λ i. bit_and (c.value_at.ensures i) (c.value_at-2.ensures i))
