use Rattle.std.proofs.Common.{◌∙◌, bit_xor}
use Rattle.gos_sim.proofs.operations.XorOperation.value.Goals as goal

pub returns : goal.returns
returns g c = c.xor.ensures ∙ (λ i. bit_xor (c.value_at.ensures i) (c.value_at-2.ensures i))
