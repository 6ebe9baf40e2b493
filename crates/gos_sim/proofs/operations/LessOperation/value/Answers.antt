use Rattle.std.proofs.Common.{◌∙◌, nat_lt}
use Rattle.gos_sim.specs.Cycle.{bit}
use Rattle.gos_sim.proofs.operations.LessOperation.value.Goals as goal

pub returns : goal.returns
returns g c = c.of_bit.ensures ∙ ((λ i. bit (c.is_below.ensures i)) ∙ (λ i. bit (nat_lt (c.value_at.ensures i) (c.value_at-2.ensures i))))
