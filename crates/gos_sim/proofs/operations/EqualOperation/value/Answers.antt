use Rattle.std.proofs.Common.{◌∙◌, nat_eq}
use Rattle.gos_sim.specs.Cycle.{bit}
use Rattle.gos_sim.proofs.operations.EqualOperation.value.Goals as goal

pub returns : goal.returns
returns g c = c.of_bit.ensures ∙ ((λ i. bit (c.is.ensures i)) ∙ (λ i. bit (nat_eq (c.value_at.ensures i) (c.value_at-2.ensures i))))
