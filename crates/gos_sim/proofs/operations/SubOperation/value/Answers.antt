use Rattle.std.proofs.Common.{◌∙◌, ◌+◌, ◌-◌, ◌%◌, ◌^◌}
use Rattle.gos_sim.proofs.operations.SubOperation.value.Goals as goal

pub returns : goal.returns
returns g c = c.difference.ensures ∙ (λ i. (c.value_at.ensures i + 2 ^ c.args.self.now.width - c.value_at-2.ensures i) % 2 ^ c.args.self.now.width)
