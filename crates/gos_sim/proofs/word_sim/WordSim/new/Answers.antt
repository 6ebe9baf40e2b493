use Rattle.std.proofs.Common.{ℕ, ◌≡◌, ◌∙◌, [], ap, length, replicate}
use Rattle.std.proofs.lemmas.List.{length-replicate}
use Rattle.gos_sim.specs.inner.Places.{by_net}
use Rattle.gos_sim.proofs.MachineLemmas.{built_at_reset, machine_zeros}
use Rattle.gos_sim.proofs.word_sim.WordSim.new.Goals as goal

pub invariant_of-result : goal.invariant_of-result
invariant_of-result g c =
    let parts = c.in-Ok in
    let zero : ℕ = 0 in
    built_at_reset c.args.net parts.machine parts.ensures.machine parts.active parts.registers parts.values parts.before parts.ensures.awake
    parts.ensures.fresh parts.ensures.registers
    parts.ensures.values parts.ensures.each (ap length parts.ensures.before ∙ length-replicate (parts.machine.count) zero)
    g.W.Word.bits c.requires.widths

pub returns-in-Ok-clause-made : goal.returns-in-Ok-clause-made
returns-in-Ok-clause-made g c =
    let parts = c.in-Ok in
    let nets : by_net parts.machine.places.items parts.registers ≡ replicate (length c.args.net.cells) 0 =
    ap (by_net parts.machine.places.items) parts.ensures.registers ∙ machine_zeros c.args.net parts.machine parts.ensures.machine in
    (λ i. record { net = c.args.net; registers = nets i; settlings = [] })
