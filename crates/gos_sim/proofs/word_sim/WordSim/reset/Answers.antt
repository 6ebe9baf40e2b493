use Rattle.std.proofs.Common.{ℕ, [], ◌≡◌, ◌∙◌, ap, arith, length, replicate, subst, sym}
use Rattle.gos_sim.specs.Cycle.{Simulator, at_reset}
use Rattle.gos_sim.specs.inner.Machine.{IsRunnable, plan_of}
use Rattle.gos_sim.specs.inner.Places.{by_net}
use Rattle.gos_sim.proofs.MachineLemmas.{built_at_reset, machine_bits, machine_runnable, machine_zeros}
use Rattle.gos_sim.proofs.word_sim.WordSim.reset.Goals as goal

pub settle_at_reset-requires : goal.settle_at_reset-requires
settle_at_reset-requires g c =
    let parts = c.self.inside in
    let each : parts.machine.count ≡ length parts.values = sym c.self.invariant.state.values_each in
    record {
      ready = subst (λ (n : ℕ). IsRunnable n (plan_of parts.machine)) each (machine_runnable parts.net parts.machine c.self.invariant.machine);
      sized = machine_bits parts.net parts.machine c.self.invariant.machine g.W.Word.bits c.self.invariant.widths;
    }

pub invariant_of-self : goal.invariant_of-self
invariant_of-self g c =
    let parts = c.self.inside in
    let values : length c.settle_at_reset.new.values ≡ parts.machine.count = omega (arith, c.self.invariant.state.values_each) in
    let zeros : c.clear.new.self ≡ replicate (parts.machine.count) 0 = c.clear.ensures ∙ ap (λ (n : ℕ). replicate n 0) c.self.invariant.state.registers_each in
    built_at_reset parts.net parts.machine c.self.invariant.machine c.reset.new.self c.clear.new.self c.settle_at_reset.new.values parts.before
    (c.reset.ensures.awake _ _ _ c.self.invariant.awake) c.reset.ensures.fresh zeros
    c.settle_at_reset.ensures.settles values c.self.invariant.state.before_each g.W.Word.bits c.self.invariant.widths

pub returns : goal.returns
returns g c =
    let parts = c.self.inside in
    let zeros : c.clear.new.self ≡ replicate (parts.machine.count) 0 = c.clear.ensures ∙ ap (λ (n : ℕ). replicate n 0) c.self.invariant.state.registers_each in
    let nets : by_net parts.machine.places.items c.clear.new.self ≡ replicate (length parts.net.cells) 0 =
    ap (by_net parts.machine.places.items) zeros ∙ machine_zeros parts.net parts.machine c.self.invariant.machine in
    (λ i. record { net = parts.net; registers = nets i; settlings = [] }) ∙ ap (λ (s : Simulator). at_reset s.net) c.self.view_is
