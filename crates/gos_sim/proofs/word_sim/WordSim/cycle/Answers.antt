use Rattle.std.proofs.Common.{All, List, ℕ, ◌≡◌, ◌∙◌, IsTrue, ap, arith, length, subst, sym, take, ◌∷◌}
use Rattle.gos_netlist.specs.Settling.{Numbers, at}
use Rattle.gos_sim.specs.Cycle.{GivesAll, IsCycle, IsWord, Simulator}
use Rattle.gos_sim.specs.declared.past.Past.{Past}
use Rattle.gos_sim.specs.inner.Past.{HasCome, IsPast, is_rest, settlings_of}
use Rattle.gos_sim.specs.inner.Places.{by_net}
use Rattle.gos_sim.specs.inner.Active.{IsAwake, Lacks}
use Rattle.gos_sim.specs.inner.Machine.{IsRunnable, plan_of}
use Rattle.gos_sim.proofs.MachineLemmas.{machine_bits, machine_cycle, machine_others, machine_runnable}
use Rattle.gos_sim.proofs.PastLemmas.{come_after, noted_after, past_kept, settlings_after}
use Rattle.gos_sim.proofs.WordLemmas.{words_fit}
use Rattle.gos_sim.proofs.word_sim.WordSim.cycle.Goals as goal

pub rests-rests-requires-clause-ready : goal.rests-rests-requires-clause-ready
rests-rests-requires-clause-ready g c =
    let parts = c.self.inside in
    let each : parts.machine.count ≡ length parts.values = sym c.self.invariant.state.values_each in
    subst (λ (n : ℕ). IsRunnable n (plan_of parts.machine)) each (machine_runnable parts.net parts.machine c.self.invariant.machine)

pub cycle-stands-requires-clause-ready : goal.cycle-stands-requires-clause-ready
cycle-stands-requires-clause-ready g c =
    let parts = c.self.inside in
    let turned : length c.turn.new.values ≡ parts.machine.count = c.turn.ensures.each ∙ c.self.invariant.state.values_each in
    subst (λ (n : ℕ). IsRunnable n (plan_of parts.machine)) (sym turned) (machine_runnable parts.net parts.machine c.self.invariant.machine)

pub cycle-stands-requires-clause-sized : goal.cycle-stands-requires-clause-sized
cycle-stands-requires-clause-sized g c =
    let parts = c.self.inside in
    machine_bits parts.net parts.machine c.self.invariant.machine g.W.Word.bits c.self.invariant.widths

pub cycle-stands-requires-clause-numbers : goal.cycle-stands-requires-clause-numbers
cycle-stands-requires-clause-numbers g c =
    let parts = c.self.inside in
    words_fit g.W.Word.bits parts.net.cells c.args.inputs.now g.met.W.Word.roomy c.self.invariant.widths
    (subst (λ (s : Simulator). All (λ p. IsWord s.net.cells p.value) c.args.inputs.now) (sym c.self.view_is) c.requires.numbers)

pub cycle-stands-requires-clause-given : goal.cycle-stands-requires-clause-given
cycle-stands-requires-clause-given g c = λ yes.
    let parts = c.self.inside in
    subst (λ (vs : Numbers). GivesAll parts.machine.inputs.items c.args.inputs.now vs) (sym (c.turn.ensures.rest yes)) (c.rests-rests.ensures.given (c.course-course.ensures.rest yes))

pub invariant_of-self : goal.invariant_of-self
invariant_of-self g c =
    let parts = c.self.inside in
    let built = c.self.invariant in
    let active = c.cycle-stands.new.self in
    let nets : Numbers → Numbers = by_net parts.machine.places.items in
    let turned : length c.turn.new.values ≡ parts.machine.count = c.turn.ensures.each ∙ built.state.values_each in
    let registers : length c.cycle-stands.new.registers ≡ parts.machine.count = omega (arith, built.state.registers_each) in
    let values : length c.cycle-stands.new.values ≡ parts.machine.count = omega (arith, turned) in
    let run = c.cycle-stands.ensures.run in
    let next = c.after-self-inside.result in
    let come : HasCome next = subst HasCome (sym c.after-self-inside.ensures) (come_after parts.past (is_rest c.course-course.result)) in
    let came : IsPast parts.net.cells next (nets c.cycle-stands.new.values) (nets c.turn.new.before) =
    subst (λ (p : Past). IsPast parts.net.cells p (nets c.cycle-stands.new.values) (nets c.turn.new.before)) (sym c.after-self-inside.ensures)
    (past_kept parts.net.cells parts.past (is_rest c.course-course.result) (nets parts.values) (nets parts.before) (nets c.cycle-stands.new.values)
    (nets c.turn.new.before) (λ no. ap nets (c.turn.ensures.turned no)) built.came) in
    let kept : IsTrue active.settled → (p : ℕ) → Lacks active.wake.touched p → at c.turn.new.before p ≡ at c.cycle-stands.new.values p =
    noted_after c.course-course.result parts.active active parts.values parts.before c.turn.new.values c.turn.new.before c.cycle-stands.new.values
    (λ yes. (c.cycle-stands.ensures.rest yes).0)
    (λ yes. (c.cycle-stands.ensures.rest yes).1 ∙ c.turn.ensures.rest yes)
    c.turn.ensures.left
    c.turn.ensures.few
    c.turn.ensures.turned c.cycle-stands.ensures.few c.cycle-stands.ensures.all built.noted in
    record {
      machine = built.machine;
      widths = built.widths;
      state = record { registers_each = registers; values_each = values; before_each = c.turn.ensures.kept ∙ built.state.values_each };
      others = machine_others parts.net parts.machine built.machine parts.registers c.cycle-stands.new.values c.cycle-stands.new.registers c.args.inputs.now c.cycle-stands.new.outputs built.others run;
      stands = λ yes. (c.cycle-stands.ensures.still yes, come);
      came = came;
      awake = subst (λ (n : ℕ). IsAwake n parts.machine.program parts.machine.latches.items active) turned c.cycle-stands.ensures.awake;
      settled = c.cycle-stands.ensures.settled;
      noted = kept;
    }

pub returns-clause-net : goal.returns-clause-net
returns-clause-net g c = ap (λ (s : Simulator). s.net) c.self.view_is

pub returns-clause-cycle : goal.returns-clause-cycle
returns-clause-cycle g c =
    let parts = c.self.inside in
    let built = c.self.invariant in
    let nets : Numbers → Numbers = by_net parts.machine.places.items in
    let run = c.cycle-stands.ensures.run in
    let old : List Numbers = settlings_of parts.past (nets parts.values) (nets parts.before) in
    let kept : Numbers = nets c.turn.new.before in
    let settlings : settlings_of c.after-self-inside.result (nets c.cycle-stands.new.values) kept ≡ nets c.cycle-stands.new.values ∷ take 1 old =
    ap (λ (p : Past). settlings_of p (nets c.cycle-stands.new.values) kept) c.after-self-inside.ensures
    ∙ settlings_after parts.past (is_rest c.course-course.result) (nets parts.values) (nets parts.before) (nets c.cycle-stands.new.values) kept
    (λ yes. (built.stands (c.rests-rests.ensures.still (c.course-course.ensures.rest yes))).1)
    (λ yes. ap nets ((c.cycle-stands.ensures.rest yes).1 ∙ c.turn.ensures.rest yes))
    (λ no. ap nets (c.turn.ensures.turned no)) in
    let new : List Numbers → Simulator = λ vs. record { net = parts.net; registers = nets c.cycle-stands.new.registers; settlings = vs } in
    subst (λ (vs : List Numbers). IsCycle c.args.self.now c.args.inputs.now c.cycle-stands.new.outputs (new vs)) (sym settlings)
    (subst (λ (s : Simulator). IsCycle s c.args.inputs.now c.cycle-stands.new.outputs (new (nets c.cycle-stands.new.values ∷ take 1 old))) c.self.view_is
    (machine_cycle parts.net parts.machine built.machine parts.registers c.cycle-stands.new.values c.cycle-stands.new.registers old
    c.args.inputs.now c.cycle-stands.new.outputs built.others run))
