use Rattle.gos_sim.proofs.MachineLemmas.{machine_bits, machine_runnable}
use Rattle.gos_sim.proofs.word_sim.parts_of.Goals as goal

pub values_at_reset-requires : goal.values_at_reset-requires
values_at_reset-requires g c = record {
  ready = machine_runnable c.args.net.now c.in_ok-machine.machine c.in_ok-machine.ensures.machine;
  sized = machine_bits c.args.net.now c.in_ok-machine.machine c.in_ok-machine.ensures.machine g.W.Word.bits c.requires.widths;
}

pub new-requires-clause-steps : goal.new-requires-clause-steps
new-requires-clause-steps g c = (machine_runnable c.args.net.now c.in_ok-machine.machine c.in_ok-machine.ensures.machine).steps

pub new-requires-clause-latches : goal.new-requires-clause-latches
new-requires-clause-latches g c = (machine_runnable c.args.net.now c.in_ok-machine.machine c.in_ok-machine.ensures.machine).latches
