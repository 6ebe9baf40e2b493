use Rattle.std.proofs.Common.{rules, ◌≡◌, true, false, length}
use Rattle.std.specs.Prelude.{replicate}
use Rattle.gos_netlist.specs.Events.{events_of}
use Rattle.gos_pulse.specs.Guarding.{halves_of}
use Rattle.gos_pulse.proofs.GuardLemmas.{guard_begins}
use Rattle.gos_pulse.proofs.guard.Guard.new.Goals as goal

pub returns : goal.returns
returns c =
    let inputs : c.in_ok-inputs.inputs.items ≡ halves_of true (events_of c.args.net.now) = search rules in
    let outputs : c.in_ok-outputs.outputs.items ≡ halves_of false (events_of c.args.net.now) = search rules in
    let first : c.in_ok-flags.flags.first.items ≡ replicate (length c.args.net.now.ports) false = search rules in
    let second : c.in_ok-flags.flags.second.items ≡ replicate (length c.args.net.now.ports) false = search rules in
    guard_begins c.args.net.now (record { inputs = c.in_ok-inputs.inputs; outputs = c.in_ok-outputs.outputs; flags = c.in_ok-flags.flags }) inputs outputs first second
