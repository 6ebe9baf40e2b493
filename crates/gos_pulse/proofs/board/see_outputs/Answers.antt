use Rattle.std.proofs.Common.{◌<◌, ◌++◌, List, false, length, reverse, get_or, subst, arith, ◌∙◌}
use Rattle.std.proofs.lemmas.Option.{slice_get-get_or}
use Rattle.std.proofs.lemmas.List.{take_all}
use Rattle.gos_netlist.specs.declared.event.Event.{Event}
use Rattle.gos_sim.specs.declared.pulse.Pulse.{Pulse}
use Rattle.gos_pulse.specs.Guarding.{Guards, outputs_of}
use Rattle.gos_pulse.specs.inner.Slots.{labels_of}
use Rattle.gos_pulse.proofs.SeeLemmas.{outputs_each, see_more}
use Rattle.gos_pulse.proofs.board.see_outputs.Goals as goal

pub loop-output-preserved : goal.loop-output-preserved
loop-output-preserved c =
    let i = c.loop-output.output in
    let quiet : Pulse = record { on = false; value = 0 } in
    let pulse : Pulse = get_or c.args.outputs.now i quiet in
    record {
      events = c.see_output.ensures.events ∙ c.loop-output.invariant.events;
      guards = λ net past has guards.
          let each = outputs_each net past c.args.guard.now guards in
          let within : i < length (outputs_of net) = omega (arith, c.loop-output-test.true, c.requires, each) in
          let none : Event = record { port = 0; place = 0; input = false; bits = 0 } in
          let event : Event = get_or (outputs_of net) i none in
          let there = slice_get-get_or (outputs_of net) i none within in
          see_more net past c.args.outputs.now i pulse event c.see_output.new.guard there (slice_get-get_or c.args.outputs.now i quiet c.loop-output-test.true)
          (c.see_output.ensures.guards net _ event has (c.loop-output.invariant.guards net past has guards) there);
    }

pub returns : goal.returns
returns c = λ net past has guards.
    let each = outputs_each net past c.args.guard.now guards in
    subst (λ (es : List Event). Guards net (reverse (labels_of net.ports es c.args.outputs.now) ++ past) c.loop-output.guard)
    (take_all c.loop-output.output (outputs_of net) (omega (arith, c.loop-output-test.false, c.requires, each)))
    (c.loop-output.invariant.guards net past has guards)
