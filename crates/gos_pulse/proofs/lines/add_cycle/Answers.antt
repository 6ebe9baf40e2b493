use Rattle.gos_pulse.specs.Guarding.{inputs_of, outputs_of}
use Rattle.gos_pulse.specs.inner.Slots.{labels_of}
use Rattle.gos_pulse.proofs.LineLemmas.{adds_both}
use Rattle.gos_pulse.proofs.lines.add_cycle.Goals as goal

pub returns : goal.returns
returns c = λ net inputs outputs.
    let board = c.args.board.now in
    let first = rw (c.deref.ensures.value, c.deref-2.ensures.value) at c.in_ok-add_lines.ensures in
    let second = rw (c.deref-3.ensures.value, c.deref-4.ensures.value) at c.in_ok-add_lines-2.ensures in
    adds_both net c.args.cycle (labels_of net.ports (outputs_of net) board.outputs.items) (labels_of net.ports (inputs_of net) board.inputs.items)
    c.args.lines.now.items c.add_lines.new.lines.items c.add_lines-2.new.lines.items (first net outputs) (second net inputs)
