use Rattle.std.proofs.Common.{◌≡◌, ◌++◌, List, reverse, take}
use Rattle.gos_netlist.specs.Nets.{Netlist}
use Rattle.gos_model.specs.Labels.{Label}
use Rattle.gos_pulse.specs.Guarding.{Guards, HasPorts, outputs_of}
use Rattle.gos_pulse.specs.inner.Slots.{labels_of}
use Rattle.gos_pulse.proofs.board.see_outputs.Given as goal

-- the outputs so far were seen
abbrev pub invariant-loop-output : goal.invariant-loop-output
invariant-loop-output l =
    record {
      events : l.guard.outputs ≡ l.initial.guard.outputs;
      guards : (net : Netlist) (past : List Label) → HasPorts net → Guards net past l.initial.guard
          → Guards net (reverse (labels_of net.ports (take l.output (outputs_of net)) l.outputs) ++ past) l.guard;
    }
