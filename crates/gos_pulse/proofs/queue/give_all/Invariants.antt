use Rattle.std.proofs.Common.{◌≤◌, List, All, length}
use Rattle.gos_netlist.specs.Nets.{Netlist}
use Rattle.gos_model.specs.Labels.{Label}
use Rattle.gos_pulse.specs.Guarding.{HasPorts}
use Rattle.gos_pulse.specs.Driving.{GivesInput}
use Rattle.gos_pulse.specs.inner.Board.{Stands}
use Rattle.gos_pulse.proofs.QueueLemmas.{GivenTo}
use Rattle.gos_pulse.proofs.queue.give_all.Given as goal

-- what was given so far
abbrev pub invariant-loop-queue : goal.invariant-loop-queue
invariant-loop-queue l =
    record {
      since : l.queue.since ≤ l.t;
      given : (net : Netlist) (past given : List Label) → HasPorts net → Stands net past given l.initial.board → All (GivesInput net) l.first.entries.now
          → GivenTo net past given l.t l.first.since l.first.entries.now l.queue.since l.queue.entries.now l.board;
    }

abbrev pub decreases-loop-queue : goal.decreases-loop-queue
decreases-loop-queue l = length l.queue.entries.now
