use Rattle.std.proofs.Common.{◌≤◌, length, map, take}
use Rattle.gos_netlist.specs.Seen.{number_of}
use Rattle.gos_sim.specs.inner.Program.{steps_named}
use Rattle.gos_sim.specs.inner.Drafts.{IsDraft, IsDraftOf}
use Rattle.gos_sim.proofs.evaluation.steps_moved.Given as goal

-- the steps among the nets so far
abbrev pub invariant-loop-net : goal.invariant-loop-net
invariant-loop-net l =
    record {
      index : l.net-index ≤ length l.nets;
      draft : IsDraft l.places (steps_named l.cells (take l.net-index (map number_of l.nets))) l.draft;
      room : IsDraftOf l.net-index l.draft;
    }
