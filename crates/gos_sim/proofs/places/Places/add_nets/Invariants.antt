use Rattle.std.proofs.Common.{◌≡◌, ◌≢◌, All, length, take}
use Rattle.gos_netlist.specs.Settling.{at}
use Rattle.gos_sim.specs.inner.Places.{IsPartly, none}
use Rattle.gos_sim.proofs.places.Places.add_nets.Given as goal

-- the nets so far have places
abbrev pub invariant-loop-net : goal.invariant-loop-net
invariant-loop-net l =
    record {
      partly : IsPartly l.self.of.items l.self.count;
      each : length l.self.of.items ≡ length l.initial.self.of.items;
      placed : All (λ n. at l.self.of.items n.0 ≢ none) (take l.net-index l.nets);
    }
