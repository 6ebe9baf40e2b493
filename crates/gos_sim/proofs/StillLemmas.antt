-- Values that stand still: a cycle that gives the same pulses changes nothing.
use Rattle.std.specs.Prelude.{◌≡◌, List, map}
use Rattle.std.proofs.Common.{refl}
use Rattle.gos_netlist.specs.Settling.{Numbers}
use Rattle.gos_sim.specs.declared.pulse.Pulse.{Pulse}
use Rattle.gos_sim.specs.Cycle.{GivesAll, pulse_shown}
use Rattle.gos_sim.specs.inner.Machine.{IsStill, Plan, RunsThrough, Settles}

-- values that stand still are settled for their own pulses
pub still_settles : (m : Plan) (given : List Pulse) (held values : Numbers) → IsStill m held values → GivesAll m.inputs given values
    → Settles m given held values
still_settles m given held values still pulses =
    record {
      first = values;
      loaded = values;
      pulses = pulses;
      registers = still.registers;
      others = λ n free. refl;
      evaluated = still.evaluated;
      sources = λ n free. refl;
    }

-- and the machine is through a cycle with these as they are
pub still_runs : (m : Plan) (given seen : List Pulse) (held values : Numbers) → IsStill m held values → GivesAll m.inputs given values
    → seen ≡ map (pulse_shown values) m.outputs → RunsThrough m given held values seen held
still_runs m given seen held values still pulses shows =
    record {
      settles = still_settles m given held values still pulses;
      shows = shows;
      taken = still.taken;
      rest = λ n free. refl;
    }
