-- Of the same netlist and pulse file there is one trace. Laws of these definitions, for all files.
--
-- Read first: Sim; Agreement. A netlist file says one netlist, a pulse file one list of entries, and a netlist has one run under these.
use Rattle.std.specs.Prelude.{◌≡◌, Option, Some}
use Rattle.gos_outside.specs.Files.{Files}
use Rattle.gos_lex.specs.Lines.{Word}
use Rattle.gos_netlist.specs.Nets.{Netlist}
use Rattle.gos_netcheck.specs.Accepted.{IsAccepted}
use Rattle.gos_command.specs.declared.report.Counts.{Counts}
use Rattle.gos_command.specs.declared.report.Report.{Report}
use Rattle.gos_tool.specs.Calls.{simulation_calls, sim_calls}
use Rattle.gos_tool.specs.Agreement.{AgreeOn, WriteTheSame}
use Rattle.gos_tool.specs.simulate.Simulation.{LeavesTrace}
use Rattle.gos_tool.specs.simulate.Sim.{IsSimDone}

-- an accepted netlist has one trace under a pulse file, with one count of each kind
abbrev pub TraceIsOne : Type 0
TraceIsOne =
    (files others : Files) (new other : Option Files) (net : Netlist) (pulses trace : Word) (counts told : Counts) → IsAccepted net
    → AgreeOn (simulation_calls pulses trace) files others
    → LeavesTrace (Some files) new net pulses trace counts → LeavesTrace (Some others) other net pulses trace told
    → WriteTheSame (simulation_calls pulses trace) (Some files) (Some others) new other × (counts ≡ told)

-- where `sim` is done twice with the same netlist and pulse file, it writes the same and tells the same
abbrev pub SimMakesOne : Type 0
SimMakesOne =
    (files others : Files) (net pulses trace : Word) (new other : Option Files) (report told : Report)
    → AgreeOn (sim_calls net pulses trace) files others
    → IsSimDone (Some files) new net pulses trace report → IsSimDone (Some others) other net pulses trace told
    → WriteTheSame (sim_calls net pulses trace) (Some files) (Some others) new other × (report ≡ told)
