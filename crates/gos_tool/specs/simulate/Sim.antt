-- The command `sim NET PULSES TRACE`.
--
-- Read first: Netlist of netlists; Simulation.
use Rattle.std.specs.Prelude.{◌≡◌, ◌⊎◌, ℕ, List, Option, IfSome}
use Rattle.gos_outside.specs.Files.{Files, bytes_at}
use Rattle.gos_outside.specs.Faults.{LastFault, ReadFault}
use Rattle.gos_lex.specs.Lines.{Word}
use Rattle.gos_netlist.specs.Nets.{Netlist}
use Rattle.gos_command.specs.declared.report.Counts.{Counts}
use Rattle.gos_command.specs.declared.report.Report.{Report}
use Rattle.gos_command.specs.declared.report.Report.TheVariants as reports
use Rattle.gos_command.specs.declared.status.Fault.{Fault}
use Rattle.gos_tool.specs.netlists.Netlist.{SaysNet, IsNetFault}
use Rattle.gos_tool.specs.simulate.Simulation.{LeavesTrace, IsPulseFault, IsSimulationCall}

-- all is done: the netlist file says an accepted netlist, and the trace of its run is written
pub record IsSimDone (old new : Option Files) (net pulses trace : Word) (report : Report) : Type 0 where
  pub circuit : Netlist
  pub counts : Counts
  pub says : IfSome old (λ files. SaysNet (bytes_at files net) circuit)
  pub traced : LeavesTrace old new circuit pulses trace counts
  pub tells : report ≡ reports.Run counts

-- the first file that is rejected: the netlist, or the pulse file where the netlist is right
abbrev pub IsSimFault : Files → Word → Word → Fault → List ℕ → Type 0
IsSimFault files net pulses fault line =
    IsNetFault files net fault line
    ⊎ ((circuit : Netlist) × SaysNet (bytes_at files net) circuit × IsPulseFault files circuit pulses fault line)

-- the calls of the store, each where what is judged before it is right, with what was written before it
abbrev pub IsSimCall : Option Files → Option Files → Word → Word → Word → LastFault → Type 0
IsSimCall old new net pulses trace fault =
    ((fault ≡ ReadFault net) × (new ≡ old))
    ⊎ ((circuit : Netlist) × IfSome old (λ files. SaysNet (bytes_at files net) circuit)
    × IsSimulationCall old new circuit pulses trace fault)
