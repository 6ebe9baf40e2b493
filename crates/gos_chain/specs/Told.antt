-- Both programs tell the faults of a netlist by the same lines.
--
-- Read first: Lines of gos_flow; Lines of gos_command.
use Rattle.std.specs.Prelude.{◌≡◌}
use Rattle.gos_netlist.specs.declared.fault.NetTextFault.{NetTextFault}
use Rattle.gos_netcheck.specs.declared.fault.NetFault.{NetFault}
use Rattle.gos_command.specs.Lines as commands
use Rattle.gos_flow.specs.Lines as flows

-- that a text is no netlist
abbrev pub FormsAreToldAlike : Type 0
FormsAreToldAlike = (fault : NetTextFault) → flows.net_text fault ≡ commands.net_text fault

-- and that a netlist is not accepted
abbrev pub RefusalsAreToldAlike : Type 0
RefusalsAreToldAlike = (fault : NetFault) → flows.refusal_text fault ≡ commands.refusal_text fault
