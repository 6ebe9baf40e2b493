-- What the text of a netlist and a Verilog text say, and why a file is rejected.
--
-- Read first: NetFaults of gos_netlist; Readable and Place of gos_verilog; Accepted of gos_netcheck.
use Rattle.std.specs.Prelude.{◌≢◌, ℕ, List}
use Rattle.gos_netlist.specs.Nets.{Netlist}
use Rattle.gos_netlist.specs.NetFaults as netlists
use Rattle.gos_netlist.specs.declared.fault.NetTextFault.TheVariants as texts
use Rattle.gos_netcheck.specs.Accepted.{IsAccepted, HasFault}
use Rattle.gos_netcheck.specs.declared.fault.NetFault.TheVariants as nets
use Rattle.gos_verilog.specs.Readable as modules
use Rattle.gos_verilog.specs.Place.{HasPlace}
use Rattle.gos_verilog.specs.declared.fault.VFault.TheVariants as verilog
use Rattle.gos_flow.specs.declared.status.Cause.{Cause}
use Rattle.gos_flow.specs.declared.status.Cause.TheVariants as causes
use Rattle.gos_flow.specs.Ends.{IsRealCause}

-- the text is that of this netlist, which is accepted
pub record SaysNet (text : List ℕ) (net : Netlist) : Type 0 where
  pub read : netlists.IsRead text net
  pub accepted : IsAccepted net

-- the text is the Verilog text of this netlist, which is accepted
pub record SaysVerilog (text : List ℕ) (net : Netlist) : Type 0 where
  pub read : modules.IsRead text net
  pub accepted : IsAccepted net

-- The causes for which a netlist file may be rejected, and those for which a Verilog file may, whatever store there is.
abbrev pub IsOfNet : Cause → Type 0
IsOfNet (causes.Verilog fault) = ⊥
IsOfNet cause = IsRealCause cause

abbrev pub IsOfVerilog : Cause → Type 0
IsOfVerilog (causes.Net fault) = ⊥
IsOfVerilog cause = IsRealCause cause

-- the netlist is refused for this cause
abbrev pub IsRefusal : Netlist → Cause → Type 0
IsRefusal net (causes.Refused fault) = (fault ≢ nets.NoMemory) × HasFault net fault
IsRefusal net cause = ⊥

-- Why a netlist file is rejected: its text is none of a netlist, or its netlist is not accepted.
abbrev pub IsNetCause : List ℕ → Cause → Type 0
IsNetCause text (causes.Net fault) = (fault ≢ texts.NoMemory) × netlists.HasFault text fault
IsNetCause text (causes.Verilog fault) = ⊥
IsNetCause text (causes.Refused fault) = (circuit : Netlist) × netlists.IsRead text circuit × IsRefusal circuit (causes.Refused fault)

-- why a Verilog file is: its text is that of no netlist from this place on, or its netlist is not accepted
abbrev pub IsVerilogCause : List ℕ → Cause → Type 0
IsVerilogCause text (causes.Net fault) = ⊥
IsVerilogCause text (causes.Verilog fault) = (fault ≢ verilog.NoMemory) × modules.IsRefused text fault × HasPlace text fault
IsVerilogCause text (causes.Refused fault) = (circuit : Netlist) × modules.IsRead text circuit × IsRefusal circuit (causes.Refused fault)
