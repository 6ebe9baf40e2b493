-- A netlist file: what it says, and why it is rejected.
--
-- Read first: NetFaults of gos_netlist; Accepted of gos_netcheck. A file that the store doesn't hold counts as empty.
use Rattle.std.specs.Prelude.{◌≡◌, ◌≢◌, ℕ, List, None}
use Rattle.gos_outside.specs.Files.{Files, bytes_at}
use Rattle.gos_lex.specs.Lines.{Word}
use Rattle.gos_netlist.specs.Nets.{Netlist}
use Rattle.gos_netlist.specs.NetFaults as reading
use Rattle.gos_netlist.specs.declared.fault.NetTextFault.TheVariants as texts
use Rattle.gos_netcheck.specs.Accepted.{IsAccepted, HasFault}
use Rattle.gos_netcheck.specs.declared.fault.NetFault.TheVariants as nets
use Rattle.gos_command.specs.Lines.{fault_line}
use Rattle.gos_command.specs.declared.status.Cause.{Cause}
use Rattle.gos_command.specs.declared.status.Cause.TheVariants as causes
use Rattle.gos_command.specs.declared.status.Fault.{Fault}

-- the text is that of this netlist, which is accepted
pub record SaysNet (text : List ℕ) (net : Netlist) : Type 0 where
  pub read : reading.IsRead text net
  pub accepted : IsAccepted net

-- Why a netlist file is rejected: its text is none of a netlist, or its netlist is not accepted.
abbrev pub IsNetCause : List ℕ → Cause → Type 0
IsNetCause text (causes.Net fault) = (fault ≢ texts.NoMemory) × reading.HasFault text fault
IsNetCause text (causes.Refused fault) =
    (fault ≢ nets.NoMemory) × (circuit : Netlist) × reading.IsRead text circuit × HasFault circuit fault
IsNetCause text cause = ⊥

-- the netlist file is rejected so, with this line
pub record IsNetFault (files : Files) (net : Word) (fault : Fault) (line : List ℕ) : Type 0 where
  pub file : fault.file ≡ net
  pub cause : IsNetCause (bytes_at files net) fault.cause
  pub says : line ≡ fault_line None fault
