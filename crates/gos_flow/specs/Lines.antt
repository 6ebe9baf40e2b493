-- The lines that commands print.
--
-- A fault's line is the file's name, a colon, a space and what is wrong there; a letter with a number tells the fault. Places count
-- bytes from 0.
use Rattle.std.specs.Prelude.{ℕ, List, [], ◌∷◌, ◌++◌, codes, map}
use Rattle.std.specs.Fmt.{decimal}
use Rattle.gos_lex.specs.Lines.{Word}
use Rattle.gos_netlist.specs.NetText.{spaced}
use Rattle.gos_netlist.specs.Seen.{number_of}
use Rattle.gos_netlist.specs.declared.fault.NetTextFault.{NetTextFault}
use Rattle.gos_netlist.specs.declared.fault.NetTextFault.TheVariants as texts
use Rattle.gos_netcheck.specs.declared.fault.NetFault.{NetFault}
use Rattle.gos_netcheck.specs.declared.fault.NetFault.TheVariants as nets
use Rattle.gos_verilog.specs.declared.fault.VFault.{VFault}
use Rattle.gos_verilog.specs.declared.fault.VFault.TheVariants as verilog
use Rattle.gos_flow.specs.declared.status.Cause.{Cause}
use Rattle.gos_flow.specs.declared.status.Cause.TheVariants as causes

-- a word and a number
abbrev pub counted : List ℕ → ℕ → List ℕ
counted word n = word ++ decimal n

abbrev pub net_text : NetTextFault → List ℕ
net_text (texts.Form at) = counted (codes "N1 at ") at
net_text (texts.Limit at) = counted (codes "N2 limit at ") at
net_text texts.NoMemory = []

abbrev pub verilog_text : VFault → List ℕ
verilog_text (verilog.Form at) = counted (codes "V1 at ") at
verilog_text verilog.NoMemory = []

-- a cycle is told with all its nets
abbrev pub refusal_text : NetFault → List ℕ
refusal_text (nets.Cycle cycle) = codes "K1 cycle" ++ spaced (map number_of cycle.items)
refusal_text (nets.Width cell) = counted (codes "K2 cell ") cell
refusal_text (nets.NoSuchNet cell) = counted (codes "K3 cell ") cell
refusal_text (nets.Port index) = counted (codes "K4 port ") index
refusal_text nets.NoMemory = []

abbrev pub cause_text : Cause → List ℕ
cause_text (causes.Net fault) = net_text fault
cause_text (causes.Verilog fault) = verilog_text fault
cause_text (causes.Refused fault) = refusal_text fault

-- the line of a file that is rejected
abbrev pub fault_line : Word → Cause → List ℕ
fault_line file cause = file ++ codes ": " ++ cause_text cause ++ 10 ∷ []

-- the line of a command that is done, of a netlist of so many cells
abbrev pub done_line : ℕ → List ℕ
done_line cells = counted (codes "ok cells ") cells ++ 10 ∷ []
