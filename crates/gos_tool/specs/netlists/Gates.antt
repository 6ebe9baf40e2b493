-- The command `gates NET OUT`.
--
-- Read first: Netlist; Gates, AagText and Lowered of gos_gates.
use Rattle.std.specs.Prelude.{◌≡◌, ◌⊎◌, ℕ, ◌<◌, ◌≤◌, List, length, Option, None, IfSome}
use Rattle.gos_outside.specs.Files.{Files, SameBut, bytes_at, with_file}
use Rattle.gos_outside.specs.Faults.{LastFault, ReadFault, WriteFault}
use Rattle.gos_lex.specs.Lines.{Word}
use Rattle.gos_netlist.specs.Nets.{Netlist}
use Rattle.gos_gates.specs.Gates as circuits
use Rattle.gos_gates.specs.AagText.{aag_text}
use Rattle.gos_gates.specs.Lowered.{IsLowered, bits_in}
use Rattle.gos_gates.specs.declared.fault.GateFault.TheVariants as gates
use Rattle.gos_command.specs.Lines.{fault_line}
use Rattle.gos_command.specs.declared.report.Report.{Report}
use Rattle.gos_command.specs.declared.report.Report.TheVariants as reports
use Rattle.gos_command.specs.declared.status.Cause.{Cause}
use Rattle.gos_command.specs.declared.status.Cause.TheVariants as causes
use Rattle.gos_command.specs.declared.status.Fault.{Fault}
use Rattle.gos_tool.specs.netlists.Netlist.{SaysNet, IsNetFault}

-- All is done: the netlist file says an accepted netlist, which has no more bits than may be lowered, and the text of the gates that it is
-- lowered to is written. The line tells the numbers of its header.
pub record AreGatesDone (old new : Option Files) (net out : Word) (report : Report) : Type 0 where
  pub circuit : Netlist
  pub gates : circuits.Gates
  pub says : IfSome old (λ files. SaysNet (bytes_at files net) circuit)
  pub small : bits_in circuit.cells ≤ 2000000
  pub are : circuits.AreGates gates
  pub lowered : IsLowered circuit gates
  pub wrote : new ≡ with_file out (aag_text gates) old
  pub tells : report ≡ reports.Gates (record {
    inputs = gates.inputs;
    latches = length gates.latches;
    outputs = length gates.outputs;
    ands = length gates.gates;
  })

-- The netlist is accepted, but has more bits than may be lowered.
abbrev pub IsGatesCause : List ℕ → Cause → Type 0
IsGatesCause text (causes.Gates (gates.TooLarge bits)) =
    (2000000 < bits) × (circuit : Netlist) × SaysNet text circuit × (bits ≡ bits_in circuit.cells)
IsGatesCause text cause = ⊥

-- the netlist file is rejected so, with this line
pub record IsTooLarge (files : Files) (net : Word) (fault : Fault) (line : List ℕ) : Type 0 where
  pub file : fault.file ≡ net
  pub cause : IsGatesCause (bytes_at files net) fault.cause
  pub says : line ≡ fault_line None fault

-- why `gates` rejects the netlist file
abbrev pub IsGatesFault : Files → Word → Fault → List ℕ → Type 0
IsGatesFault files net fault line = IsNetFault files net fault line ⊎ IsTooLarge files net fault line

-- The calls of the store: the netlist is read, and where it is right the gates are written. A file whose write fails may hold anything.
abbrev pub IsGatesCall : Option Files → Option Files → Word → Word → LastFault → Type 0
IsGatesCall old new net out fault =
    ((fault ≡ ReadFault net) × (new ≡ old))
    ⊎ ((fault ≡ WriteFault out) × SameBut out old new
    × IfSome old (λ files. (circuit : Netlist) × SaysNet (bytes_at files net) circuit × (bits_in circuit.cells ≤ 2000000)))
