-- Which netlist files `tidy` and `gates` don't reject. Laws of these definitions, for all files.
--
-- Read first: Netlist, Gates.
use Rattle.std.specs.Prelude.{ℕ, ◌≤◌, List, Option, Some}
use Rattle.gos_outside.specs.Files.{Files, bytes_at}
use Rattle.gos_lex.specs.Lines.{Word}
use Rattle.gos_netlist.specs.Nets.{Netlist}
use Rattle.gos_gates.specs.Lowered.{bits_in}
use Rattle.gos_command.specs.declared.report.Report.{Report}
use Rattle.gos_command.specs.declared.status.Fault.{Fault}
use Rattle.gos_tool.specs.netlists.Netlist.{SaysNet, IsNetFault}
use Rattle.gos_tool.specs.netlists.Gates.{AreGatesDone, IsGatesFault}

-- the text says a netlist that is accepted
abbrev pub IsRightToTidy : List ℕ → Type 0
IsRightToTidy text = (circuit : Netlist) × SaysNet text circuit

-- and it has no more bits than may be lowered
abbrev pub IsRightToLower : List ℕ → Type 0
IsRightToLower text = (circuit : Netlist) × SaysNet text circuit × (bits_in circuit.cells ≤ 2000000)

-- such a file is not rejected
abbrev pub TidyIsNotRejected : Type 0
TidyIsNotRejected =
    (files : Files) (net : Word) (fault : Fault) (line : List ℕ) → IsRightToTidy (bytes_at files net) → IsNetFault files net fault line → ⊥

abbrev pub GatesAreNotRejected : Type 0
GatesAreNotRejected =
    (files : Files) (net : Word) (fault : Fault) (line : List ℕ) → IsRightToLower (bytes_at files net) → IsGatesFault files net fault line → ⊥

-- and where `gates` is done, its file is such a one: one that has more bits is always rejected
abbrev pub LoweredIsRight : Type 0
LoweredIsRight =
    (files : Files) (new : Option Files) (net out : Word) (report : Report) → AreGatesDone (Some files) new net out report
    → IsRightToLower (bytes_at files net)
