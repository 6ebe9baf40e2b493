-- The command `tidy NET OUT`.
--
-- Read first: Netlist; Tidy and Alike of gos_tidy.
use Rattle.std.specs.Prelude.{◌≡◌, ◌⊎◌, length, Option, IfSome}
use Rattle.gos_outside.specs.Files.{Files, SameBut, bytes_at, with_file}
use Rattle.gos_outside.specs.Faults.{LastFault, ReadFault, WriteFault}
use Rattle.gos_lex.specs.Lines.{Word}
use Rattle.gos_netlist.specs.Nets.{Netlist}
use Rattle.gos_netlist.specs.NetText.{text_of}
use Rattle.gos_tidy.specs.Alike.{IsTidied}
use Rattle.gos_command.specs.declared.report.Report.{Report}
use Rattle.gos_command.specs.declared.report.Report.TheVariants as reports
use Rattle.gos_tool.specs.netlists.Netlist.{SaysNet}

-- All is done: the netlist file says an accepted netlist, and the text of this one, made tidy, is written. The line tells how many
-- cells both have.
pub record IsTidyDone (old new : Option Files) (net out : Word) (report : Report) : Type 0 where
  pub circuit : Netlist
  pub tidied : Netlist
  pub says : IfSome old (λ files. SaysNet (bytes_at files net) circuit)
  pub tidy : IsTidied circuit tidied
  pub wrote : new ≡ with_file out (text_of tidied) old
  pub tells : report ≡ reports.Cells (length circuit.cells) (length tidied.cells)

-- The calls of the store: the netlist is read, and where it is right the result is written. A file whose write fails may hold anything.
abbrev pub IsTidyCall : Option Files → Option Files → Word → Word → LastFault → Type 0
IsTidyCall old new net out fault =
    ((fault ≡ ReadFault net) × (new ≡ old))
    ⊎ ((fault ≡ WriteFault out) × SameBut out old new × IfSome old (λ files. (circuit : Netlist) × SaysNet (bytes_at files net) circuit))
