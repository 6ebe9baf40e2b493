-- For which kinds of cause a command may reject a file, and what its line tells where it is done: whatever store it has.
use Rattle.std.specs.Prelude.{◌≡◌, ◌⊎◌, ℕ, List, [], ◌∷◌, None}
use Rattle.gos_lex.specs.Lines.{Word}
use Rattle.gos_link.specs.declared.fault.LinkFault.{LinkFault}
use Rattle.gos_link.specs.declared.fault.LinkFault.TheVariants as links
use Rattle.gos_command.specs.declared.report.Counts.{Counts}
use Rattle.gos_command.specs.declared.report.GateCounts.{GateCounts}
use Rattle.gos_command.specs.declared.report.Report.{Report}
use Rattle.gos_command.specs.declared.report.Report.TheVariants as reports
use Rattle.gos_command.specs.Lines.{fault_line}
use Rattle.gos_command.specs.declared.status.Cause.{Cause}
use Rattle.gos_command.specs.declared.status.Cause.TheVariants as causes
use Rattle.gos_command.specs.declared.status.Fault.{Fault}
use Rattle.gos_command.specs.declared.stop.Stop.{Stop}
use Rattle.gos_command.specs.declared.stop.Stop.TheVariants as stops

-- The kinds of files that are read; what is wrong of a build is its weight, its size, or another thing. Of moves is also what their trace is
-- judged by.
pub data Kind : Type 0 where
  OfSource : Kind
  OfObject : Kind
  OfBuild : Kind
  OfWeight : Kind
  OfSize : Kind
  OfNetlist : Kind
  OfPulses : Kind
  OfMoves : Kind

-- of which kind a fault of a build is
abbrev pub kind_of_link : LinkFault → Kind
kind_of_link (links.TooHeavy weight) = OfWeight
kind_of_link (links.TooLarge size ports) = OfSize
kind_of_link fault = OfBuild

-- of which kind of file a cause speaks
abbrev pub kind_of : Cause → Kind
kind_of (causes.Lex fault) = OfSource
kind_of (causes.Syntax fault) = OfSource
kind_of (causes.Check fault) = OfSource
kind_of (causes.Object fault) = OfObject
kind_of (causes.Link fault) = kind_of_link fault
kind_of (causes.Net fault) = OfNetlist
kind_of (causes.Refused fault) = OfNetlist
kind_of (causes.Pulse fault) = OfPulses
kind_of (causes.Gates fault) = OfNetlist
kind_of (causes.Explain fault) = OfMoves

-- the cause is of one of these kinds
abbrev pub IsOneOf : List Kind → Cause → Type 0
IsOneOf [] cause = ⊥
IsOneOf (kind ∷ kinds) cause = (kind_of cause ≡ kind) ⊎ IsOneOf kinds cause

-- where a command stops at a file, its cause is
abbrev pub StopsFor : List Kind → Stop → Type 0
StopsFor kinds (stops.Rejected rejection) = IsOneOf kinds rejection.fault.cause
StopsFor kinds stops.StoreFailed = Unit {0}
StopsFor kinds stops.NoMemory = Unit {0}

-- a file is rejected for such a cause, with this line
pub record IsFileFault (name : Word) (Why : Cause → Type 0) (fault : Fault) (line : List ℕ) : Type 0 where
  pub file : fault.file ≡ name
  pub cause : Why fault.cause
  pub says : line ≡ fault_line None fault

-- what a line tells: a weight, the numbers of a run, or both; how many cells, before and after; the numbers of a circuit of gates; how
-- many lines explain how many labels
abbrev pub TellsWeight : Report → Type 0
TellsWeight report = (weight : ℕ) × (report ≡ reports.Weight weight)

abbrev pub TellsRun : Report → Type 0
TellsRun report = (counts : Counts) × (report ≡ reports.Run counts)

abbrev pub TellsBoth : Report → Type 0
TellsBoth report = (weight : ℕ) × (counts : Counts) × (report ≡ reports.Build weight counts)

abbrev pub TellsCells : Report → Type 0
TellsCells report = (before after : ℕ) × (report ≡ reports.Cells before after)

abbrev pub TellsGates : Report → Type 0
TellsGates report = (counts : GateCounts) × (report ≡ reports.Gates counts)

abbrev pub TellsExplained : Report → Type 0
TellsExplained report = (lines labels : ℕ) × (report ≡ reports.Explained lines labels)
