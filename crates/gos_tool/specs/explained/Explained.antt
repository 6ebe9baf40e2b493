-- A trace file and a file of moves, for a program: the moves explain the trace, or a file is rejected.
--
-- Read first: Texts; Ports, Lines and Verify of gos_witness; Moves of gos_model (traces). The program is p, and these are its ports. A file
-- that the store doesn't hold counts as empty.
use Rattle.std.specs.Prelude.{◌≡◌, ◌≢◌, ◌⊎◌, ℕ, List, length}
use Rattle.gos_outside.specs.Files.{Files, bytes_at}
use Rattle.gos_outside.specs.Faults.{LastFault, ReadFault}
use Rattle.gos_lex.specs.Lines.{Word}
use Rattle.gos_model.specs.Labels as shown
use Rattle.gos_model.specs.Moves.{Program, Trace}
use Rattle.gos_witness.specs.declared.fault.ExplainFault.TheVariants as explain
use Rattle.gos_witness.specs.declared.labels.Label.{Label}
use Rattle.gos_witness.specs.declared.moves.Line.{Line}
use Rattle.gos_witness.specs.declared.program.ProgramPort.{ProgramPort}
use Rattle.gos_witness.specs.Lines.{Explains}
use Rattle.gos_witness.specs.MovesText.{IsMovesText}
use Rattle.gos_witness.specs.Ports.{labels_of}
use Rattle.gos_witness.specs.TraceText.{IsTraceText}
use Rattle.gos_witness.specs.Verify.{IsFaultOf}
use Rattle.gos_command.specs.declared.report.Report.{Report}
use Rattle.gos_command.specs.declared.report.Report.TheVariants as reports
use Rattle.gos_command.specs.declared.status.Cause.{Cause}
use Rattle.gos_command.specs.declared.status.Cause.TheVariants as causes
use Rattle.gos_command.specs.declared.status.Fault.{Fault}
use Rattle.gos_tool.specs.Causes.{IsFileFault}
use Rattle.gos_tool.specs.explained.Texts.{SaysLabels, SaysLines, IsTextCause}

-- All is right: the trace file's labels are a trace of the program, which the lines of the moves explain. The report tells how many lines
-- and labels these are.
pub record AreExplained (files : Files) (ports : List ProgramPort) (p : Program) (trace moves : Word) (report : Report) : Type 0 where
  pub labels : List Label
  pub lines : List Line
  pub says_labels : SaysLabels ports (bytes_at files trace) labels
  pub says_lines : SaysLines (bytes_at files moves) lines
  pub explained : Explains p (labels_of ports labels) lines
  pub is_trace : Trace p (labels_of ports labels)
  pub tells : report ≡ reports.Explained (length lines) (length labels)

-- why moves are rejected that have these lines: they don't explain the labels
abbrev pub IsLinesCause : Program → List shown.Label → List Line → Cause → Type 0
IsLinesCause p labels lines (causes.Explain fault) = (fault ≢ explain.NoMemory) × IsFaultOf p labels lines fault
IsLinesCause p labels lines cause = ⊥

-- The first file that is rejected: where the trace file has labels, the moves, for their text or for what they say; before these the trace
-- file, for its text.
abbrev pub RejectsMoves : Files → List ProgramPort → Program → Word → List Label → Fault → List ℕ → Type 0
RejectsMoves files ports p moves labels fault line =
    IsFileFault moves (IsTextCause IsMovesText (bytes_at files moves)) fault line
    ⊎ ((lines : List Line) × SaysLines (bytes_at files moves) lines × IsFileFault moves (IsLinesCause p (labels_of ports labels) lines) fault line)

abbrev pub RejectsTexts : Files → List ProgramPort → Program → (trace moves : Word) → Fault → List ℕ → Type 0
RejectsTexts files ports p trace moves fault line =
    IsFileFault trace (IsTextCause (IsTraceText ports) (bytes_at files trace)) fault line
    ⊎ ((labels : List Label) × SaysLabels ports (bytes_at files trace) labels × RejectsMoves files ports p moves labels fault line)

-- the trace file has labels
abbrev pub HasTraceLabels : Files → List ProgramPort → Word → Type 0
HasTraceLabels files ports trace = (labels : List Label) × SaysLabels ports (bytes_at files trace) labels

-- The calls of the store: the trace file is read, and the moves are where it has labels.
abbrev pub IsTextsCall : (trace moves : Word) → Type 0 → LastFault → Type 0
IsTextsCall trace moves Labelled fault = (fault ≡ ReadFault trace) ⊎ (Labelled × (fault ≡ ReadFault moves))
