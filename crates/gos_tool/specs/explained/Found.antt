-- The command `explain BUILD MOVES`: lines that explain the trace are found and written.
--
-- Read first: Verified, Taken; Texts; Lines and MovesText of gos_witness. `files` are those of the store when the command began, and `new`
-- are there when it has ended. A file that the store doesn't hold counts as empty.
use Rattle.std.specs.Prelude.{◌≡◌, ◌≢◌, ◌⊎◌, ℕ, false, List, length, Option, Some, IfSome}
use Rattle.gos_outside.specs.Files.{Files, SameBut, bytes_at, with_file}
use Rattle.gos_outside.specs.Faults.{LastFault, ReadFault, WriteFault}
use Rattle.gos_lex.specs.Lines.{Word}
use Rattle.gos_model.specs.Labels as shown
use Rattle.gos_model.specs.Moves.{Program, Trace}
use Rattle.gos_link.specs.declared.build.Build.{Build}
use Rattle.gos_witness.specs.declared.fault.ExplainFault.TheVariants as explain
use Rattle.gos_witness.specs.declared.labels.Label.{Label}
use Rattle.gos_witness.specs.declared.moves.Line.{Line}
use Rattle.gos_witness.specs.declared.program.ProgramPort.{ProgramPort}
use Rattle.gos_witness.specs.Find.{IsFaultOfFind}
use Rattle.gos_witness.specs.Lines.{Explains}
use Rattle.gos_witness.specs.MovesText.{AreLines, moves_text}
use Rattle.gos_witness.specs.Ports.{labels_of}
use Rattle.gos_witness.specs.Programs.{SeenProgram}
use Rattle.gos_witness.specs.TraceText.{IsTraceText}
use Rattle.gos_command.specs.declared.report.Report.{Report}
use Rattle.gos_command.specs.declared.report.Report.TheVariants as reports
use Rattle.gos_command.specs.declared.status.Cause.{Cause}
use Rattle.gos_command.specs.declared.status.Cause.TheVariants as causes
use Rattle.gos_command.specs.declared.status.Fault.{Fault}
use Rattle.gos_tool.specs.Calls.{ReadsAs}
use Rattle.gos_tool.specs.Causes.{IsFileFault}
use Rattle.gos_tool.specs.circuits.Linked.{SaysBuild, IsFormCause}
use Rattle.gos_tool.specs.explained.Sources.{IsSourceCall}
use Rattle.gos_tool.specs.explained.Taken.{is_named}
use Rattle.gos_tool.specs.explained.LinkedModules.{program_along}
use Rattle.gos_tool.specs.explained.Texts.{SaysLabels, IsTextCause}
use Rattle.gos_tool.specs.explained.Verified.{SayProgram, RejectsSources}

-- All is right with a trace file: its labels are a trace of the program p, which has these ports. Lines that explain them are found, and
-- their text is written into MOVES. The report tells how many lines and labels these are.
pub record AreFound (files : Files) (new : Option Files) (ports : List ProgramPort) (p : Program) (trace moves : Word) (report : Report) : Type 0 where
  pub labels : List Label
  pub lines : List Line
  pub says_labels : SaysLabels ports (bytes_at files trace) labels
  pub explained : Explains p (labels_of ports labels) lines
  pub is_trace : Trace p (labels_of ports labels)
  pub are : AreLines lines
  pub wrote : new ≡ with_file moves (moves_text lines) (Some files)
  pub tells : report ≡ reports.Explained (length lines) (length labels)

-- So it is with the trace file that the build file names, and with the program of the linked modules. MOVES is none of its files.
pub record IsExplained (files : Files) (new : Option Files) (own moves : Word) (report : Report) : Type 0 where
  pub build : Build
  pub whole : SeenProgram
  pub says : SaysBuild files own build
  pub free : is_named build moves ≡ false
  pub sources : SayProgram files build whole
  pub found : AreFound files new whole.ports (program_along sources.modules sources.links) build.trace moves report

-- Why a trace file is rejected that has these labels: no lines that explain them are found, and the first label that can't come is told,
-- or the one that takes too many steps, or a term that is too large.
abbrev pub IsFindCause : Program → List shown.Label → Cause → Type 0
IsFindCause p labels (causes.Explain fault) = (fault ≢ explain.NoMemory) × IsFaultOfFind p labels fault
IsFindCause p labels cause = ⊥

-- The first file that is rejected, from each place on: the trace file, for its text or for its labels; before it a source, or the build file
-- for what it links or where it names MOVES; before all the build file for its form.
abbrev pub RejectsTrace : Files → List ProgramPort → Program → Word → Fault → List ℕ → Type 0
RejectsTrace files ports p trace fault line =
    IsFileFault trace (IsTextCause (IsTraceText ports) (bytes_at files trace)) fault line
    ⊎ ((labels : List Label) × SaysLabels ports (bytes_at files trace) labels × IsFileFault trace (IsFindCause p (labels_of ports labels)) fault line)

abbrev pub RejectsLabels : Files → Build → Word → Fault → List ℕ → Type 0
RejectsLabels files b moves fault line =
    (is_named b moves ≡ false) × (whole : SeenProgram) × (s : SayProgram files b whole)
    × RejectsTrace files whole.ports (program_along s.modules s.links) b.trace fault line

abbrev pub RejectsExplain : Files → Word → Word → Fault → List ℕ → Type 0
RejectsExplain files own moves fault line =
    IsFileFault own (IsFormCause (bytes_at files own) own) fault line
    ⊎ ((b : Build) × SaysBuild files own b × (RejectsSources files own b (Some moves) fault line ⊎ RejectsLabels files b moves fault line))

-- the trace file has labels, which lines explain; and so it is by the program of the linked modules
abbrev pub HasLines : Files → List ProgramPort → Program → Word → Type 0
HasLines files ports p trace =
    (labels : List Label) × (lines : List Line) × SaysLabels ports (bytes_at files trace) labels × Explains p (labels_of ports labels) lines

abbrev pub HasProgramLines : Files → Build → Type 0
HasProgramLines files b =
    (whole : SeenProgram) × (s : SayProgram files b whole) × HasLines files whole.ports (program_along s.modules s.links) b.trace

-- The calls of the store, each where what is judged before it is right: the build file is read, the sources, the trace file, and the lines
-- that are found are written. A file whose write fails may hold anything. `old` are the files where the store tells them.
abbrev pub IsTraceCall : Option Files → Option Files → (trace moves : Word) → Type 0 → LastFault → Type 0
IsTraceCall old new trace moves Found fault =
    ((fault ≡ ReadFault trace) × (new ≡ old)) ⊎ ((fault ≡ WriteFault moves) × SameBut moves old new × Found)

abbrev pub IsLabelsCall : Option Files → Option Files → Build → Word → LastFault → Type 0
IsLabelsCall old new b moves fault =
    (is_named b moves ≡ false) × IfSome old (λ files. (whole : SeenProgram) × SayProgram files b whole)
    × IsTraceCall old new b.trace moves (IfSome old (λ files. HasProgramLines files b)) fault

abbrev pub IsExplainCall : Option Files → Option Files → Word → Word → LastFault → Type 0
IsExplainCall old new own moves fault =
    ((fault ≡ ReadFault own) × (new ≡ old))
    ⊎ ((b : Build) × ReadsAs old own b
    × ((IsSourceCall old b.instances.items fault × (new ≡ old)) ⊎ IsLabelsCall old new b moves fault))
