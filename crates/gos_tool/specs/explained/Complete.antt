-- Which files are right for `verify` and for `explain`. Laws of these definitions, for all files.
--
-- Read first: Verified, Found.
use Rattle.std.specs.Prelude.{◌≡◌, ◌≢◌, ◌≤◌, ℕ, false, List, [], length, Some}
use Rattle.gos_outside.specs.Files.{Files, bytes_at}
use Rattle.gos_lex.specs.Lines.{Word}
use Rattle.gos_link.specs.declared.build.Build.{Build}
use Rattle.gos_witness.specs.declared.labels.Label.{Label}
use Rattle.gos_witness.specs.Ports.{labels_of}
use Rattle.gos_witness.specs.Programs.{SeenProgram}
use Rattle.gos_command.specs.declared.report.Report.{Report}
use Rattle.gos_command.specs.declared.status.Cause.{Cause}
use Rattle.gos_command.specs.declared.status.Fault.{Fault}
use Rattle.gos_tool.specs.circuits.Linked.{SaysBuild}
use Rattle.gos_tool.specs.explained.Taken.{is_named}
use Rattle.gos_tool.specs.explained.LinkedModules.{program_along}
use Rattle.gos_tool.specs.explained.Texts.{SaysLabels}
use Rattle.gos_tool.specs.explained.Verified.{SayProgram, IsVerified, RejectsVerify}
use Rattle.gos_tool.specs.explained.Found.{IsExplained, IsFindCause, RejectsExplain}

-- the build file and what it names are right, and the moves explain its trace
abbrev pub AreRightToVerify : Files → Word → Word → Type 0
AreRightToVerify files own moves = (report : Report) × IsVerified files own moves report

-- no file is rejected then
abbrev pub VerifiedIsNotRejected : Type 0
VerifiedIsNotRejected =
    (files : Files) (own moves : Word) (fault : Fault) (line : List ℕ) → AreRightToVerify files own moves
    → RejectsVerify files own moves fault line → ⊥

-- the build file and what it names are right, MOVES is none of these, and the trace has labels for which no fault of finding lines holds
pub record AreRightToExplain (files : Files) (own moves : Word) : Type 0 where
  pub build : Build
  pub whole : SeenProgram
  pub labels : List Label
  pub says : SaysBuild files own build
  pub free : is_named build moves ≡ false
  pub sources : SayProgram files build whole
  pub says_labels : SaysLabels whole.ports (bytes_at files build.trace) labels
  pub none : (cause : Cause) → IsFindCause (program_along sources.modules sources.links) (labels_of whole.ports labels) cause → ⊥

-- no file is rejected then
abbrev pub ExplainedIsNotRejected : Type 0
ExplainedIsNotRejected =
    (files : Files) (own moves : Word) (fault : Fault) (line : List ℕ) → AreRightToExplain files own moves
    → RejectsExplain files own moves fault line → ⊥

-- Where `explain` was done, and the text of the moves is one that `verify` reads, the files that it leaves are right for `verify`, which
-- tells the same.
abbrev pub ExplainedIsRight : Type 0
ExplainedIsRight =
    (files new : Files) (own moves : Word) (report : Report) → moves ≢ own → IsExplained files (Some new) own moves report
    → length (bytes_at new moves) ≤ 268435456 → IsVerified new own moves report

-- an empty build file and an empty file of moves are not right
abbrev pub EmptyIsNotRight : Type 0
EmptyIsNotRight =
    (files : Files) (own moves : Word) → AreRightToVerify files own moves → (bytes_at files own ≡ [] → ⊥) × (bytes_at files moves ≡ [] → ⊥)

abbrev pub EmptyIsNotExplained : Type 0
EmptyIsNotExplained = (files : Files) (own moves : Word) → AreRightToExplain files own moves → bytes_at files own ≡ [] → ⊥
