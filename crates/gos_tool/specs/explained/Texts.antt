-- The texts of traces and of moves that `verify` reads.
--
-- Read first: TraceText, MovesText and TextFaults of gos_witness. A file that the store doesn't hold counts as empty.
use Rattle.std.specs.Prelude.{◌≡◌, ◌≢◌, ◌⊎◌, ◌<◌, ◌≤◌, ℕ, List, length}
use Rattle.gos_witness.specs.declared.fault.ExplainFault.{ExplainFault}
use Rattle.gos_witness.specs.declared.fault.ExplainFault.TheVariants as explain
use Rattle.gos_witness.specs.declared.labels.Label.{Label}
use Rattle.gos_witness.specs.declared.moves.Line.{Line}
use Rattle.gos_witness.specs.declared.program.ProgramPort.{ProgramPort}
use Rattle.gos_witness.specs.MovesText.{IsMovesTextOf}
use Rattle.gos_witness.specs.TextFaults.{IsFormFault}
use Rattle.gos_witness.specs.TraceText.{IsTraceTextOf}
use Rattle.gos_command.specs.declared.status.Cause.{Cause}
use Rattle.gos_command.specs.declared.status.Cause.TheVariants as causes

-- the text is that of a trace of these ports, with these labels, and of these lines of moves; neither is too long
pub record SaysLabels (ports : List ProgramPort) (text : List ℕ) (labels : List Label) : Type 0 where
  pub short : length text ≤ 268435456
  pub is : IsTraceTextOf ports text labels

pub record SaysLines (text : List ℕ) (lines : List Line) : Type 0 where
  pub short : length text ≤ 268435456
  pub is : IsMovesTextOf text lines

-- that a text is too long
abbrev pub too_long : ExplainFault
too_long = explain.Form 268435456

-- Why a text of some form is rejected: it is longer than 268,435,456 bytes, which is told at this number, or it breaks off.
abbrev pub IsTextCause : (List ℕ → Type 0) → List ℕ → Cause → Type 0
IsTextCause IsText text (causes.Explain fault) =
    ((268435456 < length text) × (fault ≡ too_long))
    ⊎ ((length text ≤ 268435456) × (fault ≢ explain.NoMemory) × IsFormFault IsText text fault)
IsTextCause IsText text cause = ⊥
