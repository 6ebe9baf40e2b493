-- What the end of a command prints.
--
-- Read first: Lines, Ends.
use Rattle.std.specs.Prelude.{◌≡◌, List, ℕ, Option, Result, Ok, Err}
use Rattle.gos_outside.specs.Written.{appended, AppendsPrefix, one_more, AtMostOneMore}
use Rattle.gos_command.specs.declared.report.Report.{Report}
use Rattle.gos_command.specs.declared.status.Status.{Status}
use Rattle.gos_command.specs.declared.status.Status.TheVariants as statuses
use Rattle.gos_command.specs.declared.stop.Stop.{Stop}
use Rattle.gos_command.specs.declared.stop.Stop.TheVariants as stops
use Rattle.gos_command.specs.Lines.{report_line}
use Rattle.gos_command.specs.Ends.{IsSaid}

-- The status is the wanted one where the line was printed. Where it could not be printed, a first part of it was, and where
-- memory ran out, nothing was.
pub record Says (line : List ℕ) (wanted status : Status) (old new : Option (List ℕ)) : Type 0 where
  pub only : IsSaid status wanted
  pub whole : status ≡ wanted → new ≡ appended line old
  pub cut : status ≡ statuses.SinkFailed → AppendsPrefix line old new
  pub quiet : status ≡ statuses.NoMemory → new ≡ old

-- a command that ended so prints this and answers this status
abbrev pub Finishes : Result Report Stop → Status → Option (List ℕ) → Option (List ℕ) → Type 0
Finishes (Ok report) status old new = Says (report_line report) statuses.Done status old new
Finishes (Err (stops.Rejected rejection)) status old new = Says rejection.line.items (statuses.Rejected rejection.fault) status old new
Finishes (Err stops.StoreFailed) status old new = (status ≡ statuses.StoreFailed) × (new ≡ old)
Finishes (Err stops.NoMemory) status old new = (status ≡ statuses.NoMemory) × (new ≡ old)

-- The line is printed by one write: none is made where the store failed, and at most one where memory ran out.
abbrev pub IsOneWrite : Status → Option ℕ → Option ℕ → Type 0
IsOneWrite statuses.StoreFailed old new = new ≡ old
IsOneWrite statuses.NoMemory old new = AtMostOneMore old new
IsOneWrite status old new = new ≡ one_more old
