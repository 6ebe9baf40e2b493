-- What the end of a command prints.
--
-- Read first: Lines, Ends.
use Rattle.std.specs.Prelude.{◌≡◌, List, ℕ, Option, Result, Ok, Err}
use Rattle.gos_outside.specs.Written.{appended, AppendsPrefix, one_more, AtMostOneMore}
use Rattle.gos_lex.specs.Lines.{Word}
use Rattle.gos_flow.specs.declared.status.Status.{Status}
use Rattle.gos_flow.specs.declared.status.Status.TheVariants as statuses
use Rattle.gos_flow.specs.declared.stop.Stop.{Stop}
use Rattle.gos_flow.specs.declared.stop.Stop.TheVariants as stops
use Rattle.gos_flow.specs.Lines.{fault_line, done_line}
use Rattle.gos_flow.specs.Ends.{IsSaid}

-- The status is the wanted one where the line was printed. Where it could not be printed, a first part of it was, and where
-- memory ran out, nothing was.
pub record Says (line : List ℕ) (wanted status : Status) (old new : Option (List ℕ)) : Type 0 where
  pub only : IsSaid status wanted
  pub whole : status ≡ wanted → new ≡ appended line old
  pub cut : status ≡ statuses.SinkFailed → AppendsPrefix line old new
  pub quiet : status ≡ statuses.NoMemory → new ≡ old

-- a command that reads this file and ended so prints this and answers this status
abbrev pub Finishes : Word → Result ℕ Stop → Status → Option (List ℕ) → Option (List ℕ) → Type 0
Finishes file (Ok cells) status old new = Says (done_line cells) statuses.Done status old new
Finishes file (Err (stops.Rejected cause)) status old new = Says (fault_line file cause) (statuses.Rejected cause) status old new
Finishes file (Err stops.StoreFailed) status old new = (status ≡ statuses.StoreFailed) × (new ≡ old)
Finishes file (Err stops.NoMemory) status old new = (status ≡ statuses.NoMemory) × (new ≡ old)

-- The line is printed by one write: none is made where the store failed, and at most one where memory ran out.
abbrev pub IsOneWrite : Status → Option ℕ → Option ℕ → Type 0
IsOneWrite statuses.StoreFailed old new = new ≡ old
IsOneWrite statuses.NoMemory old new = AtMostOneMore old new
IsOneWrite status old new = new ≡ one_more old
