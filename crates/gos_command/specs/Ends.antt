-- How a command may end.
--
-- Read first: Lines.
use Rattle.std.specs.Prelude.{◌≡◌, ◌≢◌, ◌⊎◌, ℕ, List, Result, Ok, Err}
use Rattle.gos_outside.specs.Calls.{Ending, Whole, Failed, Short}
use Rattle.gos_lex.specs.declared.fault.LexFault.TheVariants as lex
use Rattle.gos_syntax.specs.declared.fault.SyntaxFault.TheVariants as syntax
use Rattle.gos_check.specs.declared.fault.CheckFault.TheVariants as check
use Rattle.gos_plan.specs.declared.fault.ObjectFault.TheVariants as object
use Rattle.gos_link.specs.declared.fault.LinkFault.TheVariants as link
use Rattle.gos_netlist.specs.declared.fault.NetTextFault.TheVariants as text
use Rattle.gos_netcheck.specs.declared.fault.NetFault.TheVariants as net
use Rattle.gos_pulse.specs.declared.fault.PulseFault.TheVariants as pulse
use Rattle.gos_gates.specs.declared.fault.GateFault.TheVariants as gates
use Rattle.gos_witness.specs.declared.fault.ExplainFault.TheVariants as explain
use Rattle.gos_command.specs.Lines.{IsLineOf}
use Rattle.gos_command.specs.declared.status.Cause.{Cause}
use Rattle.gos_command.specs.declared.status.Cause.TheVariants as causes
use Rattle.gos_command.specs.declared.status.Fault.{Fault}
use Rattle.gos_command.specs.declared.status.Status.{Status}
use Rattle.gos_command.specs.declared.status.Status.TheVariants as statuses
use Rattle.gos_command.specs.declared.stop.Stop.{Stop}
use Rattle.gos_command.specs.declared.stop.Stop.TheVariants as stops

-- the exit status of the program: 0 where all was done, else which of the other ends it is
abbrev pub code_of : Status → ℕ
code_of statuses.Done = 0
code_of statuses.Usage = 1
code_of (statuses.Rejected fault) = 2
code_of statuses.StoreFailed = 3
code_of statuses.SinkFailed = 4
code_of statuses.NoMemory = 5

-- the cause is another than want of memory
abbrev pub IsRealCause : Cause → Type 0
IsRealCause (causes.Lex fault) = fault ≢ lex.NoMemory
IsRealCause (causes.Syntax fault) = fault ≢ syntax.NoMemory
IsRealCause (causes.Check fault) = fault ≢ check.NoMemory
IsRealCause (causes.Object fault) = fault ≢ object.NoMemory
IsRealCause (causes.Link fault) = fault ≢ link.NoMemory
IsRealCause (causes.Net fault) = fault ≢ text.NoMemory
IsRealCause (causes.Refused fault) = fault ≢ net.NoMemory
IsRealCause (causes.Pulse fault) = fault ≢ pulse.NoMemory
IsRealCause (causes.Gates fault) = fault ≢ gates.NoMemory
IsRealCause (causes.Explain fault) = fault ≢ explain.NoMemory

-- the fault has a cause in a file, and this is its line
abbrev pub IsTold : Fault → List ℕ → Type 0
IsTold fault line = IsRealCause fault.cause × IsLineOf fault line

-- where a file was rejected, this holds of its fault
abbrev pub IfRejected : Status → (Fault → Type 0) → Type 0
IfRejected (statuses.Rejected fault) P = P fault
IfRejected status P = Unit {0}

-- where a command stops at a file, this holds of its fault and of the line that says so
abbrev pub IfStopped : Stop → (Fault → List ℕ → Type 0) → Type 0
IfStopped (stops.Rejected rejection) P = P rejection.fault rejection.line.items
IfStopped stop P = Unit {0}

-- the status is this one, where its line could be printed
abbrev pub IsSaid : Status → Status → Type 0
IsSaid status wanted = (status ≡ wanted) ⊎ ((status ≡ statuses.SinkFailed) ⊎ (status ≡ statuses.NoMemory))

-- How far a command came with its calls of the store: by how it stops, by its result, and by its status, where its line may be unsaid.
abbrev pub stop_ending : Stop → Ending
stop_ending stops.StoreFailed = Failed
stop_ending stops.NoMemory = Short
stop_ending (stops.Rejected rejection) = Short

abbrev pub ending : {A : Type 0} → Result A Stop → Ending
ending (Ok x) = Whole
ending (Err stop) = stop_ending stop

abbrev pub status_ending : Status → Ending
status_ending statuses.Done = Whole
status_ending statuses.Usage = Short
status_ending (statuses.Rejected fault) = Short
status_ending statuses.StoreFailed = Failed
status_ending statuses.SinkFailed = Short
status_ending statuses.NoMemory = Short
