-- How a command may end.
--
-- Read first: Lines.
use Rattle.std.specs.Prelude.{◌≡◌, ◌≢◌, ◌⊎◌, ℕ, Result, Ok, Err}
use Rattle.gos_outside.specs.Calls.{Ending, Whole, Failed, Short}
use Rattle.gos_netlist.specs.declared.fault.NetTextFault.TheVariants as texts
use Rattle.gos_netcheck.specs.declared.fault.NetFault.TheVariants as nets
use Rattle.gos_verilog.specs.declared.fault.VFault.TheVariants as verilog
use Rattle.gos_flow.specs.declared.status.Cause.{Cause}
use Rattle.gos_flow.specs.declared.status.Cause.TheVariants as causes
use Rattle.gos_flow.specs.declared.status.Status.{Status}
use Rattle.gos_flow.specs.declared.status.Status.TheVariants as statuses
use Rattle.gos_flow.specs.declared.stop.Stop.{Stop}
use Rattle.gos_flow.specs.declared.stop.Stop.TheVariants as stops

-- the exit status of the program: 0 where all was done, else which of the other ends it is
abbrev pub code_of : Status → ℕ
code_of statuses.Done = 0
code_of statuses.Usage = 1
code_of (statuses.Rejected cause) = 2
code_of statuses.StoreFailed = 3
code_of statuses.SinkFailed = 4
code_of statuses.NoMemory = 5

-- the cause is another than want of memory
abbrev pub IsRealCause : Cause → Type 0
IsRealCause (causes.Net fault) = fault ≢ texts.NoMemory
IsRealCause (causes.Verilog fault) = fault ≢ verilog.NoMemory
IsRealCause (causes.Refused fault) = fault ≢ nets.NoMemory

-- where a file was rejected, this holds of its cause
abbrev pub IfRejected : Status → (Cause → Type 0) → Type 0
IfRejected (statuses.Rejected cause) P = P cause
IfRejected status P = Unit {0}

-- where a command stops at a file, this holds of the cause
abbrev pub IfStopped : Stop → (Cause → Type 0) → Type 0
IfStopped (stops.Rejected cause) P = P cause
IfStopped stop P = Unit {0}

-- the status is this one, where its line could be printed
abbrev pub IsSaid : Status → Status → Type 0
IsSaid status wanted = (status ≡ wanted) ⊎ ((status ≡ statuses.SinkFailed) ⊎ (status ≡ statuses.NoMemory))

-- How far a command came with its calls of the store: by how it stops, by its result, and by its status, where its line may be unsaid.
abbrev pub stop_ending : Stop → Ending
stop_ending stops.StoreFailed = Failed
stop_ending stops.NoMemory = Short
stop_ending (stops.Rejected cause) = Short

abbrev pub ending : {A : Type 0} → Result A Stop → Ending
ending (Ok x) = Whole
ending (Err stop) = stop_ending stop

abbrev pub status_ending : Status → Ending
status_ending statuses.Done = Whole
status_ending statuses.Usage = Short
status_ending (statuses.Rejected cause) = Short
status_ending statuses.StoreFailed = Failed
status_ending statuses.SinkFailed = Short
status_ending statuses.NoMemory = Short
