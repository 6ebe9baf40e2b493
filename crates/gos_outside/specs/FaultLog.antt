-- The last fault of a log, from the kind of call and the name that it keeps.
use Rattle.std.specs.Prelude.{ℕ, List, Option, Some, None}
use Rattle.std.specs.Borrow.{Bor}
use Rattle.gos_outside.specs.Faults.{LastFault, NoFault, ReadFault, WriteFault}
use Rattle.gos_outside.specs.declared.fault_log.Call.{Call}
use Rattle.gos_outside.specs.declared.fault_log.Call.TheVariants.{Read, Write}

-- the last fault, if a call has failed
abbrev pub fault_of : Option Call → List ℕ → LastFault
fault_of None name = NoFault
fault_of (Some Read) name = ReadFault name
fault_of (Some Write) name = WriteFault name

-- the last fault, from a call and the name of its file
abbrev pub last_fault_of : Option (Call × Bor (List ℕ)) → LastFault
last_fault_of None = NoFault
last_fault_of (Some call) = fault_of (Some call.0) call.1.now
