-- The faults of a module, as clauses see them, and what follows a question that may have one.
--
-- A `CheckFault` of the program has boxes in its types, and may be want of memory. A `Fault` is neither.
use Rattle.std.specs.Prelude.{◌≡◌, ℕ, List, Option, Some, None, Result, Ok, Err, MatchOption}
use Rattle.gos_lex.specs.declared.token.Span.{Span}
use Rattle.gos_types.specs.Types.{Type', type_of}
use Rattle.gos_check.specs.declared.fault.Want.{Want}
use Rattle.gos_check.specs.declared.fault.Want.TheVariants as wants
use Rattle.gos_check.specs.declared.fault.CheckFault.{CheckFault}
use Rattle.gos_check.specs.declared.fault.CheckFault.TheVariants as faults

-- what a place demands: one type, or one of a class
pub data Wanted : Type 0 where
  Just : (t : Type') → Wanted
  AnyExp AnyVar ComOrExp : Wanted

-- what is wrong with a module
pub data Fault : Type 0 where
  Unbound : (name : List ℕ) (span : Span) → Fault
  Differs : (span : Span) (want : Wanted) (got : Type') → Fault
  NotFunction : (span : Span) (got : Type') → Fault
  NotPair : (span : Span) (got : Type') → Fault
  Shared : (name : List ℕ) (first second : Span) → Fault
  Width : (span : Span) (width value : ℕ) → Fault
  TypeTooLarge : (span : Span) (handshakes : ℕ) → Fault
  Repeated : (name : List ℕ) (first second : Span) → Fault
  TooHeavy : (weight : ℕ) → Fault
  Length : (span : Span) (length : ℕ) → Fault

-- what the program says is wanted, without boxes
abbrev pub wanted_of : Want → Wanted
wanted_of (wants.Just t) = Just (type_of t)
wanted_of wants.AnyExp = AnyExp
wanted_of wants.AnyVar = AnyVar
wanted_of wants.ComOrExp = ComOrExp

-- the fault that the program tells; want of memory is none
abbrev pub fault_of : CheckFault → Option Fault
fault_of (faults.Unbound name span) = Some (Unbound name span)
fault_of (faults.Differs span want got) = Some (Differs span (wanted_of want) (type_of got))
fault_of (faults.NotFunction span got) = Some (NotFunction span (type_of got))
fault_of (faults.NotPair span got) = Some (NotPair span (type_of got))
fault_of (faults.Shared name first second) = Some (Shared name first second)
fault_of (faults.Width span width value) = Some (Width span width value)
fault_of (faults.TypeTooLarge span handshakes) = Some (TypeTooLarge span handshakes)
fault_of (faults.Repeated name first second) = Some (Repeated name first second)
fault_of (faults.TooHeavy weight) = Some (TooHeavy weight)
fault_of (faults.Length span length) = Some (Length span length)
fault_of faults.NoMemory = None

-- an answer to a question that may have a fault: what was asked for, or the first fault
abbrev pub Found : Type 0 → Type 0
Found A = Result A Fault

-- what comes after an answer: nothing where it is a fault
abbrev pub after : {A B : Type 0} → Found A → (A → Found B) → Found B
after (Ok a) next = next a
after (Err fault) next = Err fault

-- the program's refusal is the fault of this answer, or want of memory
abbrev pub Refuses : {A : Type 0} → Found A → CheckFault → Type 0
Refuses found refusal = MatchOption (fault_of refusal) (Unit {0}) (λ fault. found ≡ Err fault)
