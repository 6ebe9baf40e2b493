-- The types of numbers as the program keeps them: by number, in a list.
--
-- Read first: Wiring. Between the functions of this crate.
use Rattle.std.specs.Prelude.{List, Option, Some, None, slice_get}
use Rattle.gos_types.specs.declared.types.Ty.{Ty}
use Rattle.gos_types.specs.Types.{Type', Com, type_of}
use Rattle.gos_compile.specs.Wiring.{Types}

-- a type that there is, or that of a command
abbrev pub type_or_com : Option Ty → Type'
type_or_com None = Com
type_or_com (Some t) = type_of t

-- the type of each number; a number beyond the list is one of a command
abbrev pub types_at : List Ty → Types
types_at list k = type_or_com (slice_get list k)
