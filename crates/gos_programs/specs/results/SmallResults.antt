-- Small running terms and stores that meet the definitions, and others that miss them.
use Rattle.std.specs.Prelude.{ℕ, [], ◌∷◌}
use Rattle.gos_types.specs.Types.{Type', Com, Exp}
use Rattle.gos_model.specs.Terms.{Lit, Import, App, Par, Deref, Loc, Wait, Put, Both, Arr}
use Rattle.gos_model.specs.Typing.{Imports, Typed}
use Rattle.gos_model.specs.Stores.{variable_at, Store}
use Rattle.gos_model.specs.SmallPrograms.{c}
use Rattle.gos_model.specs.ArrayPorts.{a, an_array}
use Rattle.gos_programs.specs.results.HasTypes.{widths_of, NumbersFit, HasType}
use Rattle.gos_programs.specs.results.Results.{IsResult}

-- location 0 alone, with this width and this number
abbrev pub one_entry : (w k : ℕ) → Store
one_entry w k = variable_at 0 w k ∷ []

-- location 0 alone, with two numbers of this width
abbrev pub two_numbers : (w j k : ℕ) → Store
two_numbers w j k = record { place = 0; width = w; numbers = j ∷ k ∷ [] } ∷ []

-- `import c : com`
abbrev pub one_command : Imports
one_command = record { name = c; ty = Com } ∷ []

-- 3 may be written to a variable of two bits, and not to one of one bit
abbrev pub WritesFit : Type 0
WritesFit = HasType (widths_of (one_entry 2 0)) [] [] (Put (Loc 0) 3) Com × (HasType (widths_of (one_entry 1 0)) [] [] (Put (Loc 0) 3) Com → ⊥)

-- a location that the store doesn't have has no type, and neither has one with two numbers: it is no variable
abbrev pub NoLocation : Type 0
NoLocation =
    ((t : Type') → HasType (widths_of []) [] [] (Loc 0) t → ⊥) × ((t : Type') → HasType (widths_of (two_numbers 8 1 2)) [] [] (Loc 0) t → ⊥)

-- a wait for the answer of a command is a command, and of an import that is not there it has no type
abbrev pub WaitsHaveTypes : Type 0
WaitsHaveTypes =
    HasType (widths_of []) one_command [] (Wait c 1) Com × ((t : Type') → HasType (widths_of []) [] [] (Wait c 1) t → ⊥)

-- The access of an array that was asked for its index is a number of the array's width, and the array alone is none. So it is with
-- two numbers that a location has.
abbrev pub AccessesHaveTypes : Type 0
AccessesHaveTypes =
    HasType (widths_of []) an_array [] (Deref (App (Wait a 0) (Both (Lit 1 1) (Lit 1 1)))) (Exp 8)
    × ((t : Type') → HasType (widths_of []) an_array [] (Deref (Wait a 0)) t → ⊥)
    × HasType (widths_of (two_numbers 8 1 2)) [] [] (Deref (App (Arr 0) (Lit 1 1))) (Exp 8)
    × ((t : Type') → HasType (widths_of (two_numbers 8 1 2)) [] [] (Deref (Arr 0)) t → ⊥)

-- `c || c` has a type as a running term, and none as a source
abbrev pub SharingIsNotAsked : Type 0
SharingIsNotAsked =
    HasType (widths_of []) one_command [] (Par (Import c) (Import c)) Com × (Typed one_command [] (Par (Import c) (Import c)) Com → ⊥)

-- 1 fits a location of one bit, and 2 does not, at whichever index; and a location has a number
abbrev pub OneBitFits : Type 0
OneBitFits =
    NumbersFit (one_entry 1 1) × (NumbersFit (one_entry 1 2) → ⊥) × (NumbersFit (two_numbers 1 1 2) → ⊥)
    × (NumbersFit (record { place = 0; width = 1; numbers = [] } ∷ []) → ⊥)

-- 3 is a result of two bits and not of one, and a command has no number as a result
abbrev pub SomeResults : Type 0
SomeResults = IsResult (Exp 2) (Lit 3 2) 3 × (IsResult (Exp 1) (Lit 3 1) 3 → ⊥) × (IsResult Com (Lit 0 1) 0 → ⊥)
