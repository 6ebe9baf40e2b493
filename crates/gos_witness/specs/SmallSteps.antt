-- Small computation steps as lines, and what they make of stores.
--
-- Read first: Lines, SmallLines; SmallStores and SmallArrays of gos_model.
use Rattle.std.specs.Prelude.{[], ◌∷◌}
use Rattle.gos_model.specs.Terms.{Term, Skip, Lit, App, Deref, New, NewArray, Not, Loc, Arr, Scope, Put}
use Rattle.gos_model.specs.Stores.{variable_at, array_at, Store}
use Rattle.gos_model.specs.SmallStores.{three_numbers}
use Rattle.gos_model.specs.SmallArrays.{at_index}
use Rattle.gos_model.specs.Moves.{Running}
use Rattle.gos_witness.specs.declared.moves.Line.TheVariants.{Step}
use Rattle.gos_witness.specs.Lines.{Stand, Makes, CantMake}
use Rattle.gos_witness.specs.SmallLines.{skips}

-- a term that runs with a store
abbrev pub running : Term → Store → Stand
running m s = record { config = Running m s; left = [] }

-- a line leads by a step of the whole term to another term and store, or can't be made
abbrev pub StepsWith : Store → Term → Store → Term → Type 0
StepsWith s m s' t = Makes skips (Step []) (running m s) (running t s')

abbrev pub IsStuck : Store → Term → Type 0
IsStuck s m = CantMake skips (Step []) (running m s)

-- location 0 with no number
abbrev pub no_number : Store
no_number = record { place = 0; width = 8; numbers = [] } ∷ []

-- Of a variable's location the number at index 0 is read, and no other. Where there is none nothing is read: at a location that the store
-- doesn't have, and at one without a number.
abbrev pub FirstIsRead : Type 0
FirstIsRead =
    StepsWith (variable_at 0 8 5 ∷ []) (Deref (Loc 0)) (variable_at 0 8 5 ∷ []) (Lit 5 8)
    × StepsWith (three_numbers 6) (Deref (Loc 0)) (three_numbers 6) (Lit 5 8)
    × (StepsWith (three_numbers 6) (Deref (Loc 0)) (three_numbers 6) (Lit 6 8) → ⊥)
    × IsStuck (three_numbers 6) (Deref (Loc 1)) × IsStuck no_number (Deref (Loc 0))

-- and it is written, where there is one
abbrev pub FirstIsWritten : Type 0
FirstIsWritten =
    StepsWith (variable_at 0 8 5 ∷ []) (Put (Loc 0) 9) (variable_at 0 8 9 ∷ []) Skip
    × StepsWith (three_numbers 6) (Put (Loc 0) 9) (record { place = 0; width = 8; numbers = 9 ∷ 6 ∷ 7 ∷ [] } ∷ []) Skip
    × (StepsWith (three_numbers 6) (Put (Loc 0) 9) (three_numbers 9) Skip → ⊥)
    × IsStuck (three_numbers 6) (Put (Loc 1) 9) × IsStuck no_number (Put (Loc 0) 9)

-- a store with locations 0 and 2
abbrev pub gap : Store
gap = variable_at 2 1 1 ∷ variable_at 0 1 1 ∷ []

-- a new variable takes location 1, the least that is new, with number 0, and not location 3; and so does a new array, with zeros
abbrev pub LeastIsTaken : Type 0
LeastIsTaken =
    StepsWith gap (New 8 Skip) (variable_at 1 8 0 ∷ gap) (Scope 1 Skip)
    × (StepsWith gap (New 8 Skip) (variable_at 3 8 0 ∷ gap) (Scope 3 Skip) → ⊥)
    × StepsWith gap (NewArray 2 8 Skip) (array_at 1 8 2 ∷ gap) (Scope 1 Skip)
    × (StepsWith gap (NewArray 2 8 Skip) (array_at 3 8 2 ∷ gap) (Scope 3 Skip) → ⊥)

-- Of an array the number at the index is read, and no other. An index outside has no step.
abbrev pub IndexIsRead : Type 0
IndexIsRead =
    StepsWith (three_numbers 6) (Deref (at_index 0 1 2)) (three_numbers 6) (Lit 6 8)
    × (StepsWith (three_numbers 6) (Deref (at_index 0 1 2)) (three_numbers 6) (Lit 5 8) → ⊥)
    × IsStuck (three_numbers 6) (Deref (at_index 0 3 2))

-- and it is written
abbrev pub IndexIsWritten : Type 0
IndexIsWritten =
    StepsWith (three_numbers 6) (Put (at_index 0 1 2) 9) (three_numbers 9) Skip
    × (StepsWith (three_numbers 6) (Put (at_index 0 1 2) 9) (three_numbers 6) Skip → ⊥)
    × IsStuck (three_numbers 6) (Put (at_index 0 3 2) 9)

-- a read with an index that is still to be evaluated
abbrev pub waits_for : Term → Term
waits_for array = Deref (App array (Not (Lit 1 2)))

-- a line makes a step in the index of an array, at 0, 1; and none in the argument of anything else
abbrev pub IndexIsReached : Type 0
IndexIsReached =
    Makes skips (Step (0 ∷ 1 ∷ [])) (running (waits_for (Arr 0)) (three_numbers 6)) (running (Deref (at_index 0 2 2)) (three_numbers 6))
    × CantMake skips (Step (0 ∷ 1 ∷ [])) (running (waits_for (Loc 0)) (three_numbers 6))
