-- The calls that a store was asked for, in their order, where it tells them.
--
-- A list of calls is what a caller is to ask for. How far it came is said by its ending.
use Rattle.std.specs.Prelude.{◌≡◌, ◌⊎◌, ℕ, List, [], ◌∷◌, ◌++◌, Option, None, Some, Result, Ok, Err}
use Rattle.gos_outside.specs.declared.StoreFault.{StoreFault}
use Rattle.gos_outside.specs.declared.StoreFault.TheVariants as faults

-- a read of a file, of so many bytes at most, or a write of one
pub data StoreCall : Type 0 where
  Read : (name : List ℕ) (most : ℕ) → StoreCall
  Write : (name : List ℕ) → StoreCall

-- a call that was made: the store did it, or it failed
pub data MadeCall : Type 0 where
  Did : (call : StoreCall) → MadeCall
  Refused : (call : StoreCall) → MadeCall

-- the calls that were made, where the store tells them
abbrev pub Calls : Type 0
Calls = Option (List MadeCall)

-- the calls so far and then this one; and then all of these, of which none failed
abbrev pub and_then : Calls → MadeCall → Calls
and_then None call = None
and_then (Some calls) call = Some (calls ++ call ∷ [])

abbrev pub and_all : Calls → List StoreCall → Calls
and_all calls [] = calls
and_all calls (call ∷ rest) = and_all (and_then calls (Did call)) rest

-- some first part of these calls was made, and none failed
abbrev pub AndSome : List StoreCall → Calls → Calls → Type 0
AndSome [] old new = new ≡ old
AndSome (call ∷ rest) old new = (new ≡ old) ⊎ AndSome rest (and_then old (Did call)) new

-- some first part of these calls was made, and the last of them failed, no other
abbrev pub AndRefused : List StoreCall → Calls → Calls → Type 0
AndRefused [] old new = ⊥
AndRefused (call ∷ rest) old new = (new ≡ and_then old (Refused call)) ⊎ AndRefused rest (and_then old (Did call)) new

-- How far a caller came with its calls: all were made and none failed; or one failed, the last; or it ended before, and none failed.
pub data Ending : Type 0 where
  Whole : Ending
  Failed : Ending
  Short : Ending

-- the ending of one call
abbrev pub ending : {A : Type 0} → Result A StoreFault → Ending
ending (Ok x) = Whole
ending (Err faults.Failed) = Failed
ending (Err faults.NoMemory) = Short

-- so many of these calls were made as the ending says
abbrev pub AreMade : Ending → List StoreCall → Calls → Calls → Type 0
AreMade Whole calls old new = new ≡ and_all old calls
AreMade Failed calls old new = AndRefused calls old new
AreMade Short calls old new = AndSome calls old new
