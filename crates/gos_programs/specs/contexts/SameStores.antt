-- Stores that have the same at each location.
--
-- Read first: Moves of gos_model. In which order a store has its entries doesn't matter to a program.
use Rattle.std.specs.Prelude.{◌≡◌, ◌⊎◌, ℕ, List, ◌++◌, None}
use Rattle.gos_model.specs.Terms.{Term}
use Rattle.gos_model.specs.Stores.{Store, entry_at}
use Rattle.gos_model.specs.Moves.{Program, Running, Act, Move, Moves, Stalled}
use Rattle.gos_programs.specs.contexts.Plugged.{AreInner}

abbrev pub SameEntries : Store → Store → Type 0
SameEntries s t = (l : ℕ) → entry_at s l ≡ entry_at t l

-- no location has something in both
abbrev pub AreApart : Store → Store → Type 0
AreApart s t = (l : ℕ) → (entry_at s l ≡ None) ⊎ (entry_at t l ≡ None)

abbrev pub SwappedSame : Type 0
SwappedSame = (s t : Store) → AreApart s t → SameEntries (s ++ t) (t ++ s)

-- A move of the one is a move of the other, to stores that have the same again.
abbrev pub MoveSame : Type 0
MoveSame =
    (p : Program) (a : Act) (m v : Term) (s s' t : Store)
    → SameEntries s t → Move p a (Running m s) (Running v s') → (t' : Store) × SameEntries s' t' × Move p a (Running m t) (Running v t')

abbrev pub MovesSame : Type 0
MovesSame =
    (p : Program) (acts : List Act) (m v : Term) (s s' t : Store)
    → SameEntries s t → AreInner acts → Moves p acts (Running m s) (Running v s')
    → (t' : Store) × SameEntries s' t' × Moves p acts (Running m t) (Running v t')

abbrev pub WaitsSame : Type 0
WaitsSame = (p : Program) (m : Term) (s t : Store) → SameEntries s t → Stalled p (Running m s) → Stalled p (Running m t)
