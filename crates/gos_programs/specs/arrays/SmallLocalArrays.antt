-- Small terms with an array, and others that miss the definitions.
--
-- Read first: Stages, LocalArray, ArrayWaits. The array is `a`, and what it is read at `0:1`.
use Rattle.std.specs.Prelude.{◌≡◌, ℕ, ◌+◌, [], ◌∷◌, Some, None}
use Rattle.gos_model.specs.Terms.{Term, Lit, Import, App, Both, Par, Deref, Arr, Wait}
use Rattle.gos_model.specs.ArrayPorts.{a, b}
use Rattle.gos_programs.specs.arrays.Stages.{Clear, Begun, Asked, Told, StandsAt}
use Rattle.gos_programs.specs.arrays.LocalArray.{arrayed, numbers_at, IsArrayHome}
use Rattle.gos_programs.specs.arrays.ArrayWaits.{IsAnswered}

-- a read that waits for this event, with its index as it is now
abbrev pub reading : ℕ → Term → Term
reading s j = Deref (App (Wait a s) (Both (Import b) j))

-- it began where the index is as it was written, it was asked for it where it waits for event 0, and it told a number
abbrev pub StagesAreTold : Type 0
StagesAreTold =
    StandsAt a (Begun None) (reading 1 (Import b)) × StandsAt a (Asked None) (reading 0 (Wait b 1)) × StandsAt a (Told None 3) (reading 1 (Lit 3 2))
    × (StandsAt a (Begun None) (reading 1 (Lit 3 2)) → ⊥) × (StandsAt a (Begun None) (reading 0 (Import b)) → ⊥)
    × (StandsAt a (Told None 3) (reading 1 (Import b)) → ⊥)

-- of two accesses only one waits, and a read is no write
abbrev pub OneStands : Type 0
OneStands =
    StandsAt a (Asked None) (Par (reading 0 (Import b)) (Deref (App (Import a) (Import b))))
    × (StandsAt a (Asked None) (Par (reading 0 (Import b)) (reading 0 (Import b))) → ⊥)
    × (StandsAt a (Asked (Some 5)) (reading 0 (Import b)) → ⊥)

-- with location 7 in its place: the import, and a read that waits, at the index as it is now. Another port's stays.
abbrev pub LocationIsPut : Type 0
LocationIsPut =
    (arrayed (λ l. l) a 7 (Deref (App (Import a) (Import b))) ≡ Deref (App (Arr 7) (Import b)))
    × (arrayed (λ l. l) a 7 (reading 1 (Lit 3 2)) ≡ Deref (App (Arr 7) (Lit 3 2)))
    × (arrayed (λ l. l) b 7 (reading 1 (Lit 3 2)) ≡ Deref (App (Wait a 1) (Both (Arr 7) (Lit 3 2))))

-- a home has the numbers, and is none of the term's own locations
abbrev pub HomesAreApart : Type 0
HomesAreApart =
    IsArrayHome (λ l. 1 + l) (numbers_at 0 8 (4 ∷ 5 ∷ []) ∷ []) 0 8 (4 ∷ 5 ∷ [])
    × (IsArrayHome (λ l. l) (numbers_at 0 8 (4 ∷ 5 ∷ []) ∷ []) 0 8 (4 ∷ 5 ∷ []) → ⊥)
    × (IsArrayHome (λ l. 1 + l) (numbers_at 0 8 (4 ∷ 5 ∷ []) ∷ []) 0 8 (5 ∷ 4 ∷ []) → ⊥)

-- an access that began, or that told its index, waits for the array
abbrev pub AskedIsAnswered : Type 0
AskedIsAnswered = IsAnswered Clear × IsAnswered (Asked None) × (IsAnswered (Begun None) → ⊥) × (IsAnswered (Told None 3) → ⊥)
