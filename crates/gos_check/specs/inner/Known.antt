-- What the walk keeps of a term that is typed, and what it answers.
--
-- Between the functions of this crate.
use Rattle.std.specs.Prelude.{ℕ, ◌≡◌, ◌≤◌, List, Result, Ok, MatchResult}
use Rattle.gos_types.specs.Types.{Type', type_of}
use Rattle.gos_model.specs.Weight.{count}
use Rattle.gos_check.specs.declared.fault.CheckFault.{CheckFault}
use Rattle.gos_check.specs.declared.free.Occurrence.{Occurrence}
use Rattle.gos_check.specs.declared.judged.Judged.{Judged}
use Rattle.gos_check.specs.Sizes.{IsCountable}
use Rattle.gos_check.specs.Faults.{Found, Refuses}

-- the answer has the type that is found, or refuses with the fault that is found
abbrev pub Finds : Found Type' → Result Judged CheckFault → Type 0
Finds found answer = MatchResult answer (λ part. found ≡ Ok (type_of part.ty)) (λ e. Refuses found e)

-- it has these free names, its parts have this weight, and its type can be counted
abbrev pub IsKnown : List Occurrence → ℕ → Judged → Type 0
IsKnown names weight part = (part.free.items ≡ names) × IsCountable (type_of part.ty) × (part.weight ≡ weight)

-- the same, where the parts weigh so much at most
abbrev pub IsBounded : List Occurrence → ℕ → ℕ → Judged → Type 0
IsBounded names weight most part = (part.free.items ≡ names) × IsCountable (type_of part.ty) × (part.weight ≡ weight) × (part.weight ≤ most)

-- the same of a whole term, whose type is small
abbrev pub IsWhole : List Occurrence → ℕ → ℕ → Judged → Type 0
IsWhole names weight most part = (part.free.items ≡ names) × (count (type_of part.ty) ≤ 64) × (part.weight ≡ weight) × (part.weight ≤ most)
