-- The faults that a store or a sink counts, and the last one of a store.
use Rattle.std.specs.Prelude.{◌≡◌, ℕ, ◌+◌, ◌-◌, ◌^◌, ◌<◌, ◌≤◌, ◌⊎◌, List, min}

-- no call has failed yet, or the last one that did: a read or a write of a file
pub data LastFault : Type 0 where
  NoFault : LastFault
  ReadFault : (name : List ℕ) → LastFault
  WriteFault : (name : List ℕ) → LastFault

-- the count of faults rose, or it stands at the largest number that a u64 holds
abbrev pub Rose : ℕ → ℕ → Type 0
Rose before now = (before < now) ⊎ (now ≡ 2 ^ 64 - 1)

-- a count that goes up by one, and stands still at the largest number that a u64 holds
abbrev pub count_after : ℕ → ℕ
count_after count = min (count + 1) (2 ^ 64 - 1)

-- A call counts its faults: where it failed, and only there, the count rose. It never falls.
abbrev pub CountsFaults : Type 0 → ℕ → ℕ → Type 0
CountsFaults Failed before now = (Failed → Rose before now) × ((Failed → ⊥) → now ≡ before) × (before ≤ now)
