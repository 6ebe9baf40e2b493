-- Which calls of a store or a sink in memory are to fail: a list of their numbers, counted from 1.
use Rattle.std.specs.Prelude.{ℕ, List, Contains}
use Rattle.gos_outside.specs.Faults.{count_after}

-- how many calls were made, up to the largest number of a u64, and the numbers of those that are to fail
pub record Planned : Type 0 where
  pub calls : ℕ
  pub fail : List ℕ

-- the next call is one that is to fail
abbrev pub NextFails : ℕ → List ℕ → Type 0
NextFails calls fail = Contains fail (count_after calls)
