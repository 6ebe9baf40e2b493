-- Orders of nets by level, and then by number, as neighbours tell.
use Rattle.std.specs.Prelude.{◌≡◌, ℕ, zero, suc, ◌+◌, ◌<◌, ◌≤◌, List, [], ◌∷◌, length, get_or}
use Rattle.gos_netlist.specs.Settling.{Numbers, at}

-- so many numbers, from n on
abbrev pub numbers_from : ℕ → ℕ → List ℕ
numbers_from n zero = []
numbers_from n (suc k) = n ∷ numbers_from (suc n) k

-- levels never fall, and at one level numbers don't
pub record IsOrdered (levels : Numbers) (order : List ℕ) : Type 0 where
  pub rising : (i j : ℕ) → i ≤ j → j < length order → at levels (get_or order i 0) ≤ at levels (get_or order j 0)
  pub numbers : (k : ℕ) → k + 1 < length order → at levels (get_or order k 0) ≡ at levels (get_or order (k + 1) 0) → get_or order k 0 ≤ get_or order (k + 1) 0
