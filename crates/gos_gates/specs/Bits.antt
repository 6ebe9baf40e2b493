-- Numbers by their bits, the least bit first.
--
-- Read first: Gates.
use Rattle.std.specs.Prelude.{ℕ, zero, suc, ◌%◌, ◌/◌, Bool, List, [], ◌∷◌, nat_eq}

-- so many bits of a number
abbrev pub bits_of : ℕ → ℕ → List Bool
bits_of zero n = []
bits_of (suc w) n = nat_eq (n % 2) 1 ∷ bits_of w (n / 2)
