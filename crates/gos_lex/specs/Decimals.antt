-- Numbers of the machine formats, which have no leading zeros.
use Rattle.std.specs.Prelude.{◌≡◌, ℕ, ◌≤◌, List}
use Rattle.std.specs.Fmt.{decimal}

-- the decimal digits of a number from `low` to `high`, as they are printed
abbrev pub IsDecimalIn : ℕ → ℕ → List ℕ → Type 0
IsDecimalIn low high bytes = (n : ℕ) × (low ≤ n) × (n ≤ high) × (bytes ≡ decimal n)
