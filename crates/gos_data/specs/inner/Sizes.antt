-- How many cells a local variable and an array have, by the bits of the body's outcome.
--
-- Read first: Local, Array.
use Rattle.std.specs.Prelude.{ℕ, zero, suc, ◌+◌, ◌*◌}

abbrev pub local_size : ℕ → ℕ
local_size zero = 9
local_size (suc v) = 10

abbrev pub array_size : ℕ → ℕ → ℕ
array_size n zero = 19 + 7 * n
array_size n (suc v) = 20 + 7 * n
