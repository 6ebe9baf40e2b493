-- How far a number is read.
--
-- Between the reader of numbers and its lemmas.
use Rattle.std.specs.Prelude.{ℕ, List, [], Option, Some, None}
use Rattle.std.specs.Fmt.{decimal}

-- the digits of the number read so far, if any
abbrev pub digits_so_far : Option ℕ → List ℕ
digits_so_far None = []
digits_so_far (Some n) = decimal n
