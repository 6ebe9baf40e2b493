-- Two names are the same where the test of their bytes says so.
use Rattle.std.specs.Prelude.{◌≡◌, ℕ, true, List}
use Rattle.std.specs.Str.{bytes_eq}
use Rattle.std.proofs.Common.{arith}
use Rattle.std.proofs.lemmas.Slice.Eq.{bytes_eq-Decides}

pub bytes_eq_itself : (x : List ℕ) → bytes_eq x x ≡ true
bytes_eq_itself x = grind (arith, bytes_eq-Decides)

pub bytes_eq_same : (x y : List ℕ) → bytes_eq x y ≡ true → x ≡ y
bytes_eq_same x y e = (bytes_eq-Decides x y).0 e

pub same_bytes_eq : (x y : List ℕ) → x ≡ y → bytes_eq x y ≡ true
same_bytes_eq x y e = (bytes_eq-Decides x y).1 e
