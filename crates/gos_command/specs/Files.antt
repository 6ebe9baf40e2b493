-- What the first bytes of a file tell of it.
use Rattle.std.specs.Prelude.{◌≡◌, ◌≤◌, ℕ, List, length}

-- the bytes read are the whole file, where they or it are not longer than the limit
pub record IsReadWhole (limit : ℕ) (read file : List ℕ) : Type 0 where
  pub whole : length read ≤ limit → read ≡ file
  pub short : length file ≤ limit → read ≡ file
