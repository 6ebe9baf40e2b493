-- The names of files.
use Rattle.std.specs.Prelude.{◌≡◌, ℕ, ◌<◌, ◌≤◌, ◌⊎◌, List, length, All}

-- an ASCII letter, a digit, or one of `_`, `.`, `-` and `/`
abbrev pub IsFileByte : ℕ → Type 0
IsFileByte b =
    (65 ≤ b × b ≤ 90) ⊎ (97 ≤ b × b ≤ 122) ⊎ (48 ≤ b × b ≤ 57) ⊎ (b ≡ 95) ⊎ (b ≡ 46) ⊎ (b ≡ 45) ⊎ (b ≡ 47)

-- 1 to 255 such bytes. Two different names are two different files.
pub record IsFileName (name : List ℕ) : Type 0 where
  pub some : 0 < length name
  pub short : length name ≤ 255
  pub each : All IsFileByte name
