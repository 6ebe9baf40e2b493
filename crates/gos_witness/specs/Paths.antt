-- Paths in a term: the numbers of children from the whole term down.
use Rattle.std.specs.Prelude.{ℕ, ◌≤◌}

-- the number of a child
abbrev pub IsChild : ℕ → Type 0
IsChild i = i ≤ 2
