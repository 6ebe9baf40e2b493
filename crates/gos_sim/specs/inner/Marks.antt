-- Marks: which of the items are marked, 64 of them a word.
--
-- Read first: Settling of gos_netlist.
use Rattle.std.specs.Prelude.{◌≡◌, ℕ, ◌/◌, ◌%◌, ◌^◌}
use Rattle.gos_netlist.specs.Settling.{Numbers, at}

-- an item isn't marked
abbrev pub IsUnmarked : Numbers → ℕ → Type 0
IsUnmarked words item = at words (item / 64) / 2 ^ (item % 64) % 2 ≡ 0

-- no item is
abbrev pub AreUnmarked : Numbers → Type 0
AreUnmarked words = (item : ℕ) → IsUnmarked words item

-- what is marked stays so
abbrev pub KeepsMarks : Numbers → Numbers → Type 0
KeepsMarks old new = (item : ℕ) → IsUnmarked new item → IsUnmarked old item
