-- How wide a number may be.
--
-- Read first: Types.
use Rattle.std.specs.Prelude.{◌≡◌, ℕ, ◌+◌, ◌-◌, ◌^◌, ◌<◌, ◌≤◌, ◌↔◌}
use Rattle.gos_types.specs.declared.widths.TheConstants.{GREATEST_WIDTH, GREATEST_NUMBER}
use Rattle.gos_types.specs.Types.{Type', Com, Exp, Var, Pair, Fun}

-- a width is 1 bit to the greatest width
abbrev pub IsWidth : ℕ → Type 0
IsWidth w = (1 ≤ w) × (w ≤ GREATEST_WIDTH)

-- the numbers of a type are widths
abbrev pub HasWidths : Type' → Type 0
HasWidths Com = Unit {0}
HasWidths (Exp w) = IsWidth w
HasWidths (Var w) = IsWidth w
HasWidths (Pair a b) = HasWidths a × HasWidths b
HasWidths (Fun a b) = HasWidths a × HasWidths b

-- the numbers of a width are those up to the greatest of it, at every width
abbrev pub HaveGreatest : Type 0
HaveGreatest = (w k : ℕ) → (k < 2 ^ w) ↔ (k ≤ 2 ^ w - 1)

-- a wider number has room for each that is less wide
abbrev pub WiderHasRoom : Type 0
WiderHasRoom = (v w k : ℕ) → v ≤ w → k < 2 ^ v → k < 2 ^ w

-- the greatest of 1, 32, 63 and 64 bits
abbrev pub GreatestAre : Type 0
GreatestAre =
    (2 ^ 1 - 1 ≡ 1) × (2 ^ 32 - 1 ≡ 4294967295) × (2 ^ 63 - 1 ≡ 9223372036854775807) × (2 ^ 64 - 1 ≡ 18446744073709551615)

-- the next ones have a bit more
abbrev pub NextAreWider : Type 0
NextAreWider =
    (2 < 2 ^ 1 → ⊥) × (4294967296 < 2 ^ 32 → ⊥) × (9223372036854775808 < 2 ^ 63 → ⊥) × (18446744073709551616 < 2 ^ 64 → ⊥)

-- the greatest width is one, and no wider one is, nor is none; its greatest number is the greatest of all, of at most 64 bits
abbrev pub GreatestIsWidth : Type 0
GreatestIsWidth =
    IsWidth GREATEST_WIDTH × (IsWidth (GREATEST_WIDTH + 1) → ⊥) × (IsWidth 0 → ⊥) × (GREATEST_NUMBER ≡ 2 ^ GREATEST_WIDTH - 1)
    × (GREATEST_WIDTH ≤ 64)
