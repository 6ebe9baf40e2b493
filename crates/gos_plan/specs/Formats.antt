-- The two formats of object texts.
--
-- Read first: Types and Widths of gos_types. Their lines are the same, but for the number in the first. Format 1 has widths up to
-- 32 and no arrays; format 2 has each width that there is, and arrays.
use Rattle.std.specs.Prelude.{ℕ, ◌≤◌, List, codes}
use Rattle.gos_types.specs.declared.widths.TheConstants.{GREATEST_WIDTH}
use Rattle.gos_types.specs.Types.{Type', Com, Exp, Var, Pair, Fun}
use Rattle.gos_plan.specs.declared.format.Format.{Format}
use Rattle.gos_plan.specs.declared.format.Format.TheVariants.{One, Two}

-- the greatest width of a format
abbrev pub greatest : Format → ℕ
greatest One = 32
greatest Two = GREATEST_WIDTH

-- whether it has arrays
abbrev pub HasArrays : Format → Type 0
HasArrays One = ⊥
HasArrays Two = Unit {0}

-- a width of a format, and a type whose numbers are
abbrev pub IsWidthIn : Format → ℕ → Type 0
IsWidthIn f w = (1 ≤ w) × (w ≤ greatest f)

abbrev pub HasWidthsIn : Format → Type' → Type 0
HasWidthsIn f Com = Unit {0}
HasWidthsIn f (Exp w) = IsWidthIn f w
HasWidthsIn f (Var w) = IsWidthIn f w
HasWidthsIn f (Pair a b) = HasWidthsIn f a × HasWidthsIn f b
HasWidthsIn f (Fun a b) = HasWidthsIn f a × HasWidthsIn f b

-- format 1 has widths to 32, and format 2 to 64
abbrev pub FormatsHaveWidths : Type 0
FormatsHaveWidths = IsWidthIn One 32 × (IsWidthIn One 33 → ⊥) × IsWidthIn Two 64 × (IsWidthIn Two 65 → ⊥)

-- the first line, and the word of the second
abbrev pub head_text : Format → List ℕ
head_text One = codes "gosobj 1\nweight "
head_text Two = codes "gosobj 2\nweight "
