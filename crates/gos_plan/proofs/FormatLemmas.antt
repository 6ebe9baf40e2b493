-- What the formats allow are widths that there are.
use Rattle.std.proofs.Common.{ℕ, ◌≤◌, arith}
use Rattle.gos_types.specs.declared.widths.TheConstants.{GREATEST_WIDTH}
use Rattle.gos_types.specs.Types.{Type', Com, Exp, Var, Pair, Fun}
use Rattle.gos_types.specs.Widths.{HasWidths}
use Rattle.gos_plan.specs.declared.format.Format.{Format}
use Rattle.gos_plan.specs.declared.format.Format.TheVariants.{One, Two}
use Rattle.gos_plan.specs.Formats.{greatest, HasWidthsIn}

pub greatest_is : (format : Format) → (1 ≤ greatest format) × (greatest format ≤ GREATEST_WIDTH)
greatest_is One = (omega arith, omega arith)
greatest_is Two = (omega arith, omega arith)

pub some_width : (format : Format) (w : ℕ) → w ≤ greatest format → w ≤ GREATEST_WIDTH
some_width format w is = let known = greatest_is format in omega (arith, is, known.1)

pub widths_there : (format : Format) (t : Type') → HasWidthsIn format t → HasWidths t
widths_there format Com is = tt
widths_there format (Exp w) is = (is.0, some_width format w is.1)
widths_there format (Var w) is = (is.0, some_width format w is.1)
widths_there format (Pair a b) is = (widths_there format a is.0, widths_there format b is.1)
widths_there format (Fun a b) is = (widths_there format a is.0, widths_there format b is.1)

-- each width is one of format 2
pub widths_written : (t : Type') → HasWidths t → HasWidthsIn Two t
widths_written Com is = tt
widths_written (Exp w) is = is
widths_written (Var w) is = is
widths_written (Pair a b) is = (widths_written a is.0, widths_written b is.1)
widths_written (Fun a b) is = (widths_written a is.0, widths_written b is.1)
