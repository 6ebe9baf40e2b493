-- Types of one form are the same only where their widths are.
use Rattle.std.specs.Prelude.{◌≡◌, ℕ}
use Rattle.gos_types.specs.Types.{Exp, Var}

pub same_expression_width : (v w : ℕ) → Exp v ≡ Exp w → v ≡ w
same_expression_width v w e = cc

pub same_variable_width : (v w : ℕ) → Var v ≡ Var w → v ≡ w
same_variable_width v w e = cc
