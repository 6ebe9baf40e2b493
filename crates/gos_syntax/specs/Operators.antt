-- The binary operators: how each is written, and which rule of the grammar it belongs to.
use Rattle.gos_lex.specs.declared.sign.Sign.{Sign}
use Rattle.gos_lex.specs.declared.sign.Sign.TheVariants as signs
use Rattle.gos_syntax.specs.declared.terms.Op.{Op}
use Rattle.gos_syntax.specs.declared.terms.Op.TheVariants as ops
use Rattle.gos_syntax.specs.declared.operators.Level.{Level}
use Rattle.gos_syntax.specs.declared.operators.Level.TheVariants as levels

-- the sign of an operator
abbrev pub sign_of : Op → Sign
sign_of ops.Add = signs.Plus
sign_of ops.Sub = signs.Minus
sign_of ops.And = signs.And
sign_of ops.Or = signs.Or
sign_of ops.Xor = signs.Xor
sign_of ops.Eq = signs.Equal
sign_of ops.Less = signs.Less

-- the rule that an operator belongs to
abbrev pub level_of : Op → Level
level_of ops.Add = levels.Adding
level_of ops.Sub = levels.Adding
level_of ops.And = levels.OnBits
level_of ops.Or = levels.OnBits
level_of ops.Xor = levels.OnBits
level_of ops.Eq = levels.Comparing
level_of ops.Less = levels.Comparing
