-- The expressions of a module's lines: how they are written, and what they are by IEEE 1364-2005.
--
-- Read first: Lines; Settling of gos_netlist (`at`). Nets are unsigned. An operand of `~`, `&`, `|`, `^`, `+` and `-` has
-- the size of the net that is assigned, so a carry is dropped. A comparison is that of numbers, and gives one bit. A
-- choice takes its second part where its first is not 0. All this is of nets whose bits fit, as those of accepted
-- netlists do. Says nothing of x and z: no net of these modules has them after reset.
use Rattle.std.specs.Prelude.{ℕ, ◌+◌, ◌-◌, ◌^◌, ◌%◌, if◌then◌else◌, List, [], ◌∷◌, ◌++◌, bit_and, bit_or, bit_xor, nat_eq, nat_lt, codes}
use Rattle.gos_verilog.specs.Lines.{cell_net, literal}

-- the signs between two operands
pub data Sign : Type 0 where
  BitAnd BitOr BitXor Plus Minus Equal Below : Sign

-- an operand: a net of a port, the net of a cell, a literal
pub data Operand : Type 0 where
  OfPort : (name : List ℕ) → Operand
  OfCell : (n : ℕ) → Operand
  Literal : (w k : ℕ) → Operand

-- An expression: an operand, all its bits turned, a sign between two, a choice. Operands have no signs of their own, so
-- no rule is needed of which sign binds first.
pub data Expression : Type 0 where
  Plain : (a : Operand) → Expression
  Turned : (a : Operand) → Expression
  Signed : (sign : Sign) (a b : Operand) → Expression
  Choice : (c a b : Operand) → Expression

abbrev pub sign_text : Sign → List ℕ
sign_text BitAnd = codes "&"
sign_text BitOr = codes "|"
sign_text BitXor = codes "^"
sign_text Plus = codes "+"
sign_text Minus = codes "-"
sign_text Equal = codes "=="
sign_text Below = codes "<"

-- how they are written
abbrev pub operand_text : Operand → List ℕ
operand_text (OfPort name) = name
operand_text (OfCell n) = cell_net n
operand_text (Literal w k) = literal w k

abbrev pub expression_text : Expression → List ℕ
expression_text (Plain a) = operand_text a
expression_text (Turned a) = codes "~" ++ operand_text a
expression_text (Signed sign a b) = operand_text a ++ codes " " ++ sign_text sign ++ codes " " ++ operand_text b
expression_text (Choice c a b) = operand_text c ++ codes " ? " ++ operand_text a ++ codes " : " ++ operand_text b

-- the operands of an expression
abbrev pub operands : Expression → List Operand
operands (Plain a) = a ∷ []
operands (Turned a) = a ∷ []
operands (Signed sign a b) = a ∷ b ∷ []
operands (Choice c a b) = c ∷ a ∷ b ∷ []

-- what a sign makes of two numbers, at w bits
abbrev pub result : ℕ → Sign → ℕ → ℕ → ℕ
result w BitAnd a b = bit_and a b
result w BitOr a b = bit_or a b
result w BitXor a b = bit_xor a b
result w Plus a b = (a + b) % 2 ^ w
result w Minus a b = (a + 2 ^ w - b) % 2 ^ w
result w Equal a b = if nat_eq a b then 1 else 0
result w Below a b = if nat_lt a b then 1 else 0

-- what an operand is, by the nets of ports and the nets of cells
abbrev pub operand_value : (List ℕ → ℕ) → (ℕ → ℕ) → Operand → ℕ
operand_value ports nets (OfPort name) = ports name
operand_value ports nets (OfCell n) = nets n
operand_value ports nets (Literal w k) = k

-- what an expression is, assigned to a net of w bits
abbrev pub value : ℕ → (List ℕ → ℕ) → (ℕ → ℕ) → Expression → ℕ
value w ports nets (Plain a) = operand_value ports nets a
value w ports nets (Turned a) = 2 ^ w - 1 - operand_value ports nets a
value w ports nets (Signed sign a b) = result w sign (operand_value ports nets a) (operand_value ports nets b)
value w ports nets (Choice c a b) = if nat_eq (operand_value ports nets c) 0 then operand_value ports nets b else operand_value ports nets a
