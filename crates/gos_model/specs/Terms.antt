-- Terms of the source language, and the terms that a program passes through while it runs.
--
-- Read first: Types of gos_types. A term has no spans and no brackets. A bound variable is the number of binders
-- between it and its own binder; an import stays a name.
-- Says nothing of which terms are programs: that is Typing.
use Rattle.std.specs.Prelude.{ℕ, ◌+◌, ◌-◌, ◌^◌, ◌%◌, List, nat_eq, nat_lt, if◌then◌else◌, bit_and, bit_or, bit_xor}
use Rattle.gos_types.specs.Types.{Type'}

-- the bytes of a name
abbrev pub Name : Type 0
Name = List ℕ

-- the binary operators
pub data Op : Type 0 where
  Add Sub And Or Xor Eq Less : Op

-- The forms of the language, in the order of its grammar, and from `Loc` on the six that stand only in running
-- terms: a variable's location; an array's location; a block whose variable or array is at that location; a wait for an
-- event of a port; an operation whose left operand gave k; an assignment whose right side gave k.
--
-- `NewArray n w m` is a block m with an array of n numbers of w bits.
pub data Term : Type 0 where
  Skip : Term
  Lit : (k w : ℕ) → Term
  Bound : (n : ℕ) → Term
  Import : (x : Name) → Term
  Lam : (a : Type') (m : Term) → Term
  App : (m n : Term) → Term
  Both : (m n : Term) → Term
  Fst : (m : Term) → Term
  Snd : (m : Term) → Term
  Seq : (m n : Term) → Term
  Par : (m n : Term) → Term
  If : (m n p : Term) → Term
  While : (m n : Term) → Term
  Assign : (m n : Term) → Term
  Deref : (m : Term) → Term
  New : (w : ℕ) (m : Term) → Term
  NewArray : (n w : ℕ) (m : Term) → Term
  Not : (m : Term) → Term
  Bin : (op : Op) (m n : Term) → Term
  Loc : (l : ℕ) → Term
  Arr : (l : ℕ) → Term
  Scope : (l : ℕ) (m : Term) → Term
  Wait : (x : Name) (event : ℕ) → Term
  Held : (k : ℕ) (op : Op) (n : Term) → Term
  Put : (m : Term) (k : ℕ) → Term

-- the result of an operator on operands of w bits
abbrev pub result_of : Op → ℕ → ℕ → ℕ → ℕ
result_of Add w a b = (a + b) % 2 ^ w
result_of Sub w a b = (a + 2 ^ w - b) % 2 ^ w
result_of And w a b = bit_and a b
result_of Or w a b = bit_or a b
result_of Xor w a b = bit_xor a b
result_of Eq w a b = if nat_eq a b then 1 else 0
result_of Less w a b = if nat_lt a b then 1 else 0

-- the width of an operator's result, for operands of w bits
abbrev pub result_width : Op → ℕ → ℕ
result_width Add w = w
result_width Sub w = w
result_width And w = w
result_width Or w = w
result_width Xor w = w
result_width Eq w = 1
result_width Less w = 1

-- all w bits turned
abbrev pub complement : ℕ → ℕ → ℕ
complement w k = 2 ^ w - 1 - k
