-- The grammar of the source language.
--
-- Read first: Items (tokens), Trees (what is derived). Every rule is one constructor, and says which items derive which
-- tree: those from number i to just before number j. The grammar is
--
--     module = { "import" name ":" type } "export" term ":" type
--     type   = prod [ "->" type ]
--     prod   = base [ "*" prod ]
--     base   = "com" | "exp" small | "var" small | "(" type ")"
--     term   = "fun" name ":" type "." term
--            | "new" name [ "[" small "]" ] ":" small "in" term
--            | par [ ";" term ]
--     par    = cmd [ "||" par ]
--     cmd    = "if" term "then" cmd "else" cmd
--            | "while" term "do" cmd
--            | rel [ ":=" rel ]
--     rel    = bits [ ( "=" | "<" ) bits ]
--     bits   = sum { ( "&" | "|" | "^" ) sum }
--     sum    = app { ( "+" | "-" ) app }
--     app    = pre { pre }
--     pre    = ( "not" | "!" | "fst" | "snd" ) pre | atom
--     atom   = "skip" | numeral ":" small | name | "(" term [ "," term ] ")"
--
-- What is repeated in braces groups to the left, so these rules begin with themselves. A width and a length are small
-- numerals: those of 32 bits.
use Rattle.std.specs.Prelude.{◌≡◌, ℕ, ◌+◌, ◌≤◌, List, Some}
use Rattle.gos_lex.specs.declared.word.Word.{Word}
use Rattle.gos_lex.specs.declared.word.Word.TheVariants as words
use Rattle.gos_lex.specs.declared.sign.Sign.{Sign}
use Rattle.gos_lex.specs.declared.sign.Sign.TheVariants as signs
use Rattle.gos_lex.specs.Tokens.{AName, ANumber, AWord, ASign}
use Rattle.gos_types.specs.Types as types
use Rattle.gos_types.specs.Types.{Type'}
use Rattle.gos_syntax.specs.declared.terms.Op.{Op}
use Rattle.gos_syntax.specs.declared.terms.Term as program
use Rattle.gos_syntax.specs.declared.operators.Level.TheVariants as levels
use Rattle.gos_syntax.specs.Operators.{sign_of, level_of}
use Rattle.gos_syntax.specs.Items.{Item, reading_at, span_of}
use Rattle.gos_syntax.specs.Trees as trees
use Rattle.gos_syntax.specs.Trees.{Tree, tree_of}

-- the item of this number is this word
abbrev pub HasWord : List Item → ℕ → Word → Type 0
HasWord items i word = reading_at items i ≡ Some (AWord word)

-- the item of this number is this sign
abbrev pub HasSign : List Item → ℕ → Sign → Type 0
HasSign items i sign = reading_at items i ≡ Some (ASign sign)

-- the item of this number is a name of these bytes
abbrev pub HasName : List Item → ℕ → List ℕ → Type 0
HasName items i name = reading_at items i ≡ Some (AName name)

-- the item of this number is a numeral of this value
abbrev pub HasNumber : List Item → ℕ → ℕ → Type 0
HasNumber items i value = reading_at items i ≡ Some (ANumber value)

-- a number of 32 bits
abbrev pub IsSmall : ℕ → Type 0
IsSmall n = n ≤ 4294967295

-- the item of this number is a small numeral of this value
abbrev pub HasSmall : List Item → ℕ → ℕ → Type 0
HasSmall items i value = HasNumber items i value × IsSmall value

-- the rules of types
pub data TypeRule : Type 0 where
  Whole Product Base : TypeRule

-- the items from i to just before j are a type by a rule
pub data IsType (items : List Item) : TypeRule → ℕ → ℕ → Type' → Type 0 where
  a_product : (i j : ℕ) (a : Type') → IsType items Product i j a → IsType items Whole i j a
  a_function : (i j k : ℕ) (a b : Type')
      → IsType items Product i j a → HasSign items j signs.Arrow → IsType items Whole (j + 1) k b
      → IsType items Whole i k (types.Fun a b)
  a_base : (i j : ℕ) (a : Type') → IsType items Base i j a → IsType items Product i j a
  a_pair : (i j k : ℕ) (a b : Type')
      → IsType items Base i j a → HasSign items j signs.Star → IsType items Product (j + 1) k b
      → IsType items Product i k (types.Pair a b)
  a_command : (i : ℕ) → HasWord items i words.Com → IsType items Base i (i + 1) types.Com
  an_expression : (i w : ℕ) → HasWord items i words.Exp → HasSmall items (i + 1) w → IsType items Base i (i + 2) (types.Exp w)
  a_variable : (i w : ℕ) → HasWord items i words.Var → HasSmall items (i + 1) w → IsType items Base i (i + 2) (types.Var w)
  in_brackets : (i j : ℕ) (a : Type')
      → HasSign items i signs.Open → IsType items Whole (i + 1) j a → HasSign items j signs.Close
      → IsType items Base i (j + 1) a

-- the rules of terms
pub data Rule : Type 0 where
  Term Par Cmd Rel Bits Sum App Pre Atom : Rule

-- the items from i to just before j are a term by a rule
pub data IsTerm (items : List Item) : Rule → ℕ → ℕ → Tree → Type 0 where
  a_parallel : (i j : ℕ) (a : Tree) → IsTerm items Par i j a → IsTerm items Term i j a
  a_sequence : (i j k : ℕ) (a b : Tree)
      → IsTerm items Par i j a → HasSign items j signs.Semicolon → IsTerm items Term (j + 1) k b
      → IsTerm items Term i k (trees.Seq (span_of items i k) a b)
  a_lambda : (i j k : ℕ) (name : List ℕ) (ty : Type') (body : Tree)
      → HasWord items i words.Fun → HasName items (i + 1) name → HasSign items (i + 2) signs.Colon
      → IsType items Whole (i + 3) j ty → HasSign items j signs.Dot → IsTerm items Term (j + 1) k body
      → IsTerm items Term i k (trees.Lam (span_of items i k) name ty (span_of items (i + 3) j) body)
  a_block : (i j : ℕ) (name : List ℕ) (width : ℕ) (body : Tree)
      → HasWord items i words.New → HasName items (i + 1) name → HasSign items (i + 2) signs.Colon
      → HasSmall items (i + 3) width → HasWord items (i + 4) words.In → IsTerm items Term (i + 5) j body
      → IsTerm items Term i j (trees.New (span_of items i j) name width (span_of items (i + 3) (i + 4)) body)
  an_array : (i j : ℕ) (name : List ℕ) (length width : ℕ) (body : Tree)
      → HasWord items i words.New → HasName items (i + 1) name → HasSign items (i + 2) signs.OpenSquare
      → HasSmall items (i + 3) length → HasSign items (i + 4) signs.CloseSquare → HasSign items (i + 5) signs.Colon
      → HasSmall items (i + 6) width → HasWord items (i + 7) words.In → IsTerm items Term (i + 8) j body
      → IsTerm items Term i j (trees.Array (span_of items i j) name length (span_of items (i + 3) (i + 4)) width (span_of items (i + 6) (i + 7)) body)
  a_command : (i j : ℕ) (a : Tree) → IsTerm items Cmd i j a → IsTerm items Par i j a
  both_commands : (i j k : ℕ) (a b : Tree)
      → IsTerm items Cmd i j a → HasSign items j signs.Parallel → IsTerm items Par (j + 1) k b
      → IsTerm items Par i k (trees.Par (span_of items i k) a b)
  a_relation : (i j : ℕ) (a : Tree) → IsTerm items Rel i j a → IsTerm items Cmd i j a
  an_assignment : (i j k : ℕ) (a b : Tree)
      → IsTerm items Rel i j a → HasSign items j signs.Assign → IsTerm items Rel (j + 1) k b
      → IsTerm items Cmd i k (trees.Assign (span_of items i k) a b)
  a_choice : (i j k l : ℕ) (a b c : Tree)
      → HasWord items i words.If → IsTerm items Term (i + 1) j a
      → HasWord items j words.Then → IsTerm items Cmd (j + 1) k b
      → HasWord items k words.Else → IsTerm items Cmd (k + 1) l c
      → IsTerm items Cmd i l (trees.If (span_of items i l) a b c)
  a_loop : (i j k : ℕ) (a b : Tree)
      → HasWord items i words.While → IsTerm items Term (i + 1) j a
      → HasWord items j words.Do → IsTerm items Cmd (j + 1) k b
      → IsTerm items Cmd i k (trees.While (span_of items i k) a b)
  some_bits : (i j : ℕ) (a : Tree) → IsTerm items Bits i j a → IsTerm items Rel i j a
  a_comparison : (i j k : ℕ) (op : Op) (a b : Tree)
      → IsTerm items Bits i j a → HasSign items j (sign_of op) → level_of op ≡ levels.Comparing → IsTerm items Bits (j + 1) k b
      → IsTerm items Rel i k (trees.Bin (span_of items i k) op a b)
  a_sum : (i j : ℕ) (a : Tree) → IsTerm items Sum i j a → IsTerm items Bits i j a
  more_bits : (i j k : ℕ) (op : Op) (a b : Tree)
      → IsTerm items Bits i j a → HasSign items j (sign_of op) → level_of op ≡ levels.OnBits → IsTerm items Sum (j + 1) k b
      → IsTerm items Bits i k (trees.Bin (span_of items i k) op a b)
  an_application : (i j : ℕ) (a : Tree) → IsTerm items App i j a → IsTerm items Sum i j a
  a_longer_sum : (i j k : ℕ) (op : Op) (a b : Tree)
      → IsTerm items Sum i j a → HasSign items j (sign_of op) → level_of op ≡ levels.Adding → IsTerm items App (j + 1) k b
      → IsTerm items Sum i k (trees.Bin (span_of items i k) op a b)
  an_operand : (i j : ℕ) (a : Tree) → IsTerm items Pre i j a → IsTerm items App i j a
  one_more_operand : (i j k : ℕ) (a b : Tree)
      → IsTerm items App i j a → IsTerm items Pre j k b
      → IsTerm items App i k (trees.App (span_of items i k) a b)
  an_atom : (i j : ℕ) (a : Tree) → IsTerm items Atom i j a → IsTerm items Pre i j a
  a_negation : (i j : ℕ) (a : Tree)
      → HasWord items i words.Not → IsTerm items Pre (i + 1) j a → IsTerm items Pre i j (trees.Not (span_of items i j) a)
  a_reading : (i j : ℕ) (a : Tree)
      → HasSign items i signs.Bang → IsTerm items Pre (i + 1) j a → IsTerm items Pre i j (trees.Deref (span_of items i j) a)
  a_first_part : (i j : ℕ) (a : Tree)
      → HasWord items i words.Fst → IsTerm items Pre (i + 1) j a → IsTerm items Pre i j (trees.Fst (span_of items i j) a)
  a_second_part : (i j : ℕ) (a : Tree)
      → HasWord items i words.Snd → IsTerm items Pre (i + 1) j a → IsTerm items Pre i j (trees.Snd (span_of items i j) a)
  skipping : (i : ℕ) → HasWord items i words.Skip → IsTerm items Atom i (i + 1) (trees.Skip (span_of items i (i + 1)))
  a_literal : (i value width : ℕ)
      → HasNumber items i value → HasSign items (i + 1) signs.Colon → HasSmall items (i + 2) width
      → IsTerm items Atom i (i + 3) (trees.Lit (span_of items i (i + 3)) value width)
  a_name : (i : ℕ) (name : List ℕ) → HasName items i name → IsTerm items Atom i (i + 1) (trees.Use (span_of items i (i + 1)) name)
  in_brackets : (i j : ℕ) (a : Tree)
      → HasSign items i signs.Open → IsTerm items Term (i + 1) j a → HasSign items j signs.Close
      → IsTerm items Atom i (j + 1) a
  a_pair : (i j k : ℕ) (a b : Tree)
      → HasSign items i signs.Open → IsTerm items Term (i + 1) j a → HasSign items j signs.Comma
      → IsTerm items Term (j + 1) k b → HasSign items k signs.Close
      → IsTerm items Atom i (k + 1) (trees.Both (span_of items i (k + 1)) a b)

-- a term of the program is derived from these items
abbrev pub Derives : List Item → Rule → ℕ → ℕ → program.Term → Type 0
Derives items rule i j term = IsTerm items rule i j (tree_of term.form term.span)
