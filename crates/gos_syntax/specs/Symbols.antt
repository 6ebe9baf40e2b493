-- The grammar as a parser walks it: without rules that begin with themselves.
--
-- Read first: Grammar. What a rule repeats or may leave out is a phrase of its own here, a tail. So the next token alone
-- tells which rule applies (an LL(1) grammar; Lewis and Stearns 1968). That both grammars derive the same tokens is
-- proved in proofs/SpellingLemmas and proofs/MeaningLemmas.
use Rattle.std.specs.Prelude.{◌≡◌, ℕ, List, [], ◌∷◌, Option, Some}
use Rattle.gos_lex.specs.declared.word.Word.{Word}
use Rattle.gos_lex.specs.declared.word.Word.TheVariants as words
use Rattle.gos_lex.specs.declared.sign.Sign.{Sign}
use Rattle.gos_lex.specs.declared.sign.Sign.TheVariants as signs
use Rattle.gos_lex.specs.Tokens.{Reading, AName, ANumber, AWord, ASign}
use Rattle.gos_syntax.specs.declared.terms.Op.{Op}
use Rattle.gos_syntax.specs.declared.operators.Level.{Level}
use Rattle.gos_syntax.specs.declared.operators.Level.TheVariants as levels
use Rattle.gos_syntax.specs.Operators.{sign_of, level_of}
use Rattle.gos_syntax.specs.Grammar.{IsSmall}

-- what a token is asked to be
pub data Class : Type 0 where
  TheWord : (word : Word) → Class
  TheSign : (sign : Sign) → Class
  SomeName SomeNumber SomeSmall : Class
  SomeOperator : (level : Level) → Class

-- a token is what it is asked to be
abbrev pub Fits : Option Reading → Class → Type 0
Fits r (TheWord word) = r ≡ Some (AWord word)
Fits r (TheSign sign) = r ≡ Some (ASign sign)
Fits r SomeName = (name : List ℕ) × (r ≡ Some (AName name))
Fits r SomeNumber = (value : ℕ) × (r ≡ Some (ANumber value))
Fits r SomeSmall = (value : ℕ) × ((r ≡ Some (ANumber value)) × IsSmall value)
Fits r (SomeOperator level) = (op : Op) × (r ≡ Some (ASign (sign_of op))) × (level_of op ≡ level)

-- the phrases; a tail is what may still follow its phrase's beginning
pub data Phrase : Type 0 where
  Module : Phrase
  Whole WholeTail Product ProductTail Base : Phrase
  Term BlockTail TermTail Par ParTail Cmd CmdTail Rel RelTail Bits BitsTail Sum SumTail App AppTail Pre Atom AtomTail : Phrase

-- what a rule asks for next
pub data Symbol : Type 0 where
  Token : (class : Class) → Symbol
  Part : (phrase : Phrase) → Symbol

-- a word, a sign, a phrase, as symbols
abbrev pub word : Word → Symbol
word w = Token (TheWord w)

abbrev pub sign : Sign → Symbol
sign s = Token (TheSign s)

abbrev pub name : Symbol
name = Token SomeName

abbrev pub number : Symbol
number = Token SomeNumber

abbrev pub small : Symbol
small = Token SomeSmall

abbrev pub operator : Level → Symbol
operator level = Token (SomeOperator level)

-- a phrase is made of these symbols
pub data IsRule : Phrase → List Symbol → Type 0 where
  an_import : IsRule Module (word words.Import ∷ name ∷ sign signs.Colon ∷ Part Whole ∷ Part Module ∷ [])
  an_export : IsRule Module (word words.Export ∷ Part Term ∷ sign signs.Colon ∷ Part Whole ∷ [])
  a_type : IsRule Whole (Part Product ∷ Part WholeTail ∷ [])
  an_outcome : IsRule WholeTail (sign signs.Arrow ∷ Part Whole ∷ [])
  no_outcome : IsRule WholeTail []
  a_product : IsRule Product (Part Base ∷ Part ProductTail ∷ [])
  a_factor : IsRule ProductTail (sign signs.Star ∷ Part Product ∷ [])
  no_factor : IsRule ProductTail []
  a_command_type : IsRule Base (word words.Com ∷ [])
  an_expression_type : IsRule Base (word words.Exp ∷ small ∷ [])
  a_variable_type : IsRule Base (word words.Var ∷ small ∷ [])
  a_type_in_brackets : IsRule Base (sign signs.Open ∷ Part Whole ∷ sign signs.Close ∷ [])
  a_lambda : IsRule Term (word words.Fun ∷ name ∷ sign signs.Colon ∷ Part Whole ∷ sign signs.Dot ∷ Part Term ∷ [])
  a_block : IsRule Term (word words.New ∷ name ∷ Part BlockTail ∷ [])
  a_local : IsRule BlockTail (sign signs.Colon ∷ small ∷ word words.In ∷ Part Term ∷ [])
  an_array : IsRule BlockTail (sign signs.OpenSquare ∷ small ∷ sign signs.CloseSquare ∷ sign signs.Colon ∷ small ∷ word words.In ∷ Part Term ∷ [])
  a_sequence : IsRule Term (Part Par ∷ Part TermTail ∷ [])
  a_next : IsRule TermTail (sign signs.Semicolon ∷ Part Term ∷ [])
  no_next : IsRule TermTail []
  a_parallel : IsRule Par (Part Cmd ∷ Part ParTail ∷ [])
  a_branch : IsRule ParTail (sign signs.Parallel ∷ Part Par ∷ [])
  no_branch : IsRule ParTail []
  a_choice : IsRule Cmd (word words.If ∷ Part Term ∷ word words.Then ∷ Part Cmd ∷ word words.Else ∷ Part Cmd ∷ [])
  a_loop : IsRule Cmd (word words.While ∷ Part Term ∷ word words.Do ∷ Part Cmd ∷ [])
  an_assignment : IsRule Cmd (Part Rel ∷ Part CmdTail ∷ [])
  a_value : IsRule CmdTail (sign signs.Assign ∷ Part Rel ∷ [])
  no_value : IsRule CmdTail []
  a_relation : IsRule Rel (Part Bits ∷ Part RelTail ∷ [])
  a_comparison : IsRule RelTail (operator levels.Comparing ∷ Part Bits ∷ [])
  no_comparison : IsRule RelTail []
  some_bits : IsRule Bits (Part Sum ∷ Part BitsTail ∷ [])
  more_bits : IsRule BitsTail (operator levels.OnBits ∷ Part Sum ∷ Part BitsTail ∷ [])
  no_bits : IsRule BitsTail []
  a_sum : IsRule Sum (Part App ∷ Part SumTail ∷ [])
  a_summand : IsRule SumTail (operator levels.Adding ∷ Part App ∷ Part SumTail ∷ [])
  no_summand : IsRule SumTail []
  an_application : IsRule App (Part Pre ∷ Part AppTail ∷ [])
  an_argument : IsRule AppTail (Part Pre ∷ Part AppTail ∷ [])
  no_argument : IsRule AppTail []
  a_negation : IsRule Pre (word words.Not ∷ Part Pre ∷ [])
  a_reading : IsRule Pre (sign signs.Bang ∷ Part Pre ∷ [])
  a_first_part : IsRule Pre (word words.Fst ∷ Part Pre ∷ [])
  a_second_part : IsRule Pre (word words.Snd ∷ Part Pre ∷ [])
  an_atom : IsRule Pre (Part Atom ∷ [])
  skipping : IsRule Atom (word words.Skip ∷ [])
  a_literal : IsRule Atom (number ∷ sign signs.Colon ∷ small ∷ [])
  a_use : IsRule Atom (name ∷ [])
  in_brackets : IsRule Atom (sign signs.Open ∷ Part Term ∷ Part AtomTail ∷ [])
  one_term : IsRule AtomTail (sign signs.Close ∷ [])
  two_terms : IsRule AtomTail (sign signs.Comma ∷ Part Term ∷ sign signs.Close ∷ [])
