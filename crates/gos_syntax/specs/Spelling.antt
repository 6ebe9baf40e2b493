-- How far tokens settle what a parser read, whatever stands behind them.
--
-- Read first: Symbols. A parser that has come to an item still wants a list of symbols. Reading a token, or choosing a
-- rule, leads from one such state to another. A state leads to another where, in every list of items that is alike up to
-- there, the one is spelled exactly where the other is. So what a parser knows at its end holds of all these lists.
use Rattle.std.specs.Prelude.{◌≡◌, ℕ, ◌+◌, ◌<◌, ◌≤◌, Bool, true, false, List, [], ◌∷◌, ◌++◌, length, Option, Some, None}
use Rattle.gos_lex.specs.declared.word.Word.TheVariants as words
use Rattle.gos_lex.specs.declared.sign.Sign.TheVariants as signs
use Rattle.gos_lex.specs.Tokens.{Reading, AName, ANumber, AWord, ASign}
use Rattle.gos_syntax.specs.declared.fault.Stop.{Stop}
use Rattle.gos_syntax.specs.declared.fault.Stop.TheVariants as stops
use Rattle.gos_syntax.specs.Items.{Item, reading_at, Agree}
use Rattle.gos_syntax.specs.Symbols.{Class, Fits, Phrase, Module, Whole, WholeTail, Product, ProductTail, Base, Term, BlockTail, TermTail, Par, ParTail, Cmd, CmdTail, Rel, RelTail, Bits, BitsTail, Sum, SumTail, App, AppTail, Pre, Atom, AtomTail, Symbol, Token, Part, IsRule}

-- the items from number i on, to the last one, are what these symbols ask for
pub data Spells (items : List Item) : List Symbol → ℕ → Type 0 where
  at_end : (i : ℕ) → reading_at items i ≡ None → Spells items [] i
  with_token : (i : ℕ) (class : Class) (rest : List Symbol)
      → Fits (reading_at items i) class → Spells items rest (i + 1) → Spells items (Token class ∷ rest) i
  by_rule : (i : ℕ) (phrase : Phrase) (body rest : List Symbol)
      → IsRule phrase body → Spells items (body ++ rest) i → Spells items (Part phrase ∷ rest) i

-- an operand without operators begins with this token
abbrev pub begins_operand : Option Reading → Bool
begins_operand (Some (AName bytes)) = true
begins_operand (Some (ANumber value)) = true
begins_operand (Some (AWord words.Skip)) = true
begins_operand (Some (AWord words.Not)) = true
begins_operand (Some (AWord words.Fst)) = true
begins_operand (Some (AWord words.Snd)) = true
begins_operand (Some (ASign signs.Open)) = true
begins_operand (Some (ASign signs.Bang)) = true
begins_operand r = false

-- How loosely a token binds that stands behind a phrase: the tighter it binds, the more phrases go on with it.
abbrev pub looseness : Option Reading → ℕ
looseness None = 8
looseness (Some (AName bytes)) = 1
looseness (Some (ANumber value)) = 1
looseness (Some (AWord words.Skip)) = 1
looseness (Some (AWord words.Not)) = 1
looseness (Some (AWord words.Fst)) = 1
looseness (Some (AWord words.Snd)) = 1
looseness (Some (AWord w)) = 8
looseness (Some (ASign signs.Open)) = 1
looseness (Some (ASign signs.Bang)) = 1
looseness (Some (ASign signs.Star)) = 1
looseness (Some (ASign signs.Arrow)) = 2
looseness (Some (ASign signs.Plus)) = 2
looseness (Some (ASign signs.Minus)) = 2
looseness (Some (ASign signs.And)) = 3
looseness (Some (ASign signs.Or)) = 3
looseness (Some (ASign signs.Xor)) = 3
looseness (Some (ASign signs.Equal)) = 4
looseness (Some (ASign signs.Less)) = 4
looseness (Some (ASign signs.Assign)) = 5
looseness (Some (ASign signs.Parallel)) = 6
looseness (Some (ASign signs.Semicolon)) = 7
looseness (Some (ASign s)) = 8

-- A phrase goes on with the tokens that bind at most so loosely.
abbrev pub reach : Phrase → ℕ
reach Module = 2
reach Whole = 2
reach WholeTail = 2
reach Product = 1
reach ProductTail = 1
reach Base = 0
reach Term = 7
reach BlockTail = 7
reach TermTail = 7
reach Par = 6
reach ParTail = 6
reach Cmd = 5
reach CmdTail = 5
reach Rel = 4
reach RelTail = 4
reach Bits = 3
reach BitsTail = 3
reach Sum = 2
reach SumTail = 2
reach App = 1
reach AppTail = 1
reach Pre = 0
reach Atom = 0
reach AtomTail = 0

-- a phrase does not go on with any token that these symbols may begin with
abbrev pub EndsBefore : Phrase → List Symbol → Type 0
EndsBefore phrase rest = (items : List Item) (i : ℕ) → Spells items rest i → reach phrase < looseness (reading_at items i)

-- each phrase ends before what follows it
abbrev pub IsClear : List Symbol → List Symbol → Type 0
IsClear [] rest = Unit {0}
IsClear (Token class ∷ symbols) rest = IsClear symbols rest
IsClear (Part phrase ∷ symbols) rest = EndsBefore phrase (symbols ++ rest) × IsClear symbols rest

-- Reading from item i to just before item j leads from these symbols to those, whatever stands from j on. What follows
-- is `rest`. To go on rather than back, the item j has to be the same too.
pub record Leads (items : List Item) (before : List Symbol) (i : ℕ) (after : List Symbol) (j : ℕ) : Type 0 where
  pub forward : i ≤ j
  pub clear : (rest : List Symbol) → IsClear before rest → IsClear after rest
  pub back : (other : List Item) (rest : List Symbol) → Agree j items other → Spells other (after ++ rest) j → Spells other (before ++ rest) i
  pub on : (other : List Item) (rest : List Symbol)
      → Agree (j + 1) items other → IsClear before rest → Spells other (before ++ rest) i → Spells other (after ++ rest) j

-- with this item, whatever stands behind it, none of what these symbols ask for begins
abbrev pub Misses : List Item → List Symbol → ℕ → Type 0
Misses items symbols n =
    (other : List Item) (rest : List Symbol) → Agree (n + 1) items other → IsClear symbols rest → Spells other (symbols ++ rest) n → ⊥

-- the items from i to just before n lead to symbols that item n misses
pub record IsRefused (items : List Item) (symbols : List Symbol) (i n : ℕ) : Type 0 where
  pub within : n ≤ length items
  pub wanted : List Symbol
  pub leads : Leads items symbols i wanted n
  pub misses : Misses items wanted n

-- a phrase of this kind is read from item i to just before item j
abbrev pub IsRead : List Item → Phrase → ℕ → ℕ → Type 0
IsRead items phrase i j = Leads items (Part phrase ∷ []) i [] j

-- why what these symbols ask for is not read from item i on; want of memory has no cause in the items
pub record Stops (items : List Item) (symbols : List Symbol) (i : ℕ) (stop : Stop) : Type 0 where
  pub refused : (n : ℕ) → stop ≡ stops.At n → IsRefused items symbols i n
