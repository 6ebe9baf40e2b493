-- What stands before the body of a function or of a block, as the parser hands it on.
--
-- Read first: Phrases.
use Rattle.std.specs.Prelude.{◌≡◌, ℕ, ◌+◌, ◌<◌, ◌≤◌, List, [], ◌∷◌, length, Option, Some, None, Result}
use Rattle.gos_lex.specs.declared.word.Word.TheVariants as words
use Rattle.gos_lex.specs.declared.sign.Sign.TheVariants as signs
use Rattle.gos_lex.specs.declared.token.Span.{Span}
use Rattle.gos_types.specs.Types.{type_of}
use Rattle.gos_syntax.specs.declared.fault.Stop.{Stop}
use Rattle.gos_syntax.specs.declared.phrases.Parameter.{Parameter}
use Rattle.gos_syntax.specs.declared.phrases.ArrayLength.{ArrayLength}
use Rattle.gos_syntax.specs.declared.phrases.Local.{Local}
use Rattle.gos_syntax.specs.declared.source.Source.{Source}
use Rattle.gos_syntax.specs.Items.{Item, seen, span_of}
use Rattle.gos_syntax.specs.Trees.{Tree, New, Array}
use Rattle.gos_syntax.specs.Grammar.{HasWord, HasSign, HasName, HasSmall, IsType, Whole}
use Rattle.gos_syntax.specs.Symbols as symbols
use Rattle.gos_syntax.specs.Symbols.{Symbol, Part, name, sign}
use Rattle.gos_syntax.specs.Spelling.{Leads}
use Rattle.gos_syntax.specs.inner.Phrases.{IsAnswer}

-- what has to stand between the word `fun` and the body, and behind the word `new`
abbrev pub parameter : List Symbol
parameter = name ∷ sign signs.Colon ∷ Part symbols.Whole ∷ sign signs.Dot ∷ []

abbrev pub local : List Symbol
local = name ∷ Part symbols.BlockTail ∷ []

-- after the word `fun` at i stand a parameter and a dot, and the body begins at j
pub record IsParameter (source : Source) (i : ℕ) (parameter' : Parameter) (j : ℕ) : Type 0 where
  pub after : i < j
  pub within : j ≤ length source.tokens.now
  pub name : HasName (seen source) (i + 1) parameter'.name
  pub colon : HasSign (seen source) (i + 2) signs.Colon
  pub dot : ℕ
  pub ty : IsType (seen source) Whole (i + 3) dot (type_of parameter'.ty)
  pub ty_span : parameter'.ty_span ≡ span_of (seen source) (i + 3) dot
  pub dotted : HasSign (seen source) dot signs.Dot
  pub body : j ≡ dot + 1
  pub read : Leads (seen source) parameter (i + 1) [] j

-- what is answered where a parameter is to be read
abbrev pub IsParameterAnswer : Source → ℕ → Result (Parameter × ℕ) Stop → Type 0
IsParameterAnswer source at result = IsAnswer source parameter (at + 1) (λ read end. IsParameter source at read end) result

-- from i to just before j stands a length in square brackets, or nothing
abbrev pub IsLength : List Item → ℕ → Option ArrayLength → ℕ → Type 0
IsLength items i None j = (i ≡ j) × (HasSign items i signs.OpenSquare → ⊥)
IsLength items i (Some many) j =
    HasSign items i signs.OpenSquare × HasSmall items (i + 1) many.value × (many.span ≡ span_of items (i + 1) (i + 2))
    × HasSign items (i + 2) signs.CloseSquare × (i + 3 ≡ j)

-- the same, where the items are those of tokens
pub record IsLengthRead (source : Source) (i : ℕ) (many : Option ArrayLength) (j : ℕ) : Type 0 where
  pub within : j ≤ length source.tokens.now
  pub is : IsLength (seen source) i many j

-- what is answered where a length may stand
abbrev pub IsLengthAnswer : Source → ℕ → Result (Option ArrayLength × ℕ) Stop → Type 0
IsLengthAnswer source at result = IsAnswer source (Part symbols.BlockTail ∷ []) at (λ many end. IsLengthRead source at many end) result

-- after the word `new` at i stand a variable or an array and the word `in`, and the body begins at j
pub record IsLocal (source : Source) (i : ℕ) (local' : Local) (j : ℕ) : Type 0 where
  pub after : i < j
  pub within : j ≤ length source.tokens.now
  pub name : HasName (seen source) (i + 1) local'.name
  pub colon : ℕ
  pub long : IsLength (seen source) (i + 2) local'.length colon
  pub is_colon : HasSign (seen source) colon signs.Colon
  pub width : HasSmall (seen source) (colon + 1) local'.width
  pub width_span : local'.width_span ≡ span_of (seen source) (colon + 1) (colon + 2)
  pub in_word : HasWord (seen source) (colon + 2) words.In
  pub body : j ≡ colon + 3
  pub read : Leads (seen source) local (i + 1) (Part symbols.Term ∷ []) j

-- what is answered where a variable or an array is to be read
abbrev pub IsLocalAnswer : Source → ℕ → Result (Local × ℕ) Stop → Type 0
IsLocalAnswer source at result = IsAnswer source local (at + 1) (λ read end. IsLocal source at read end) result

-- the block of a variable, which has no length, or of an array
abbrev pub block_of : Span → List ℕ → Option ArrayLength → ℕ → Span → Tree → Tree
block_of span name None width width_span body = New span name width width_span body
block_of span name (Some many) width width_span body = Array span name many.value many.span width width_span body

-- the block of what was read, around a body
abbrev pub block_tree : Span → Local → Tree → Tree
block_tree span local' body = block_of span local'.name local'.length local'.width local'.width_span body
