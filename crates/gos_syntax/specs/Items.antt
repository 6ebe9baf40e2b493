-- The tokens of a text as the grammar sees them: what each is read as, and its place in the text.
--
-- Read first: Tokens of gos_lex. An item is named by its number, counted from 0.
use Rattle.std.specs.Prelude.{◌≡◌, ℕ, zero, suc, ◌-◌, ◌<◌, List, [], ◌∷◌, map, Option, Some, None, length, All}
use Rattle.gos_lex.specs.declared.token.Span.{Span}
use Rattle.gos_lex.specs.declared.token.Token.{Token}
use Rattle.gos_lex.specs.Tokens.{Reading, reading_of, StandsIn}
use Rattle.gos_syntax.specs.declared.source.Source.{Source}

-- a token, with the bytes of a name and its place
pub record Item : Type 0 where
  pub reading : Reading
  pub span : Span

-- a token of the text as an item
abbrev pub item_of : List ℕ → Token → Item
item_of text token = record { reading = reading_of text token; span = token.span }

-- the tokens of the text as items
abbrev pub items_of : List ℕ → List Token → List Item
items_of text tokens = map (item_of text) tokens

-- the items that the parser has before it
abbrev pub seen : Source → List Item
seen source = items_of source.text.now source.tokens.now

-- the tokens are tokens of the text
abbrev pub Stands : Source → Type 0
Stands source = All (StandsIn source.text.now) source.tokens.now

-- what the item of this number is read as
abbrev pub reading_at : List Item → ℕ → Option Reading
reading_at [] i = None
reading_at (item ∷ items) zero = Some item.reading
reading_at (item ∷ items) (suc i) = reading_at items i

-- the first n items are read alike; where one list ends among them, the other ends too
abbrev pub Agree : ℕ → List Item → List Item → Type 0
Agree n items other = (k : ℕ) → k < n → reading_at items k ≡ reading_at other k

-- where the item of this number begins
abbrev pub from_at : List Item → ℕ → ℕ
from_at [] i = 0
from_at (item ∷ items) zero = item.span.from
from_at (item ∷ items) (suc i) = from_at items i

-- where the item of this number ends
abbrev pub to_at : List Item → ℕ → ℕ
to_at [] i = 0
to_at (item ∷ items) zero = item.span.to
to_at (item ∷ items) (suc i) = to_at items i

-- the place of the items from one number to just before another
abbrev pub span_of : List Item → ℕ → ℕ → Span
span_of items i j = record { from = from_at items i; to = to_at items (j - 1) }

-- where a token begins; the length of the text past the last one
abbrev pub place_of : List ℕ → List Token → ℕ → ℕ
place_of text [] n = length text
place_of text (token ∷ tokens) zero = token.span.from
place_of text (token ∷ tokens) (suc n) = place_of text tokens n
