-- What the parser's questions about a token answer.
--
-- Read first: Items.
use Rattle.std.specs.Prelude.{◌≡◌, ℕ, ◌<◌, length, Some}
use Rattle.std.specs.List.{slice_range}
use Rattle.gos_lex.specs.declared.token.TokenKind.{TokenKind}
use Rattle.gos_lex.specs.Tokens.{reading_as}
use Rattle.gos_syntax.specs.declared.source.Source.{Source}
use Rattle.gos_syntax.specs.Items.{seen, reading_at, from_at, to_at}

-- the item of this number is of this kind
pub record IsKind (source : Source) (at : ℕ) (kind : TokenKind) : Type 0 where
  pub within : at < length source.tokens.now
  pub reading : reading_at (seen source) at ≡ Some (reading_as (slice_range source.text.now (from_at (seen source) at) (to_at (seen source) at)) kind)
