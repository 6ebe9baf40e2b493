-- A numeral that is too great for a width and for a length.
use Rattle.std.proofs.Common.{◌≡◌, ℕ, ◌<◌, Some, sym, ◌∙◌, arith}
use Rattle.gos_lex.specs.declared.token.TokenKind.TheVariants as kinds
use Rattle.gos_lex.specs.Tokens.{ANumber}
use Rattle.gos_syntax.specs.declared.source.Source.{Source}
use Rattle.gos_syntax.specs.Items.{seen, reading_at}
use Rattle.gos_syntax.specs.Symbols.{Fits, SomeSmall}
use Rattle.gos_syntax.specs.inner.Stops.{IsKind}

number_once : (a b : ℕ) → Some (ANumber a) ≡ Some (ANumber b) → a ≡ b
number_once a b e = cc

pub no_small : (source : Source) (at value : ℕ) → IsKind source at (kinds.Number value) → 4294967295 < value → Fits (reading_at (seen source) at) SomeSmall → ⊥
no_small source at value is great (other, (reading, small)) =
    let same : value ≡ other = number_once value other (sym is.reading ∙ reading) in
    omega (arith, same, small, great)
