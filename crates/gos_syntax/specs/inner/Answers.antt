-- The faults that the parser's inner functions hand on.
--
-- Read first: ParsedModules.
use Rattle.std.specs.Prelude.{◌≡◌, ℕ, ◌<◌, ◌⊎◌, List}
use Rattle.gos_lex.specs.declared.token.Token.{Token}
use Rattle.gos_syntax.specs.declared.fault.Stop.{Stop}
use Rattle.gos_syntax.specs.declared.fault.Stop.TheVariants as stops
use Rattle.gos_syntax.specs.declared.fault.SyntaxFault.{SyntaxFault}
use Rattle.gos_syntax.specs.declared.fault.SyntaxFault.TheVariants as faults
use Rattle.gos_syntax.specs.Items.{Item, items_of, place_of}
use Rattle.gos_syntax.specs.ParsedModules.{BeginsModule, IsUnexpected}

-- why the items are no module; want of memory has no cause in them
pub record IsNoModule (items : List Item) (stop : Stop) : Type 0 where
  pub unexpected : (n : ℕ) → stop ≡ stops.At n → IsUnexpected items n

-- the fault of a text in which no phrase was read
abbrev pub IsFaultOf : List ℕ → List Token → Stop → SyntaxFault → Type 0
IsFaultOf text tokens (stops.At n) fault = fault ≡ faults.Unexpected (place_of text tokens n)
IsFaultOf text tokens stops.NoMemory fault = fault ≡ faults.NoMemory

-- before the token of number `end` another is unexpected
abbrev pub IsUnexpectedBefore : List ℕ → List Token → ℕ → SyntaxFault → Type 0
IsUnexpectedBefore text tokens end fault =
    (n : ℕ) × (n < end) × (fault ≡ faults.Unexpected (place_of text tokens n)) × IsUnexpected (items_of text tokens) n

-- the fault of a text that passes a limit at the token of number `end`
abbrev pub IsFaultBefore : List ℕ → List Token → ℕ → SyntaxFault → SyntaxFault → Type 0
IsFaultBefore text tokens end limit fault =
    ((fault ≡ limit) × BeginsModule (items_of text tokens) end) ⊎ ((fault ≡ faults.NoMemory) ⊎ IsUnexpectedBefore text tokens end fault)
