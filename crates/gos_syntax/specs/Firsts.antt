-- Where the tokens of a text first pass a limit.
--
-- Read first: OpenTokens.
use Rattle.std.specs.Prelude.{ℕ, ◌<◌, ◌≤◌, List, length}
use Rattle.gos_lex.specs.declared.token.Token.{Token}
use Rattle.gos_syntax.specs.declared.limits.Limit.{Limit}
use Rattle.gos_syntax.specs.declared.limits.Limit.TheVariants as limits
use Rattle.gos_syntax.specs.Items.{items_of}
use Rattle.gos_syntax.specs.OpenTokens.{IsTooDeep, IsExtraImport}

-- no token is nested too deeply
abbrev pub NoneIsDeep : List ℕ → List Token → Type 0
NoneIsDeep text tokens = (n : ℕ) → n < length tokens → IsTooDeep (items_of text tokens) n → ⊥

-- this token is the first that is nested too deeply
pub record IsFirstDeep (text : List ℕ) (tokens : List Token) (at : ℕ) : Type 0 where
  pub within : at < length tokens
  pub deep : IsTooDeep (items_of text tokens) at
  pub first : (n : ℕ) → n < at → IsTooDeep (items_of text tokens) n → ⊥

-- there are no more imports than are allowed
abbrev pub NoneIsExtra : List ℕ → List Token → Type 0
NoneIsExtra text tokens = (n : ℕ) → n < length tokens → IsExtraImport (items_of text tokens) n → ⊥

-- this token is the first import that is one too many
pub record IsFirstExtra (text : List ℕ) (tokens : List Token) (at : ℕ) : Type 0 where
  pub within : at < length tokens
  pub extra : IsExtraImport (items_of text tokens) at
  pub first : (n : ℕ) → n < at → IsExtraImport (items_of text tokens) n → ⊥

-- no limit is passed at this token, nor before it
pub record Keeps (text : List ℕ) (tokens : List Token) (at : ℕ) : Type 0 where
  pub nesting : (n : ℕ) → n ≤ at → n < length tokens → IsTooDeep (items_of text tokens) n → ⊥
  pub imports : (n : ℕ) → n ≤ at → n < length tokens → IsExtraImport (items_of text tokens) n → ⊥

-- the first token at which a limit is passed, and which one; where it is both, the nesting
abbrev pub IsLimit : List ℕ → List Token → Limit → Type 0
IsLimit text tokens limits.Nowhere = NoneIsDeep text tokens × NoneIsExtra text tokens
IsLimit text tokens (limits.Nested at) = IsFirstDeep text tokens at × ((n : ℕ) → n < at → IsExtraImport (items_of text tokens) n → ⊥)
IsLimit text tokens (limits.Imports at) = IsFirstExtra text tokens at × ((n : ℕ) → n ≤ at → IsTooDeep (items_of text tokens) n → ⊥)
