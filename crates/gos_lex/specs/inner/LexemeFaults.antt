-- Why a lexeme is no token.
--
-- Read first: Tokens. Between the scanner and its lemmas.
use Rattle.std.specs.Prelude.{◌≡◌, ℕ, List}
use Rattle.gos_lex.specs.declared.fault.LexFault.{LexFault}
use Rattle.gos_lex.specs.declared.fault.LexFault.TheVariants as faults
use Rattle.gos_lex.specs.Tokens.{IsTooGreat, IsTooLong}

-- why a lexeme that begins at `from` is no token
abbrev pub IsLexemeFault : List ℕ → ℕ → LexFault → Type 0
IsLexemeFault bytes from (faults.Number at) = (at ≡ from) × IsTooGreat bytes
IsLexemeFault bytes from (faults.Name at) = (at ≡ from) × IsTooLong bytes
IsLexemeFault bytes from fault = ⊥
