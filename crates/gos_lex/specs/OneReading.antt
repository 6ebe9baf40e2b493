-- The law of reading: a text reads in at most one way.
use Rattle.std.specs.Prelude.{◌≡◌, ℕ, ◌≤◌, ◌≢◌, List, length, Option, None}
use Rattle.gos_lex.specs.declared.token.Token.{Token}
use Rattle.gos_lex.specs.declared.fault.LexFault.{LexFault}
use Rattle.gos_lex.specs.declared.fault.LexFault.TheVariants as faults
use Rattle.gos_lex.specs.Tokens.{Reads, HasFault}

-- two readings of a text have the same tokens and the same ending
abbrev pub ReadsInOneWay : List ℕ → Type 0
ReadsInOneWay text =
    (tokens others : List Token) (ending other : Option LexFault) → Reads text 0 tokens ending → Reads text 0 others other
    → (tokens ≡ others) × (ending ≡ other)

-- a text with a fault doesn't read as tokens, whatever the fault but want of memory
abbrev pub FaultsExcludeTokens : List ℕ → Type 0
FaultsExcludeTokens text =
    (fault : LexFault) (tokens : List Token) → HasFault text fault → fault ≢ faults.NoMemory → length text ≤ 65536 → Reads text 0 tokens None → ⊥

-- a text has at most one fault, want of memory aside
abbrev pub HasOneFault : List ℕ → Type 0
HasOneFault text =
    (fault other : LexFault) → HasFault text fault → HasFault text other → fault ≢ faults.NoMemory → other ≢ faults.NoMemory → fault ≡ other
