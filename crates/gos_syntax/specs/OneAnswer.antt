-- The law of parsing: the tokens of a text have at most one answer.
--
-- Read first: ParsedModules.
use Rattle.std.specs.Prelude.{◌≡◌, ℕ, ◌≢◌, List}
use Rattle.gos_lex.specs.declared.token.Token.{Token}
use Rattle.gos_syntax.specs.declared.fault.SyntaxFault.{SyntaxFault}
use Rattle.gos_syntax.specs.declared.fault.SyntaxFault.TheVariants as faults
use Rattle.gos_syntax.specs.Modules.{SeenModule}
use Rattle.gos_syntax.specs.Items.{Item}
use Rattle.gos_syntax.specs.ModuleTrees.{ModuleTree}
use Rattle.gos_syntax.specs.ParsedModules.{IsModule, IsParsed, HasFault}

-- tokens with a fault are no module, whatever the fault but want of memory
abbrev pub FaultsExcludeModules : List ℕ → List Token → Type 0
FaultsExcludeModules text tokens =
    (fault : SyntaxFault) (made : SeenModule) → HasFault text tokens fault → fault ≢ faults.NoMemory → IsParsed text tokens made → ⊥

-- tokens have at most one fault, want of memory aside
abbrev pub HasOneFault : List ℕ → List Token → Type 0
HasOneFault text tokens =
    (fault other : SyntaxFault) → HasFault text tokens fault → HasFault text tokens other → fault ≢ faults.NoMemory → other ≢ faults.NoMemory → fault ≡ other

-- items are at most one module
abbrev pub HasOneTree : List Item → Type 0
HasOneTree items = (made other : ModuleTree) → IsModule items made → IsModule items other → made ≡ other
