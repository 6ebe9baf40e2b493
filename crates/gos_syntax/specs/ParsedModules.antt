-- What `parse` answers: the module that the grammar derives, or a fault and its place.
--
-- Read first: Grammar, ModuleTrees, Firsts.
use Rattle.std.specs.Prelude.{◌≡◌, ℕ, ◌+◌, ◌<◌, ◌≤◌, List, [], ◌∷◌, length, None}
use Rattle.gos_lex.specs.declared.token.Token.{Token}
use Rattle.gos_lex.specs.declared.word.Word.TheVariants as words
use Rattle.gos_lex.specs.declared.sign.Sign.TheVariants as signs
use Rattle.gos_syntax.specs.declared.fault.SyntaxFault.{SyntaxFault}
use Rattle.gos_syntax.specs.declared.fault.SyntaxFault.TheVariants as faults
use Rattle.gos_syntax.specs.Items.{Item, Agree, items_of, reading_at, span_of, place_of}
use Rattle.gos_syntax.specs.ModuleTrees.{ImportTree, ModuleTree, module_tree}
use Rattle.gos_syntax.specs.Modules.{SeenModule}
use Rattle.gos_syntax.specs.Grammar.{HasWord, HasSign, HasName, IsType, Whole, IsTerm, Term}
use Rattle.gos_syntax.specs.OpenTokens.{IsTooDeep, IsExtraImport}
use Rattle.gos_syntax.specs.Firsts.{IsFirstDeep, IsFirstExtra, NoneIsDeep, NoneIsExtra, Keeps}

-- the items from i to just before j are an import: "import" name ":" type
pub record IsImport (items : List Item) (i j : ℕ) (imported : ImportTree) : Type 0 where
  pub word : HasWord items i words.Import
  pub name : HasName items (i + 1) imported.name
  pub name_span : imported.name_span ≡ span_of items (i + 1) (i + 2)
  pub colon : HasSign items (i + 2) signs.Colon
  pub ty : IsType items Whole (i + 3) j imported.ty
  pub ty_span : imported.ty_span ≡ span_of items (i + 3) j

-- the items from i to just before j are these imports, one after another
abbrev pub AreImports : List Item → ℕ → ℕ → List ImportTree → Type 0
AreImports items i j [] = i ≡ j
AreImports items i j (first ∷ others) = (k : ℕ) × IsImport items i k first × AreImports items k j others

-- the items from i to just before j are a module: imports, "export" term ":" type
pub record IsModuleAt (items : List Item) (i j : ℕ) (made : ModuleTree) : Type 0 where
  pub exported : ℕ
  pub imports : AreImports items i exported made.imports
  pub word : HasWord items exported words.Export
  pub colon : ℕ
  pub body : IsTerm items Term (exported + 1) colon made.body
  pub sign : HasSign items colon signs.Colon
  pub result : IsType items Whole (colon + 1) j made.result
  pub result_span : made.result_span ≡ span_of items (colon + 1) j

-- the items are a module, and no more
pub record IsModule (items : List Item) (made : ModuleTree) : Type 0 where
  pub end : ℕ
  pub whole : IsModuleAt items 0 end made
  pub no_more : reading_at items end ≡ None

-- The first n items begin a module: some module's tokens begin with them. Where n is greater than the number of the
-- items, they are a module as they stand.
abbrev pub BeginsModule : List Item → ℕ → Type 0
BeginsModule items n = (other : List Item) × (made : ModuleTree) × Agree n items other × IsModule other made

-- the items before this one begin a module, and with it, or with the end where it is past the last, they don't
pub record IsUnexpected (items : List Item) (n : ℕ) : Type 0 where
  pub within : n ≤ length items
  pub begins : BeginsModule items n
  pub breaks : BeginsModule items (n + 1) → ⊥

-- the tokens are this module, and no limit is passed
pub record IsParsed (text : List ℕ) (tokens : List Token) (made : SeenModule) : Type 0 where
  pub derived : IsModule (items_of text tokens) (module_tree made)
  pub nesting : NoneIsDeep text tokens
  pub imports : NoneIsExtra text tokens

-- Why tokens are refused; want of memory has no cause in them.
-- The tokens before the place of a fault begin a module, and no limit is passed before it.
abbrev pub HasFault : List ℕ → List Token → SyntaxFault → Type 0
HasFault text tokens (faults.Unexpected at) =
    (n : ℕ) × (at ≡ place_of text tokens n) × IsUnexpected (items_of text tokens) n × Keeps text tokens n
HasFault text tokens (faults.Depth at) =
    (n : ℕ) × (at ≡ place_of text tokens n) × BeginsModule (items_of text tokens) n
    × IsFirstDeep text tokens n × ((k : ℕ) → k < n → IsExtraImport (items_of text tokens) k → ⊥)
HasFault text tokens (faults.TooManyImports at) =
    (n : ℕ) × (at ≡ place_of text tokens n) × BeginsModule (items_of text tokens) n
    × IsFirstExtra text tokens n × ((k : ℕ) → k ≤ n → IsTooDeep (items_of text tokens) k → ⊥)
HasFault text tokens faults.NoMemory = Unit {0}
