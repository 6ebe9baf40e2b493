-- The law of printing: the printed tokens of a module, and the printed text, are that module, places aside.
--
-- Read first: ModuleTokens, ParsedModules.
use Rattle.std.specs.Prelude.{◌≡◌, List, map, None}
use Rattle.gos_lex.specs.declared.token.Token.{Token}
use Rattle.gos_lex.specs.Tokens.{Reading, Reads}
use Rattle.gos_syntax.specs.Items.{Item, items_of}
use Rattle.gos_syntax.specs.Modules.{SeenModule}
use Rattle.gos_syntax.specs.ModuleTrees.{ModuleTree, module_tree}
use Rattle.gos_syntax.specs.ModuleText.{module_text}
use Rattle.gos_syntax.specs.ModuleTokens.{module_tokens}
use Rattle.gos_syntax.specs.Unplaced.{unplaced_module}
use Rattle.gos_syntax.specs.Writable.{IsWritable}
use Rattle.gos_syntax.specs.ParsedModules.{IsModule}

-- what items are read as
abbrev pub readings : List Item → List Reading
readings items = map (λ item. item.reading) items

-- items are this module, places aside
abbrev pub IsAgain : List Item → ModuleTree → Type 0
IsAgain items made = (again : ModuleTree) × IsModule items again × (unplaced_module again ≡ unplaced_module made)

-- items that are read as the tokens of a module that can be written are that module
abbrev pub ReadsBack : List Item → ModuleTree → Type 0
ReadsBack items made = IsWritable made → readings items ≡ module_tokens made → IsAgain items made

-- The printed text of a module that can be written has tokens, and they are that module.
abbrev pub PrintsBack : SeenModule → Type 0
PrintsBack made =
    IsWritable (module_tree made)
    → ((tokens : List Token) × Reads (module_text made) 0 tokens None)
    × ((tokens : List Token) → Reads (module_text made) 0 tokens None → IsAgain (items_of (module_text made) tokens) (module_tree made))
