-- How many tokens stand open before a token: the measure of how deeply a text is nested.
--
-- Read first: Items. What stands before a token is a list of items. A bracket pair that is closed, and stands in no
-- other such pair, is one item with all that is in it; each other token is one item. The list begins with the last
-- `import` or `export`. The depth of a closed pair is 2, and the number of items in it, and the greatest depth of a
-- closed pair among them. Open are as many tokens as there are items, and the greatest depth of a pair among them.
use Rattle.std.specs.Prelude.{◌≡◌, ℕ, zero, suc, ◌+◌, ◌<◌, List, [], ◌∷◌, max, Bool, true, false, if◌then◌else◌}
use Rattle.gos_lex.specs.declared.word.Word.TheVariants as words
use Rattle.gos_lex.specs.declared.sign.Sign.TheVariants as signs
use Rattle.gos_lex.specs.Tokens.{Reading, AName, ANumber, AWord, ASign}
use Rattle.gos_syntax.specs.declared.levels.Level.{Level}
use Rattle.gos_syntax.specs.Items.{Item}
use Rattle.gos_syntax.specs.Grammar.{HasWord}

-- nothing yet
abbrev pub nothing : Level
nothing = record { items = 0; deepest = 0 }

-- with one more item that is no closed pair
abbrev pub one_more : Level → Level
one_more level = record level { items = level.items + 1 }

-- the depth of a pair that is closed after these items
abbrev pub depth_of : Level → ℕ
depth_of inner = 2 + inner.items + inner.deepest

-- with the open bracket, the last item, made a closed pair of this depth
abbrev pub with_pair : ℕ → Level → Level
with_pair depth level = record level { deepest = max level.deepest depth }

-- what stands before a token: the items of the innermost bracket that is still open, and so on outwards
abbrev pub Levels : Type 0
Levels = List Level

-- before the first token
abbrev pub at_first : Levels
at_first = nothing ∷ []

-- with one more item in the innermost bracket
abbrev pub with_item : Levels → Levels
with_item [] = []
with_item (level ∷ outer) = one_more level ∷ outer

-- with a bracket opened
abbrev pub with_open : Levels → Levels
with_open levels = nothing ∷ with_item levels

-- with the innermost bracket closed; where none is open, the bracket is an item
abbrev pub with_close : Levels → Levels
with_close [] = []
with_close (level ∷ []) = one_more level ∷ []
with_close (inner ∷ (level ∷ outer)) = with_pair (depth_of inner) level ∷ outer

-- what stands before the next token
abbrev pub past : Levels → Reading → Levels
past levels (AName name) = with_item levels
past levels (ANumber value) = with_item levels
past levels (AWord words.Import) = one_more nothing ∷ []
past levels (AWord words.Export) = one_more nothing ∷ []
past levels (AWord word) = with_item levels
past levels (ASign signs.Open) = with_open levels
past levels (ASign signs.Close) = with_close levels
past levels (ASign sign) = with_item levels

-- what stands before the item of this number
abbrev pub levels_before : Levels → List Item → ℕ → Levels
levels_before levels items zero = levels
levels_before levels [] (suc n) = levels
levels_before levels (item ∷ items) (suc n) = levels_before (past levels item.reading) items n

-- how many items stand in all of these
abbrev pub items_in : Levels → ℕ
items_in [] = 0
items_in (level ∷ outer) = level.items + items_in outer

-- the greatest depth of a closed pair in all of these
abbrev pub deepest_in : Levels → ℕ
deepest_in [] = 0
deepest_in (level ∷ outer) = max level.deepest (deepest_in outer)

-- how many tokens are open before the item of this number
abbrev pub open_before : List Item → ℕ → ℕ
open_before items n = let levels = levels_before at_first items n in items_in levels + deepest_in levels

-- too many tokens are open before the item of this number
abbrev pub IsTooDeep : List Item → ℕ → Type 0
IsTooDeep items n = 1024 < open_before items n

-- whether an item is an import
abbrev pub is_import : Reading → Bool
is_import (AName name) = false
is_import (ANumber value) = false
is_import (AWord words.Import) = true
is_import (AWord word) = false
is_import (ASign sign) = false

-- how many imports stand before the item of this number
abbrev pub imports_before : List Item → ℕ → ℕ
imports_before items zero = 0
imports_before [] (suc n) = 0
imports_before (item ∷ items) (suc n) = if is_import item.reading then suc (imports_before items n) else imports_before items n

-- the item of this number is an import, and as many as are allowed stand before it
abbrev pub IsExtraImport : List Item → ℕ → Type 0
IsExtraImport items n = HasWord items n words.Import × (imports_before items n ≡ 64)
