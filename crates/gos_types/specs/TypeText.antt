-- The text of a type, with brackets only where the grammar needs them.
--
-- Read first: Types. The grammar is
--     type = prod [ "->" type ]
--     prod = base [ "*" prod ]
--     base = "com" | "exp" width | "var" width | "(" type ")"
use Rattle.std.specs.Prelude.{ℕ, Bool, true, false, List, ◌++◌, codes, if◌then◌else◌}
use Rattle.std.specs.Fmt.{decimal}
use Rattle.gos_types.specs.declared.text.Rule.{Rule}
use Rattle.gos_types.specs.declared.text.Rule.TheVariants.{Whole, Prod, Base}
use Rattle.gos_types.specs.Types.{Type', Com, Exp, Var, Pair, Fun}

-- a function needs brackets where the grammar has a prod or a base
abbrev pub brackets_function : Rule → Bool
brackets_function Whole = false
brackets_function Prod = true
brackets_function Base = true

-- a product needs brackets where the grammar has a base
abbrev pub brackets_product : Rule → Bool
brackets_product Whole = false
brackets_product Prod = false
brackets_product Base = true

-- a text, in brackets where they are needed
abbrev pub bracketed : Bool → List ℕ → List ℕ
bracketed needed text = if needed then codes "(" ++ text ++ codes ")" else text

-- the text of a type where the grammar has this rule
abbrev pub text_at : Rule → Type' → List ℕ
text_at rule Com = codes "com"
text_at rule (Exp w) = codes "exp " ++ decimal w
text_at rule (Var w) = codes "var " ++ decimal w
text_at rule (Pair a b) = bracketed (brackets_product rule) (text_at Base a ++ codes " * " ++ text_at Prod b)
text_at rule (Fun a b) = bracketed (brackets_function rule) (text_at Prod a ++ codes " -> " ++ text_at Whole b)

-- the text of a whole type
abbrev pub type_text : Type' → List ℕ
type_text = text_at Whole

-- the text of a type where the grammar has a prod, and where it has a base
abbrev pub product_text : Type' → List ℕ
product_text = text_at Prod

abbrev pub base_text : Type' → List ℕ
base_text = text_at Base
