-- The names that a term has, and its type under other imports.
--
-- Read first: Typing of gos_model.
use Rattle.std.specs.Prelude.{◌≡◌, List, Contains}
use Rattle.gos_types.specs.Types.{Type'}
use Rattle.gos_model.specs.Terms.{Name, Term}
use Rattle.gos_model.specs.Typing.{Imports, import_type, Named, things, Typed}

-- the import is free in the term
abbrev pub HasName : Term → Name → Type 0
HasName m x = Contains (things 0 m) (Named x)

-- each name of the term has the same type, or none, under both imports
abbrev pub AgreeOn : Term → Imports → Imports → Type 0
AgreeOn m i j = (x : Name) → HasName m x → import_type j x ≡ import_type i x

-- What else is imported is nothing to a term: fewer imports do, and so do more.
abbrev pub TypedUnderFewer : Type 0
TypedUnderFewer = (i j : Imports) (g : List Type') (m : Term) (t : Type') → AgreeOn m i j → Typed i g m t → Typed j g m t
