-- Small links, and the terms that they have.
--
-- Read first: Substituted.
use Rattle.std.specs.Prelude.{◌≡◌, ℕ, List, [], ◌∷◌, codes}
use Rattle.std.specs.Global.{Box}
use denote.RawPtr.{null_ptr}
use Rattle.gos_types.specs.declared.types.Ty.TheVariants as types
use Rattle.gos_lex.specs.declared.token.Span.{Span}
use Rattle.gos_syntax.specs.declared.terms.Form.{Form}
use Rattle.gos_syntax.specs.declared.terms.Form.TheVariants as forms
use Rattle.gos_syntax.specs.Modules.{SeenImport, SeenModule}
use Rattle.gos_types.specs.Types.{Com}
use Rattle.gos_model.specs.Terms.{Name, Skip, Seq, Import}
use Rattle.gos_witness.specs.declared.binding.Bound.{Bound}
use Rattle.gos_witness.specs.Substituted.{linked_program}

-- a place, which no program has
abbrev pub nowhere : Span
nowhere = record { from = 0; to = 0 }

-- imports of commands
abbrev pub command : Name → SeenImport
command x = record { name = x; name_span = nowhere; ty = types.Com; ty_span = nowhere }

abbrev pub c : Name
c = codes "c"

abbrev pub d : Name
d = codes "d"

-- a module of commands with this body
abbrev pub with_body : List SeenImport → Form → SeenModule
with_body is f = record { imports = is; body = record { span = nowhere; form = f }; result = types.Com; result_span = nowhere }

-- `skip`
abbrev pub skips : SeenModule
skips = with_body [] forms.Skip

-- a module that is one import
abbrev pub asks : Name → SeenModule
asks x = with_body (command x ∷ []) (forms.Name x)

-- a module of two imports, that is the first
abbrev pub asks_first : Name → Name → SeenModule
asks_first x y = with_body (command x ∷ command y ∷ []) (forms.Name x)

-- where a box lies, which counts for nothing
abbrev pub here : Box (Unit {0})
here = record { ptr = null_ptr; alloc = record { memory = record { seal = tt } }; value = tt }

-- a module of two imports, that is one after the other
abbrev pub asks_both : Name → Name → SeenModule
asks_both x y = with_body (command x ∷ command y ∷ []) (forms.Seq' here nowhere (forms.Name x) here nowhere (forms.Name y))

-- the import number `import` of module `user` is served by module `giver`
abbrev pub serves : (user import giver : ℕ) → Bound
serves user import giver = record { user = user; import = import; giver = giver }

-- What links are: a root alone; a giver; a giver that has one; an import that nothing serves; and an open import of a giver that has
-- the name of the user's bound one, which isn't caught.
abbrev pub SmallLinks : Type 0
SmallLinks =
    ((linked_program (asks c ∷ []) [] 0).body ≡ Import c)
    × ((linked_program (asks c ∷ skips ∷ []) (serves 0 0 1 ∷ []) 0).body ≡ Skip)
    × ((linked_program (asks c ∷ asks d ∷ skips ∷ []) (serves 0 0 1 ∷ serves 1 0 2 ∷ []) 0).body ≡ Skip)
    × ((linked_program (asks_first c d ∷ skips ∷ []) (serves 0 1 1 ∷ []) 0).body ≡ Import c)
    × ((linked_program (asks c ∷ asks c ∷ []) (serves 0 0 1 ∷ []) 0).body ≡ Import c)
    × ((linked_program (asks c ∷ asks c ∷ []) (serves 0 0 1 ∷ []) 0).imports ≡ record { name = c; ty = Com } ∷ [])

-- The use of a bound import is no open import.
abbrev pub BoundIsGone : Type 0
BoundIsGone = (linked_program (asks c ∷ skips ∷ []) (serves 0 0 1 ∷ []) 0).body ≡ Import c → ⊥

-- A giver that serves two imports stands in the place of each.
abbrev pub GiverIsPutTwice : Type 0
GiverIsPutTwice =
    ((linked_program (asks_both c d ∷ skips ∷ []) (serves 0 0 1 ∷ serves 0 1 1 ∷ []) 0).body ≡ Seq Skip Skip)
    × ((linked_program (asks_both c d ∷ skips ∷ []) (serves 0 0 1 ∷ serves 0 1 1 ∷ []) 0).imports ≡ [])
