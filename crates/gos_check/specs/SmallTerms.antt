-- The typed terms of small modules.
--
-- Read first: Numbering. Places in the text make no difference.
use Rattle.std.specs.Prelude.{◌≡◌, ℕ, [], ◌∷◌, codes}
use Rattle.gos_lex.specs.declared.token.Span.{Span}
use Rattle.gos_types.specs.declared.types.Ty.TheVariants as written
use Rattle.gos_types.specs.Types.{Com, Fun}
use Rattle.gos_syntax.specs.Trees as trees
use Rattle.gos_syntax.specs.Trees.{Tree}
use Rattle.gos_syntax.specs.Modules.{SeenImport}
use Rattle.gos_check.specs.Nodes.{Numbered, OfFun, OfSeq, Use, Under, Two}
use Rattle.gos_check.specs.Numbering.{typed_tree}

-- `import c : com`
abbrev pub a_command : Span → SeenImport
a_command s = record { name = codes "c"; name_span = s; ty = written.Com; ty_span = s }

-- `c ; c`
abbrev pub twice : Span → Tree
twice s = trees.Seq s (trees.Use s (codes "c")) (trees.Use s (codes "c"))

-- its term, where the sides of the split have these numbers; the import has the number 0
abbrev pub split_in : ℕ → ℕ → Numbered
split_in left right = Two Com (record { of = 0; left = left; right = right } ∷ []) OfSeq (Use Com [] left) (Use Com [] right)

-- the left use has the number 1, and the right one 2
abbrev pub TwiceIsSplit : Type 0
TwiceIsSplit = (s : Span) → typed_tree (a_command s ∷ []) (twice s) ≡ split_in 1 2

-- and not the other way round
abbrev pub TurnedIsNotTyped : Type 0
TurnedIsNotTyped = (s : Span) → typed_tree (a_command s ∷ []) (twice s) ≡ split_in 2 1 → ⊥

-- `fun a : com . a`
abbrev pub same : Span → Tree
same s = trees.Lam s (codes "a") Com s (trees.Use s (codes "a"))

abbrev pub same_in : ℕ → Numbered
same_in n = Under (Fun Com Com) [] OfFun n (Use Com [] n)

-- the argument has the first number that no import has
abbrev pub SameIsNumbered : Type 0
SameIsNumbered = (s : Span) → typed_tree [] (same s) ≡ same_in 0

-- and not the next one
abbrev pub NextIsNotTyped : Type 0
NextIsNotTyped = (s : Span) → typed_tree [] (same s) ≡ same_in 1 → ⊥
