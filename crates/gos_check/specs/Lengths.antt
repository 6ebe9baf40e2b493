-- How many numbers an array may have, in faults.
--
-- Read first: Judging; Typing of gos_model.
use Rattle.std.specs.Prelude.{◌≡◌, ℕ, List, Ok, Err}
use Rattle.gos_lex.specs.declared.token.Span.{Span}
use Rattle.gos_syntax.specs.Trees.{Tree, Array}
use Rattle.gos_model.specs.Typing.{Imports, IsLength}
use Rattle.gos_check.specs.Faults.{Length}
use Rattle.gos_check.specs.Written.{written_length}
use Rattle.gos_check.specs.Scopes.{Binders}
use Rattle.gos_check.specs.Judging.{judged}

-- a block with an array of another length is refused for its length, whatever else is wrong with it
abbrev pub OtherLengthsAreRefused : Type 0
OtherLengthsAreRefused =
    (i : Imports) (g : Binders) (s u v : Span) (x : List ℕ) (n w : ℕ) (m : Tree) → (IsLength n → ⊥)
    → judged i g (Array s x n u w v m) ≡ Err (Length u n)

-- four numbers are a length
abbrev pub FourIsTaken : Type 0
FourIsTaken = (u : Span) → written_length u 4 ≡ Ok tt
