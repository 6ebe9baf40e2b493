-- What the parser keeps of the tokens before it, as levels.
--
-- Read first: OpenTokens.
use Rattle.std.specs.Prelude.{◌≡◌, ◌∷◌, reverse}
use Rattle.gos_syntax.specs.declared.nesting.Nesting.{Nesting}
use Rattle.gos_syntax.specs.OpenTokens.{Levels, items_in, deepest_in}

-- the levels, the innermost first
abbrev pub levels_of : Nesting → Levels
levels_of nesting = nesting.inner ∷ reverse nesting.outer.items

-- the counts are those of the levels
pub record IsCounted (nesting : Nesting) : Type 0 where
  pub items : nesting.items ≡ items_in (levels_of nesting)
  pub deepest : nesting.deepest ≡ deepest_in (levels_of nesting)
