use Rattle.std.proofs.Common.{◌≡◌, ℕ, ◌+◌, ◌<◌, ◌≤◌}
use Rattle.gos_syntax.specs.Items.{seen}
use Rattle.gos_syntax.specs.OpenTokens.{IsTooDeep, levels_before, at_first}
use Rattle.gos_syntax.specs.inner.Nested.{levels_of, IsCounted}
use Rattle.gos_syntax.proofs.source.Source.first_deep.Given as goal

-- the levels are those before the token, and none before it is nested too deeply
abbrev pub invariant-loop-at : goal.invariant-loop-at
invariant-loop-at l =
    record {
      levels : levels_of l.nesting ≡ levels_before at_first (seen l.self) l.at;
      counted : IsCounted l.nesting;
      grown : l.nesting.items + l.nesting.deepest ≤ 1026;
      none : (n : ℕ) → n < l.at → IsTooDeep (seen l.self) n → ⊥;
    }
