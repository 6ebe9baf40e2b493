use Rattle.std.proofs.Common.{◌≡◌, ℕ, ◌<◌, ◌≤◌}
use Rattle.gos_syntax.specs.Items.{seen}
use Rattle.gos_syntax.specs.OpenTokens.{IsExtraImport, imports_before}
use Rattle.gos_syntax.proofs.source.Source.extra_import.Given as goal

-- the imports before the token are counted, and none before it is one too many
abbrev pub invariant-loop-at : goal.invariant-loop-at
invariant-loop-at l =
    record {
      counted : l.imports ≡ imports_before (seen l.self) l.at;
      few : l.imports ≤ 64;
      none : (n : ℕ) → n < l.at → IsExtraImport (seen l.self) n → ⊥;
    }
