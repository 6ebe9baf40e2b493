use Rattle.std.proofs.Common.{◌<◌, ◌≤◌, ◌+◌, length, take}
use Rattle.gos_lex.specs.Items.{Begins}
use Rattle.gos_verilog.specs.inner.Faces.{IsFirstName}
use Rattle.gos_verilog.proofs.faces.reach.Given as goal

-- no name begins with one byte more
abbrev pub invariant-loop-n : goal.invariant-loop-n
invariant-loop-n l =
    record {
      within : l.n ≤ length l.rest;
      none : l.n < length l.rest → Begins (IsFirstName l.places) (take (l.n + 1) l.rest) → ⊥;
    }

abbrev pub decreases-loop-n : goal.decreases-loop-n
decreases-loop-n l = l.n
