-- Where one side of `||` has ended, the other alone is waited for.
--
-- Read first: Backward. A side has ended where it unfolds to a value: no move of the whole unfolds it for its own sake.
use Rattle.std.specs.Prelude.{ℕ}
use Rattle.gos_model.specs.Terms.{Term, Par}
use Rattle.gos_model.specs.Stores.{Store}
use Rattle.gos_model.specs.Steps.{IsValue}
use Rattle.gos_model.specs.Moves.{Program, Running, Unfoldings, Stalled}

-- one side has ended, the other waits
abbrev pub RightWaitsForEnded : Type 0
RightWaitsForEnded =
    (q : Program) (n : ℕ) (s : Store) (l v r : Term)
    → Unfoldings n l v → IsValue v → Stalled q (Running r s) → Stalled q (Running (Par l r) s)

abbrev pub LeftWaitsForEnded : Type 0
LeftWaitsForEnded =
    (q : Program) (n : ℕ) (s : Store) (l r v : Term)
    → Stalled q (Running l s) → Unfoldings n r v → IsValue v → Stalled q (Running (Par l r) s)
