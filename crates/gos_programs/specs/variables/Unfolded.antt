-- A term that unfolds to one that can only wait can only wait.
--
-- Read first: Moves of gos_model. Two unfoldings of a term come together again, since a place unfolds in one way and two places don't
-- touch each other; and an unfolding at one place leaves what is possible at another. So which heads a term has unfolded doesn't
-- matter to what it can do.
use Rattle.std.specs.Prelude.{◌≡◌, ◌⊎◌, ℕ}
use Rattle.gos_model.specs.Terms.{Term}
use Rattle.gos_model.specs.Typing.{Imports}
use Rattle.gos_model.specs.Stores.{Store}
use Rattle.gos_model.specs.Reach.{Unfolds}
use Rattle.gos_model.specs.Moves.{Program, Running, Act, Acts, Unfoldings, Stalled}

-- two unfoldings are one, or come together
abbrev pub UnfoldingsMeet : Type 0
UnfoldingsMeet = (m a b : Term) → Unfolds m a → Unfolds m b → (a ≡ b) ⊎ ((w : Term) × Unfolds a w × Unfolds b w)

-- what a term does it does after an unfolding
abbrev pub ActsStay : Type 0
ActsStay = (i : Imports) (a : Act) (s s' : Store) (m v t : Term) → Unfolds m v → Acts i a s s' m t → (u : Term) × Acts i a s s' v u

-- so it waits where it waits after unfoldings
abbrev pub WaitsBefore : Type 0
WaitsBefore = (q : Program) (n : ℕ) (s : Store) (m v : Term) → Unfoldings n m v → Stalled q (Running v s) → Stalled q (Running m s)
