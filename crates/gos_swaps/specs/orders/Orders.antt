-- The law on order: what happens at one place and what happens at another can happen in either order.
--
-- Read first: Proper, Effects. Two doings at different places lie in different sides of a `||`, which share no location:
-- so they use different entries of the store, and only the location that a new variable takes may depend on the order.
use Rattle.std.specs.Prelude.{◌≢◌, ℕ, List}
use Rattle.gos_model.specs.Terms.{Term}
use Rattle.gos_model.specs.Typing.{Imports}
use Rattle.gos_model.specs.Stores.{Store}
use Rattle.gos_model.specs.Moves.{Running, Act, Unfoldings}
use Rattle.gos_swaps.specs.doings.Doings.{Doing, DoesAt, doing}
use Rattle.gos_swaps.specs.proper.Proper.{IsProper}
use Rattle.gos_swaps.specs.orders.Alike.{Alike}

-- Each of two doings at different places is there after the other, and both orders lead to configurations that are alike.
abbrev pub EitherOrder : Type 0
EitherOrder =
    (i : Imports) (p q : List ℕ) (a b : Doing) (s u v : Store) (m t r : Term)
    → IsProper m s → p ≢ q → DoesAt i p a s u m t → DoesAt i q b s v m r
    → (x : Term) × (y : Term) × (w : Store) × (z : Store) × DoesAt i q b u w t x × DoesAt i p a v z r y
    × Alike (Running x w) (Running y z)

-- At one place one thing happens, but for the location that a new variable takes. Of an answer the number is given.
abbrev pub OneDoing : Type 0
OneDoing =
    (i : Imports) (p : List ℕ) (a : Doing) (s u v : Store) (m t r : Term)
    → IsProper m s → DoesAt i p a s u m t → DoesAt i p a s v m r → Alike (Running t u) (Running r v)

-- So the order doesn't tell, whatever locations are taken: where both orders have come to an end, the ends are alike.
abbrev pub OrderDoesNotTell : Type 0
OrderDoesNotTell =
    (i : Imports) (p q : List ℕ) (a b : Doing) (s u v w z : Store) (m t r x y : Term)
    → IsProper m s → p ≢ q → DoesAt i p a s u m t → DoesAt i q b u w t x → DoesAt i q b s v m r → DoesAt i p a v z r y
    → Alike (Running x w) (Running y z)

-- a move whose step or label is at this place, with any unfoldings before it
abbrev pub MoveAt : Imports → List ℕ → Act → Store → Store → Term → Term → Type 0
MoveAt i p a s s' m t = (n : ℕ) × (x : Term) × Unfoldings n m x × DoesAt i p (doing a) s s' x t

-- So two moves at different places can be in either order, whatever each unfolds before.
abbrev pub MovesEitherOrder : Type 0
MovesEitherOrder =
    (i : Imports) (p q : List ℕ) (a b : Act) (s u v : Store) (m t r : Term)
    → IsProper m s → p ≢ q → MoveAt i p a s u m t → MoveAt i q b s v m r
    → (x : Term) × (y : Term) × (w : Store) × (z : Store) × MoveAt i q b u w t x × MoveAt i p a v z r y
    × Alike (Running x w) (Running y z)
