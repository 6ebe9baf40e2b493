-- Small configurations in either order, and two that are not proper, of which the order tells.
--
-- Read first: Orders.
use Rattle.std.specs.Prelude.{◌≡◌, ℕ, [], ◌∷◌}
use Rattle.gos_model.specs.Terms.{Term, Skip, Import, Seq, Par, New, Loc, Scope, Wait, Put}
use Rattle.gos_model.specs.Stores.{variable_at, array_at, Store}
use Rattle.gos_model.specs.Labels.{taken}
use Rattle.gos_model.specs.Moves.{Running}
use Rattle.gos_model.specs.SmallPrograms.{c, d, two_commands}
use Rattle.gos_programs.specs.contexts.SmallContexts.{one_at}
use Rattle.gos_swaps.specs.doings.Doings.{Computing, Showing, DoesAt}
use Rattle.gos_swaps.specs.proper.Proper.{PartsApart, IsProper}
use Rattle.gos_swaps.specs.orders.Alike.{Alike}
use Rattle.gos_swaps.specs.orders.Effects.{shape, Stays, Writes, Opens, Closes, applied, IsFree, IsOwn}

-- `c || d` runs c and then d, or d and then c, and comes to the same
abbrev pub EitherFirst : Type 0
EitherFirst =
    DoesAt two_commands (0 ∷ []) (Showing (taken c 0 0)) [] [] (Par (Import c) (Import d)) (Par (Wait c 1) (Import d))
    × DoesAt two_commands (1 ∷ []) (Showing (taken d 0 0)) [] [] (Par (Wait c 1) (Import d)) (Par (Wait c 1) (Wait d 1))
    × DoesAt two_commands (1 ∷ []) (Showing (taken d 0 0)) [] [] (Par (Import c) (Import d)) (Par (Import c) (Wait d 1))
    × DoesAt two_commands (0 ∷ []) (Showing (taken c 0 0)) [] [] (Par (Import c) (Wait d 1)) (Par (Wait c 1) (Wait d 1))

-- two open blocks at these locations, and a store that has both
abbrev pub two_blocks : ℕ → ℕ → Term
two_blocks k l = Par (Scope k Skip) (Scope l Skip)

abbrev pub both_at : ℕ → ℕ → Store
both_at k l = variable_at k 1 0 ∷ one_at l

-- Of two blocks the one that opens first may take location 0: that is one configuration under two names, and not one term.
-- Two blocks at one location are another configuration.
abbrev pub FirstTakesZero : Type 0
FirstTakesZero =
    Alike (Running (two_blocks 0 1) (both_at 1 0)) (Running (two_blocks 1 0) (both_at 1 0))
    × (two_blocks 0 1 ≡ two_blocks 1 0 → ⊥)
    × (Alike (Running (two_blocks 0 1) (both_at 1 0)) (Running (two_blocks 0 0) (one_at 0)) → ⊥)

-- `((..) || new x : 1 in skip) ; put l 1`, where the left side is a block open at location 0, and behind both location 0 is written
abbrev pub stale : Term → Term → Term
stale m n = Seq (Par m n) (Put (Loc 0) 1)

-- The parts of its `||` share nothing. Where the block closes first, the new variable may take location 0, which is then that of the
-- write behind; where it opens first, it can't. No renaming joins the two, and the configuration isn't proper.
abbrev pub StaleNamesTellOrder : Type 0
StaleNamesTellOrder =
    PartsApart (stale (Scope 0 Skip) (New 1 Skip))
    × DoesAt [] (0 ∷ 0 ∷ []) Computing (one_at 0) [] (stale (Scope 0 Skip) (New 1 Skip)) (stale Skip (New 1 Skip))
    × DoesAt [] (0 ∷ 1 ∷ []) Computing [] (one_at 0) (stale Skip (New 1 Skip)) (stale Skip (Scope 0 Skip))
    × DoesAt [] (0 ∷ 1 ∷ []) Computing (one_at 0) (both_at 1 0) (stale (Scope 0 Skip) (New 1 Skip)) (stale (Scope 0 Skip) (Scope 1 Skip))
    × DoesAt [] (0 ∷ 0 ∷ []) Computing (both_at 1 0) (one_at 1) (stale (Scope 0 Skip) (Scope 1 Skip)) (stale Skip (Scope 1 Skip))
    × (Alike (Running (stale Skip (Scope 0 Skip)) (one_at 0)) (Running (stale Skip (Scope 1 Skip)) (one_at 1)) → ⊥)
    × (IsProper (stale (Scope 0 Skip) (New 1 Skip)) (one_at 0) → ⊥)

-- a block in which both sides write, and a store where the location has number k
abbrev pub shared : Term → Term → Term
shared m n = Scope 0 (Par m n)

abbrev pub has_number : ℕ → Store
has_number k = variable_at 0 1 k ∷ []

-- Where both sides name one location, the later write stays, and the parts aren't apart.
abbrev pub SharedNamesTellOrder : Type 0
SharedNamesTellOrder =
    DoesAt [] (0 ∷ 0 ∷ []) Computing (has_number 0) (has_number 0) (shared (Put (Loc 0) 0) (Put (Loc 0) 1)) (shared Skip (Put (Loc 0) 1))
    × DoesAt [] (0 ∷ 1 ∷ []) Computing (has_number 0) (has_number 1) (shared Skip (Put (Loc 0) 1)) (shared Skip Skip)
    × DoesAt [] (0 ∷ 1 ∷ []) Computing (has_number 0) (has_number 1) (shared (Put (Loc 0) 0) (Put (Loc 0) 1)) (shared (Put (Loc 0) 0) Skip)
    × DoesAt [] (0 ∷ 0 ∷ []) Computing (has_number 1) (has_number 0) (shared (Put (Loc 0) 0) Skip) (shared Skip Skip)
    × (Alike (Running (shared Skip Skip) (has_number 1)) (Running (shared Skip Skip) (has_number 0)) → ⊥)
    × (PartsApart (shared (Put (Loc 0) 0) (Put (Loc 0) 1)) → ⊥)

-- each effect on a store of one location
abbrev pub EffectsChangeStores : Type 0
EffectsChangeStores =
    (applied Stays (one_at 0) ≡ one_at 0) × (applied (Writes 0 0 1) (one_at 0) ≡ has_number 1) × (applied (Writes 1 0 1) (one_at 0) ≡ one_at 0)
    × (applied (Writes 0 1 1) (one_at 0) ≡ one_at 0)
    × (applied (Opens 1 (shape 1 1)) (one_at 0) ≡ both_at 1 0)
    × (applied (Opens 1 (shape 2 8)) (one_at 0) ≡ array_at 1 8 2 ∷ one_at 0) × (applied (Closes 0) (one_at 0) ≡ []) × (applied (Closes 1) (one_at 0) ≡ one_at 0)

-- only a location that is new is free, and only one of the term is its own
abbrev pub EffectsAreAllowed : Type 0
EffectsAreAllowed =
    IsFree (Opens 1 (shape 1 1)) (one_at 0) × (IsFree (Opens 0 (shape 1 1)) (one_at 0) → ⊥) × IsOwn (Writes 0 0 1) (Loc 0) × (IsOwn (Writes 1 0 1) (Loc 0) → ⊥)
