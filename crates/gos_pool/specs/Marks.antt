-- Cutting a pool back to a mark.
--
-- Read first: Pools.
use Rattle.std.specs.Prelude.{◌≡◌, ◌≤◌, List, ◌++◌, length, take, All, IfSome}
use Rattle.gos_pool.specs.declared.region.Mark.{Mark}
use Rattle.gos_pool.specs.Pools.{Pool, EndsBy}

-- The mark is not ahead of the pool, keeps whole regions alone, and keeps no cell of the region that is begun.
pub record CanCutBack (pool : Pool) (mark : Mark) : Type 0 where
  pub cells : mark.cells ≤ length pool.cells
  pub regions : mark.regions ≤ length pool.closed
  pub whole : All (EndsBy mark.cells) (take mark.regions pool.closed)
  pub begun : IfSome pool.begun (λ start. mark.cells ≤ start)

-- the first list is how the second one begins
abbrev pub Begins : {X : Type 0} → List X → List X → Type 0
Begins {X} xs ys = (rest : List X) × (ys ≡ xs ++ rest)

-- The second pool is the first one, and more: nothing was taken away, and the region that is begun now, if one is, has
-- none of the first one's cells.
pub record Grows (old new : Pool) : Type 0 where
  pub cells : Begins old.cells new.cells
  pub closed : Begins old.closed new.closed
  pub begun : IfSome new.begun (λ start. length old.cells ≤ start)

-- a mark to which a pool can be cut back stays one as long as the pool only grows
abbrev pub MarksStay : Type 0
MarksStay = (old new : Pool) (mark : Mark) → CanCutBack old mark → Grows old new → CanCutBack new mark
