-- Cells that may be changed, and cells of which none may.
--
-- Read first: Tidy; Changes, Shapes.
use Rattle.std.specs.Prelude.{◌≡◌, ◌≢◌, ◌⊎◌, ℕ, ◌<◌, List, Some, None, slice_get}
use Rattle.indexmap.specs.IndexMap.{IndexMap, get}
use Rattle.gos_netlist.specs.Nets.{Function, Input, Cell}
use Rattle.gos_tidy.specs.declared.breach.Change.{Change}
use Rattle.gos_tidy.specs.declared.breach.Change.TheVariants as change
use Rattle.gos_tidy.specs.declared.breach.Breach.{Breach}
use Rattle.gos_tidy.specs.declared.shape.Shape.{Shape}
use Rattle.gos_tidy.specs.contracts.shape.ShapePartialEq.TheImpl.{eq-value}
use Rattle.gos_tidy.specs.Tidy.{Folds, NamesConstants, IsSpare}
use Rattle.gos_tidy.specs.inner.Shapes.{shape_of}
use Rattle.gos_tidy.specs.inner.Changes.{ShowsNet, GoesTo, ShowsNumber, IsShut, BecomesNumber}

-- what the pins of a gate of w bits allow
abbrev pub Allows : List Cell → ℕ → Function → Change → Type 0
Allows cells w g (change.Number k) = ShowsNumber cells w g k ⊎ (IsShut cells g × (k ≡ 0))
Allows cells w g (change.Net t) = ShowsNet cells w g t

-- the cell of net n may be changed so
abbrev pub MayBe : List Cell → ℕ → Change → Type 0
MayBe cells n (change.Number k) = BecomesNumber cells n k
MayBe cells n (change.Net t) = GoesTo cells n t

abbrev pub IsBreach : List Cell → Breach → Type 0
IsBreach cells b = MayBe cells b.net b.change

-- the pins of a gate allow no change
pub record IsFirm (cells : List Cell) (g : Function) : Type 0 where
  pub folded : Folds g → NamesConstants cells g → ⊥
  pub short : IsSpare cells g → ⊥

-- the cell of net m stands at net n again, and is no input
abbrev pub IsAgain : List Cell → ℕ → ℕ → Type 0
IsAgain cells m n = (c : Cell) × (m < n) × (slice_get cells m ≡ Some c) × (slice_get cells n ≡ Some c) × (c.gate ≢ Input)

-- no net before net n has its cell, unless it is an input
abbrev pub IsNew : List Cell → ℕ → Type 0
IsNew cells n = (m : ℕ) → IsAgain cells m n → ⊥

-- the cell of net n may not be changed
pub record IsFirmAt (cells : List Cell) (n : ℕ) : Type 0 where
  pub firm : (c : Cell) → slice_get cells n ≡ Some c → IsFirm cells c.gate
  pub new : IsNew cells n

-- no cell may
abbrev pub AllFirm : List Cell → Type 0
AllFirm cells = (n : ℕ) → IsFirmAt cells n

-- a table has the cells before net n but the inputs, by their shapes
pub record HasCells {S : Type 0} (cells : List Cell) (n : ℕ) (table : IndexMap Shape ℕ S) : Type 0 where
  pub all : (k : ℕ) (c : Cell) → k < n → slice_get cells k ≡ Some c → c.gate ≢ Input → get eq-value.it table (shape_of c) ≢ None
  pub only : (s : Shape) (k : ℕ) → get eq-value.it table s ≡ Some k → (c : Cell) × (k < n) × (slice_get cells k ≡ Some c) × (shape_of c ≡ s)
