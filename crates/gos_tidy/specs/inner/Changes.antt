-- Single changes: a cell goes to another net, or becomes a constant in its place.
--
-- Read first: Mapped, Reduced, Tidy. They speak of the nets of the cells themselves, before the change.
use Rattle.std.specs.Prelude.{◌≡◌, ◌≢◌, ◌⊎◌, ℕ, zero, suc, ◌+◌, ◌-◌, ◌<◌, nat_eq, nat_lt, if◌then◌else◌, List, [], ◌∷◌, length, Some, slice_get, slice_set, slice_index_or, Contains}
use Rattle.gos_netlist.specs.declared.nets.Cell as declared
use Rattle.gos_netlist.specs.declared.nets.Gate.TheVariants as gates
use Rattle.gos_netlist.specs.Nets.{Function, Input, Const, Not, And, Or, Xor, Mux, Gate, Cell, pins}
use Rattle.gos_netlist.specs.Settling.{at, shown}
use Rattle.gos_netlist.specs.Cycles.{HasCycle}
use Rattle.gos_netcheck.specs.CellRules.{NetsExist, WidthsFit}
use Rattle.gos_tidy.specs.Mapped.{IsConst, IsXorOf}
use Rattle.gos_tidy.specs.Tidy.{Folds}

-- cells that name cells, have right widths and no ring
pub record AreSound (cells : List Cell) : Type 0 where
  pub nets : NetsExist cells
  pub widths : WidthsFit cells
  pub acyclic : HasCycle cells → ⊥

-- a gate of w bits shows what net t shows
abbrev pub ShowsNet : List Cell → ℕ → Function → ℕ → Type 0
ShowsNet cells w (Not a) t = slice_get cells a ≡ Some (record { width = w; gate = Not t })
ShowsNet cells w (And a b) t = (a ≡ b) × (t ≡ a)
ShowsNet cells w (Or a b) t = (a ≡ b) × (t ≡ a)
ShowsNet cells w (Xor a b) t = IsXorOf cells w b a t ⊎ IsXorOf cells w a b t
ShowsNet cells w (Mux s a b) t = (IsConst cells s 1 × (t ≡ a)) ⊎ ((k : ℕ) × (k ≢ 1) × IsConst cells s k × (t ≡ b))
ShowsNet cells w (Gate s a) t = IsConst cells s 1 × (t ≡ a)
ShowsNet cells w g t = ⊥

-- Net n may go to net t: its cell shows what that shows, or is equal to the cell of t and stands behind it.
abbrev pub GoesTo : List Cell → ℕ → ℕ → Type 0
GoesTo cells n t =
    (c : Cell) × (slice_get cells n ≡ Some c)
    × (ShowsNet cells c.width c.gate t ⊎ ((t < n) × (slice_get cells t ≡ Some c) × (c.gate ≢ Input)))

-- all nets of a gate of w bits are constants, and it shows k then
abbrev pub ShowsNumber : List Cell → ℕ → Function → ℕ → Type 0
ShowsNumber cells w g k =
    Folds g × (v : ℕ → ℕ) × ((a : ℕ) → Contains (pins g) a → IsConst cells a (v a)) × ((r i : ℕ) → shown w g r i v ≡ k)

-- the gate lets nothing through
abbrev pub IsShut : List Cell → Function → Type 0
IsShut cells (Gate s a) = (k : ℕ) × (k ≢ 1) × IsConst cells s k
IsShut cells g = ⊥

-- net n may become the constant k
abbrev pub BecomesNumber : List Cell → ℕ → ℕ → Type 0
BecomesNumber cells n k =
    (c : Cell) × (slice_get cells n ≡ Some c) × (ShowsNumber cells c.width c.gate k ⊎ (IsShut cells c.gate × (k ≡ 0)))

-- where net n is left out, the place that a net had before
abbrev pub skip : ℕ → ℕ → ℕ
skip zero j = suc j
skip (suc n) zero = 0
skip (suc n) (suc j) = suc (skip n j)

-- and the place that another net has then
abbrev pub lowered : ℕ → ℕ → ℕ
lowered n j = if nat_lt n j then j - 1 else j

-- where each net goes, where net n goes to net t
abbrev pub target_of : ℕ → ℕ → ℕ → ℕ
target_of n t j = if nat_eq j n then lowered n t else lowered n j

-- the first k numbers are those of a function
pub record AreNumbersOf (h : ℕ → ℕ) (k : ℕ) (items : List ℕ) : Type 0 where
  pub long : length items ≡ k
  pub each : (j : ℕ) → j < k → at items j ≡ h j

-- the cells with a constant at place n, of as many bits as the cell there
abbrev pub IsReplaced : List declared.Cell → ℕ → ℕ → List declared.Cell → Type 0
IsReplaced cells n k others =
    (d : declared.Cell) → others ≡ slice_set cells n (record { width = (slice_index_or cells n d).width; gate = gates.Const k })

-- How much there is that a single change may take away: a constant counts once, any other cell twice.
abbrev pub weight : Function → ℕ
weight (Const k) = 1
weight g = 2

abbrev pub size : List Cell → ℕ
size [] = 0
size (c ∷ cs) = weight c.gate + size cs
