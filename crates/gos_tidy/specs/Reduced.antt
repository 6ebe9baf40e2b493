-- Netlists that are made smaller: cells are merged, and then cells are left out.
--
-- Read first: Mapped, Steady, Ends. Merging takes equal cells together and puts constants and nets in the place of gates, all at
-- once; leaving out takes no net away that is named. Cells keep their order. Says nothing of which cells have to be merged.
use Rattle.std.specs.Prelude.{◌≡◌, ◌≢◌, ◌⊎◌, ℕ, ◌<◌, ◌≤◌, List, Some, slice_get, length, map}
use Rattle.gos_netlist.specs.Nets.{Function, Input, Gate, Cell, Netlist}
use Rattle.gos_netcheck.specs.Rules.{Kept}
use Rattle.gos_netcheck.specs.CellRules.{NetsExist}
use Rattle.gos_tidy.specs.Ends.{with_nets}
use Rattle.gos_tidy.specs.Mapped.{IsConst, IsKept, IsFolded, IsShort, Mapped}
use Rattle.gos_tidy.specs.Steady.{IsSteadied}

-- the net has so many bits
abbrev pub HasWidth : List Cell → ℕ → ℕ → Type 0
HasWidth cells n w = (c : Cell) × (slice_get cells n ≡ Some c) × (c.width ≡ w)

-- the gate lets nothing through, and the constant 0 is there
abbrev pub IsClosed : List Cell → (ℕ → ℕ) → ℕ → Function → Type 0
IsClosed others f n (Gate s a) = (k : ℕ) × (k ≢ 1) × IsConst others (f s) k × IsConst others (f n) 0
IsClosed others f n g = ⊥

-- the cell of net n is the one of net f n, perhaps as the constant that it shows, and not merely a net that shows the same
abbrev pub Stays : List Cell → (ℕ → ℕ) → ℕ → Cell → Type 0
Stays others f n c = IsKept others f n c ⊎ (IsFolded others f n c ⊎ IsClosed others f n c.gate)

-- Cells are merged to others by f. Each of the others stood at its root before, which is the first one that it can be: but a
-- cell that shows what a net of its own shows goes there, wherever that net stands.
pub record IsQuotient (cells others : List Cell) (f : ℕ → ℕ) (roots : List ℕ) : Type 0 where
  pub mapped : Mapped cells others f
  pub widths : (n : ℕ) (c : Cell) → slice_get cells n ≡ Some c → HasWidth others (f n) c.width
  pub inputs : (m n : ℕ) (c e : Cell) → slice_get cells m ≡ Some c → slice_get cells n ≡ Some e → c.gate ≡ Input → e.gate ≡ Input → f m ≡ f n → m ≡ n
  pub each : length roots ≡ length others
  pub rises : (i j m n : ℕ) → i < j → slice_get roots i ≡ Some m → slice_get roots j ≡ Some n → m < n
  pub stays : (i m : ℕ) → slice_get roots i ≡ Some m → (f m ≡ i) × (c : Cell) × (slice_get cells m ≡ Some c) × Stays others f m c
  pub first : (i m n : ℕ) (c : Cell) → slice_get roots i ≡ Some m → slice_get cells n ≡ Some c → f n ≡ i → Stays others f n c
      → (IsShort others f n c.width c.gate → ⊥) → m ≤ n

-- Cells are some of others, in their order and with their nets renamed: all inputs, and each net that one of them names.
pub record IsPart (cells others : List Cell) (g : ℕ → ℕ) : Type 0 where
  pub kept : (n : ℕ) (c : Cell) → slice_get cells n ≡ Some c → IsKept others g n c
  pub pins : NetsExist cells
  pub rises : (m n : ℕ) → m < n → n < length cells → g m < g n
  pub inputs : (m : ℕ) (e : Cell) → slice_get others m ≡ Some e → e.gate ≡ Input → (n : ℕ) × (n < length cells) × (g n ≡ m)

-- The cells of a netlist are merged to others, of which the second one has a part, and ports stand at the same nets of these.
pub record IsReduced (net other : Netlist) : Type 0 where
  pub merged : List Cell
  pub roots : List ℕ
  pub merging : ℕ → ℕ
  pub placing : ℕ → ℕ
  pub quotient : IsQuotient net.cells merged merging roots
  pub part : IsPart other.cells merged placing
  pub ports : map (with_nets placing) other.ports ≡ map (with_nets merging) net.ports
  pub ends : Kept (λ _ p. Kept (λ _ n. n < length other.cells) p.nets) other.ports

-- the second netlist is the first one, reduced any number of times, with steady cells made constants in between
pub data Reduces (net : Netlist) : Netlist → Type 0 where
  NotYet : Reduces net net
  Again : (mid other : Netlist) → Reduces net mid → IsReduced mid other → Reduces net other
  Steadied : (mid other : Netlist) → Reduces net mid → IsSteadied mid other → Reduces net other
