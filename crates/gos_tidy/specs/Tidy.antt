-- Tidy cells: none that leads nowhere, none twice, and no gate that is a constant or one of its own nets.
--
-- Read first: Mapped. Says nothing of what tidy cells were made from.
use Rattle.std.specs.Prelude.{◌≡◌, ◌≢◌, ◌⊎◌, ℕ, List, Some, slice_get, Contains}
use Rattle.gos_netlist.specs.Nets.{Function, Input, Const, Not, And, Or, Xor, Mux, Gate, Reg, Cell, pins}
use Rattle.gos_tidy.specs.Mapped.{IsConst, IsXorOf}

-- net n leads by pins, through registers too, to one of these nets: it is one, or a pin of a cell whose net leads there
pub data LeadsTo (cells : List Cell) (ends : List ℕ) : ℕ → Type 0 where
  IsEnd : (n : ℕ) → Contains ends n → LeadsTo cells ends n
  IsPin : (n m : ℕ) (c : Cell) → slice_get cells m ≡ Some c → Contains (pins c.gate) n → LeadsTo cells ends m → LeadsTo cells ends n

-- each cell but the inputs leads to one of these nets
abbrev pub AllLead : List Cell → List ℕ → Type 0
AllLead cells ends = (n : ℕ) (c : Cell) → slice_get cells n ≡ Some c → c.gate ≢ Input → LeadsTo cells ends n

-- all nets that it names are constants
abbrev pub NamesConstants : List Cell → Function → Type 0
NamesConstants cells g = (a : ℕ) → Contains (pins g) a → (k : ℕ) × IsConst cells a k

-- What a gate may not be. A register may have a constant pin, since it shows 0 in the first cycle.
abbrev pub IsSpare : List Cell → Function → Type 0
IsSpare cells (Not a) = (w b : ℕ) × (slice_get cells a ≡ Some (record { width = w; gate = Not b }))
IsSpare cells (And a b) = a ≡ b
IsSpare cells (Or a b) = a ≡ b
IsSpare cells (Xor a b) = (w t : ℕ) × (IsXorOf cells w b a t ⊎ IsXorOf cells w a b t)
IsSpare cells (Mux s a b) = (k : ℕ) × IsConst cells s k
IsSpare cells (Gate s a) = (k : ℕ) × IsConst cells s k
IsSpare cells g = ⊥

-- whether a cell may fold: it names nets and is no register
abbrev pub Folds : Function → Type 0
Folds Input = ⊥
Folds (Const k) = ⊥
Folds (Reg a) = ⊥
Folds g = Unit {0}

-- these cells are tidy, where these nets are the outputs
pub record IsTidy (cells : List Cell) (ends : List ℕ) : Type 0 where
  pub leads : (n : ℕ) (c : Cell) → slice_get cells n ≡ Some c → c.gate ≢ Input → LeadsTo cells ends n
  pub once : (m n : ℕ) (c : Cell) → slice_get cells m ≡ Some c → slice_get cells n ≡ Some c → c.gate ≢ Input → m ≡ n
  pub folded : (n : ℕ) (c : Cell) → slice_get cells n ≡ Some c → Folds c.gate → NamesConstants cells c.gate → ⊥
  pub short : (n : ℕ) (c : Cell) → slice_get cells n ≡ Some c → IsSpare cells c.gate → ⊥
