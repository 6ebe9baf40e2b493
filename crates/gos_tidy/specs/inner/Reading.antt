-- Cells as they are read by the cells that they are merged to: with the nets of these, and what they are there.
--
-- Read first: Mapped, Reduced, Tidy.
use Rattle.std.specs.Prelude.{◌≡◌, ◌≢◌, ◌⊎◌, ℕ, ◌+◌, ◌-◌, ◌^◌, ◌%◌, List, Option, Some, None, slice_get, Contains, bit_and, bit_or, bit_xor, nat_eq, nat_lt, if◌then◌else◌}
use Rattle.gos_netlist.specs.Nets.{Function, Const, Not, And, Or, Xor, Mux, Add, Sub, Eq, Less, Gate, Cell, pins}
use Rattle.gos_netlist.specs.Settling.{shown}
use Rattle.gos_tidy.specs.Mapped.{IsConst, IsXorOf}
use Rattle.gos_tidy.specs.Tidy.{Folds}

-- the nets of a gate that may fold, where the last one stands for those that it lacks
abbrev pub first_of : Function → ℕ
first_of (Not a) = a
first_of (And a b) = a
first_of (Or a b) = a
first_of (Xor a b) = a
first_of (Mux s a b) = s
first_of (Add a b) = a
first_of (Sub a b) = a
first_of (Eq a b) = a
first_of (Less a b) = a
first_of (Gate s a) = s
first_of g = 0

abbrev pub second_of : Function → ℕ
second_of (Not a) = a
second_of (And a b) = b
second_of (Or a b) = b
second_of (Xor a b) = b
second_of (Mux s a b) = a
second_of (Add a b) = b
second_of (Sub a b) = b
second_of (Eq a b) = b
second_of (Less a b) = b
second_of (Gate s a) = a
second_of g = 0

abbrev pub third_of : Function → ℕ
third_of (Mux s a b) = b
third_of g = second_of g

-- what a gate of w bits shows where its nets have these numbers; 0 where it may not fold
abbrev pub shown_for : ℕ → Function → ℕ → ℕ → ℕ → ℕ
shown_for w (Not _) x y z = 2 ^ w - 1 - x
shown_for w (And _ _) x y z = bit_and x y
shown_for w (Or _ _) x y z = bit_or x y
shown_for w (Xor _ _) x y z = bit_xor x y
shown_for w (Mux _ _ _) x y z = if nat_eq x 1 then y else z
shown_for w (Add _ _) x y z = (x + y) % 2 ^ w
shown_for w (Sub _ _) x y z = (x + 2 ^ w - y) % 2 ^ w
shown_for w (Eq _ _) x y z = if nat_eq x y then 1 else 0
shown_for w (Less _ _) x y z = if nat_lt x y then 1 else 0
shown_for w (Gate _ _) x y z = if nat_eq x 1 then y else 0
shown_for w g x y z = 0

-- the number of a constant, else 0
abbrev pub constant_of : Function → ℕ
constant_of (Const k) = k
constant_of g = 0

abbrev pub number_in : Option Cell → ℕ
number_in None = 0
number_in (Some c) = constant_of c.gate

-- the number of a net whose cell is a constant, else 0
abbrev pub number_at : List Cell → ℕ → ℕ
number_at cells a = number_in (slice_get cells a)

-- a gate of w bits may fold, all its nets are constants, and it shows k then
pub record FoldsTo (cells : List Cell) (w : ℕ) (g : Function) (k : ℕ) : Type 0 where
  pub folds : Folds g
  pub named : (a : ℕ) → Contains (pins g) a → IsConst cells a (number_at cells a)
  pub shows : (r i : ℕ) → shown w g r i (number_at cells) ≡ k

-- a gate lets nothing through, and net n is the constant 0: as IsClosed of Reduced, where its nets are those of these cells
abbrev pub IsClosedOf : List Cell → ℕ → Function → Type 0
IsClosedOf others n (Gate s a) = (k : ℕ) × (k ≢ 1) × IsConst others s k × IsConst others n 0
IsClosedOf others n g = ⊥

-- a gate of w bits shows what net n shows: as IsShort, where its nets are those of these cells
abbrev pub IsShortOf : List Cell → ℕ → ℕ → Function → Type 0
IsShortOf others n w (Not a) = slice_get others a ≡ Some (record { width = w; gate = Not n })
IsShortOf others n w (And a b) = (a ≡ b) × (n ≡ a)
IsShortOf others n w (Or a b) = (a ≡ b) × (n ≡ a)
IsShortOf others n w (Xor a b) = IsXorOf others w b a n ⊎ IsXorOf others w a b n
IsShortOf others n w (Mux s a b) =
    (IsConst others s 1 × (n ≡ a)) ⊎ ((k : ℕ) × (k ≢ 1) × IsConst others s k × (n ≡ b))
IsShortOf others n w (Gate s a) =
    (IsConst others s 1 × (n ≡ a)) ⊎ ((k : ℕ) × (k ≢ 1) × IsConst others s k × IsConst others n 0)
IsShortOf others n w g = ⊥
