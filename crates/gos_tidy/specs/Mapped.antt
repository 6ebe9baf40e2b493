-- Cells that show what other cells show, by a map of nets.
--
-- Read first: Nets, Settling and Renamed of gos_netlist. Each cell stands for the cell that its net is mapped to, by one
-- of the single changes. No order of the cells is spoken of: what is demanded of a cell is about its own pins alone.
use Rattle.std.specs.Prelude.{◌≡◌, ◌≢◌, ◌⊎◌, ℕ, List, Some, slice_get, Contains}
use Rattle.gos_netlist.specs.Nets.{Function, Const, Not, And, Or, Xor, Mux, Gate, Cell, pins}
use Rattle.gos_netlist.specs.Settling.{shown}
pub use Rattle.gos_netlist.specs.Renamed.{renamed}

-- net n is a constant cell, of number k
abbrev pub IsConst : List Cell → ℕ → ℕ → Type 0
IsConst cells n k = (w : ℕ) × (slice_get cells n ≡ Some (record { width = w; gate = Const k }))

-- the cell is there, with its nets renamed
abbrev pub IsKept : List Cell → (ℕ → ℕ) → ℕ → Cell → Type 0
IsKept others f n c = slice_get others (f n) ≡ Some (record { width = c.width; gate = renamed f c.gate })

-- all nets that a gate names are constants, and the constant that it shows then is there
abbrev pub IsFolded : List Cell → (ℕ → ℕ) → ℕ → Cell → Type 0
IsFolded others f n c =
    (v : ℕ → ℕ) × ((a : ℕ) → Contains (pins c.gate) a → IsConst others (f a) (v a))
    × ((r i : ℕ) → IsConst others (f n) (shown c.width c.gate r i v))

-- net n is the Xor of net a and net t, in either order, of w bits
abbrev pub IsXorOf : List Cell → ℕ → ℕ → ℕ → ℕ → Type 0
IsXorOf cells w n a t =
    (slice_get cells n ≡ Some (record { width = w; gate = Xor a t })) ⊎ (slice_get cells n ≡ Some (record { width = w; gate = Xor t a }))

-- The gate shows what one of its nets shows, or 0, or what a net of theirs shows: a selector is constant, a Not is read by a
-- Not, both nets are one, or one net of a Xor is a Xor of the other one.
abbrev pub IsShort : List Cell → (ℕ → ℕ) → ℕ → ℕ → Function → Type 0
IsShort others f n w (Not a) = slice_get others (f a) ≡ Some (record { width = w; gate = Not (f n) })
IsShort others f n w (And a b) = (f a ≡ f b) × (f n ≡ f a)
IsShort others f n w (Or a b) = (f a ≡ f b) × (f n ≡ f a)
IsShort others f n w (Xor a b) = IsXorOf others w (f b) (f a) (f n) ⊎ IsXorOf others w (f a) (f b) (f n)
IsShort others f n w (Mux s a b) =
    (IsConst others (f s) 1 × (f n ≡ f a)) ⊎ ((k : ℕ) × (k ≢ 1) × IsConst others (f s) k × (f n ≡ f b))
IsShort others f n w (Gate s a) =
    (IsConst others (f s) 1 × (f n ≡ f a)) ⊎ ((k : ℕ) × (k ≢ 1) × IsConst others (f s) k × IsConst others (f n) 0)
IsShort others f n w g = ⊥

-- the cell of net n stands for that of net f n
abbrev pub Stands : List Cell → (ℕ → ℕ) → ℕ → Cell → Type 0
Stands others f n c = IsKept others f n c ⊎ (IsFolded others f n c ⊎ IsShort others f n c.width c.gate)

-- all cells do
abbrev pub Mapped : List Cell → List Cell → (ℕ → ℕ) → Type 0
Mapped cells others f = (n : ℕ) (c : Cell) → slice_get cells n ≡ Some c → Stands others f n c
