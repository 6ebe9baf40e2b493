-- Functions and cells with other nets in the place of their own.
--
-- Read first: Nets, Seen.
use Rattle.std.specs.Prelude.{◌≡◌, ℕ, List}
use Rattle.std.specs.List.{AllByRecursion}
use Rattle.gos_netlist.specs.declared.nets.NetId.{NetId}
use Rattle.gos_netlist.specs.Nets.{Function, Input, Const, Not, And, Or, Xor, Mux, Add, Sub, Eq, Less, Gate, Reg, Cell}

-- the function with other nets in the place of its own
abbrev pub renamed : (ℕ → ℕ) → Function → Function
renamed f Input = Input
renamed f (Const k) = Const k
renamed f (Not a) = Not (f a)
renamed f (And a b) = And (f a) (f b)
renamed f (Or a b) = Or (f a) (f b)
renamed f (Xor a b) = Xor (f a) (f b)
renamed f (Mux s a b) = Mux (f s) (f a) (f b)
renamed f (Add a b) = Add (f a) (f b)
renamed f (Sub a b) = Sub (f a) (f b)
renamed f (Eq a b) = Eq (f a) (f b)
renamed f (Less a b) = Less (f a) (f b)
renamed f (Gate s a) = Gate (f s) (f a)
renamed f (Reg a) = Reg (f a)

-- the cell with such a function
abbrev pub with_renamed : (ℕ → ℕ) → Cell → Cell
with_renamed f c = record { width = c.width; gate = renamed f c.gate }

-- a call with the net may be made at each of these nets
abbrev pub TakesNets : (NetId → Type 0) → List ℕ → Type 0
TakesNets pre = AllByRecursion (λ n. pre (record { 0 = n }))

-- at each of these nets a call gives the net whose number f gives
abbrev pub GivesNets : (NetId → NetId → Type 0) → (ℕ → ℕ) → List ℕ → Type 0
GivesNets post f = AllByRecursion (λ n. (given : NetId) → post (record { 0 = n }) given → given.0 ≡ f n)
