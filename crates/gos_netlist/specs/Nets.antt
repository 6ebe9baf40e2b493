-- Netlists.
--
-- Read first: Types of gos_types. A net is the number of the cell that drives it, so a netlist is the list of its cells
-- and its ports. Says nothing of which netlists are accepted: pins may name nets that aren't there.
use Rattle.std.specs.Prelude.{ℕ, List, [], ◌∷◌}
use Rattle.gos_types.specs.Types.{Type'}

-- What a cell shows, from the nets that it names. `Mux s a b` is a where s is 1, else b; `Gate s a` is a where s is 1,
-- else 0; `Reg a` is what a was in the cycle before, and 0 in the first one.
pub data Function : Type 0 where
  Input : Function
  Const : (k : ℕ) → Function
  Not : (a : ℕ) → Function
  And Or Xor : (a b : ℕ) → Function
  Mux : (s a b : ℕ) → Function
  Add Sub Eq Less : (a b : ℕ) → Function
  Gate : (s a : ℕ) → Function
  Reg : (a : ℕ) → Function

-- a cell: the bits of the net that it drives, and its function
pub record Cell : Type 0 where
  pub width : ℕ
  pub gate : Function

-- the nets that a function names, in written order
abbrev pub pins : Function → List ℕ
pins Input = []
pins (Const k) = []
pins (Not a) = a ∷ []
pins (And a b) = a ∷ b ∷ []
pins (Or a b) = a ∷ b ∷ []
pins (Xor a b) = a ∷ b ∷ []
pins (Mux s a b) = s ∷ a ∷ b ∷ []
pins (Add a b) = a ∷ b ∷ []
pins (Sub a b) = a ∷ b ∷ []
pins (Eq a b) = a ∷ b ∷ []
pins (Less a b) = a ∷ b ∷ []
pins (Gate s a) = s ∷ a ∷ []
pins (Reg a) = a ∷ []

-- whether the circuit gives a port or takes it
pub data Side : Type 0 where
  Give Take : Side

-- A port, with the bytes of its name. Its nets are a pulse for each event, and behind it the number of an event that has bits.
pub record NetPort : Type 0 where
  pub name : List ℕ
  pub side : Side
  pub ty : Type'
  pub nets : List ℕ

-- a circuit: a cell's place in the list is its net's number
pub record Netlist : Type 0 where
  pub cells : List Cell
  pub ports : List NetPort
