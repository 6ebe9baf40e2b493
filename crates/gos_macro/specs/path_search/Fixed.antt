-- Gates at a fixed place: the cells are numbered from 0 on, the pulses that come in from 1000 on, and the values from 2000 on.
--
-- Read first: Gates and Paths. Gates that know nets by name alone are the same at every other place, but for
-- these numbers.
use Rattle.std.specs.Prelude.{◌≡◌, ℕ, ◌+◌, ◌-◌, List, map, nat_lt, if◌then◌else◌}
use Rattle.gos_netlist.specs.Nets.{Cell}
use Rattle.gos_macro.specs.Gates.{Incoming, Outgoing, Bare, Bearing}
use Rattle.gos_macro.specs.Paths.{with_renamed}

-- the nets that come in there
abbrev pub fixed : Incoming
fixed = record { pulse = λ h. 1000 + h; value = λ h. 2000 + h }

-- the net that stands for a number, where the cells begin at net b and these nets come in
abbrev pub placed : ℕ → Incoming → ℕ → ℕ
placed b i n = if nat_lt n 1000 then b + n else (if nat_lt n 2000 then i.pulse (n - 1000) else i.value (n - 2000))

abbrev pub placed_out : ℕ → Outgoing → Outgoing
placed_out b (Bare p) = Bare (b + p)
placed_out b (Bearing p a) = Bearing (b + p) (b + a)

-- the cells and the outgoing nets of gates at that place
abbrev pub placed_cells : ℕ → Incoming → List Cell → List Cell
placed_cells b i = map (with_renamed (placed b i))

abbrev pub placed_outs : ℕ → List Outgoing → List Outgoing
placed_outs b = map (placed_out b)

-- gates that are the same at every place as at the fixed one, but for the numbers of nets
abbrev pub AreNamed : (ℕ → Incoming → List Cell) → Type 0
AreNamed cells = (b : ℕ) (i : Incoming) → cells b i ≡ placed_cells b i (cells 0 fixed)

abbrev pub OutsAreNamed : (ℕ → List Outgoing) → Type 0
OutsAreNamed outs = (b : ℕ) → outs b ≡ placed_outs b (outs 0)
