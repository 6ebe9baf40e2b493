-- The gates of a part fit into a netlist: their pins are there, their widths are right, and they make no ring.
--
-- Read first: Gates; CellRules of gos_netcheck. Rings through several parts are another matter: registers at joints cut them.
use Rattle.std.specs.Prelude.{◌≡◌, ◌≢◌, ℕ, suc, ◌+◌, ◌<◌, ◌⊎◌, List, [], ◌∷◌, length, Some, slice_get}
use Rattle.std.specs.List.{AllByRecursion}
use Rattle.gos_netlist.specs.Nets.{Function, Input, Reg, Cell, pins}
use Rattle.gos_netlist.specs.Cycles.{IsRegister}
use Rattle.gos_netcheck.specs.CellRules.{width_at, HasRightWidths}
use Rattle.gos_plan.specs.Kinds.{Part, Contact, part_contacts}
use Rattle.gos_macro.specs.Gates.{Incoming, Outgoing, Bare, Bearing, incoming_bits, bits_out}

-- the net is that of one of the part's cells, which has so many bits
abbrev pub IsOwn : ℕ → List Cell → ℕ → ℕ → Type 0
IsOwn b cells net bits = (k : ℕ) × (c : Cell) × (net ≡ b + k) × (slice_get cells k ≡ Some c) × (c.width ≡ bits)

-- what goes out at a handshake are nets of the part's own: a pulse, and a value where it has bits
abbrev pub GoesOut : ℕ → List Cell → Contact → Outgoing → Type 0
GoesOut b cells c (Bare p) = (bits_out c.role c ≡ 0) × IsOwn b cells p 1
GoesOut b cells c (Bearing p a) = (0 < bits_out c.role c) × IsOwn b cells p 1 × IsOwn b cells a (bits_out c.role c)

-- the same at each handshake
abbrev pub AllGoOut : ℕ → List Cell → List Contact → List Outgoing → Type 0
AllGoOut b cells [] [] = Unit {0}
AllGoOut b cells [] (o ∷ os) = ⊥
AllGoOut b cells (c ∷ cs) [] = ⊥
AllGoOut b cells (c ∷ cs) (o ∷ os) = GoesOut b cells c o × AllGoOut b cells cs os

-- the net comes in at one of these handshakes, as its pulse or as its value
abbrev pub ComesIn : List Contact → Incoming → ℕ → Type 0
ComesIn contacts i net =
    (h : ℕ) × (h < length contacts) × ((net ≡ i.pulse h) ⊎ ((0 < incoming_bits contacts h) × (net ≡ i.value h)))

-- the net comes in, or is that of one of the part's own cells: of the first n, or of a register
abbrev pub IsKnown : List Contact → Incoming → ℕ → List Cell → ℕ → ℕ → Type 0
IsKnown contacts i b cells n net =
    ComesIn contacts i net
    ⊎ ((k : ℕ) × (c : Cell) × (net ≡ b + k) × (slice_get cells k ≡ Some c) × ((k < n) ⊎ IsRegister c.gate))

-- how many of the part's cells a cell at place n may name besides registers: all where it is one itself, else those before it
abbrev pub reach_of : Function → ℕ → ℕ → ℕ
reach_of (Reg a) n size = size
reach_of f n size = n

-- From place n on, each cell names what comes in and the part's own cells, and no gate names a later gate. So there is no
-- ring of gates within the part.
abbrev pub NameEarlier : List Contact → Incoming → ℕ → List Cell → ℕ → List Cell → Type 0
NameEarlier contacts i b cells n [] = Unit {0}
NameEarlier contacts i b cells n (c ∷ cs) =
    AllByRecursion (IsKnown contacts i b cells (reach_of c.gate n (length cells))) (pins c.gate) × NameEarlier contacts i b cells (suc n) cs

-- cells that are no inputs of the netlist
abbrev pub HasNoInput : List Cell → Type 0
HasNoInput [] = Unit {0}
HasNoInput (c ∷ cs) = (c.gate ≢ Input) × HasNoInput cs

-- the nets that come in have the bits of their handshakes
abbrev pub BitsComeIn : List Contact → Incoming → List ℕ → Type 0
BitsComeIn contacts i widths =
    (h : ℕ) → h < length contacts
    → (width_at widths (i.pulse h) ≡ 1) × (0 < incoming_bits contacts h → width_at widths (i.value h) ≡ incoming_bits contacts h)

-- from place n on, the nets of the part's cells have the bits of these
abbrev pub HaveBits : List ℕ → ℕ → ℕ → List Cell → Type 0
HaveBits widths b n [] = Unit {0}
HaveBits widths b n (c ∷ cs) = (width_at widths (b + n) ≡ c.width) × HaveBits widths b (suc n) cs

-- the gates of a part fit into each netlist that gives it nets with the bits of its handshakes
pub record GatesFit (k : Part) (cells : ℕ → Incoming → List Cell) (outs : ℕ → List Outgoing) : Type 0 where
  pub outgoing : (b : ℕ) (i : Incoming) → AllGoOut b (cells b i) (part_contacts k) (outs b)
  pub inner : (b : ℕ) (i : Incoming) → HasNoInput (cells b i)
  pub order : (b : ℕ) (i : Incoming) → NameEarlier (part_contacts k) i b (cells b i) 0 (cells b i)
  pub widths :
      (b : ℕ) (i : Incoming) (bits : List ℕ)
      → BitsComeIn (part_contacts k) i bits → HaveBits bits b 0 (cells b i) → AllByRecursion (HasRightWidths bits) (cells b i)
