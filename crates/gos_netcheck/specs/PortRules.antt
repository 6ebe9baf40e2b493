-- What the ports of an accepted netlist keep.
--
-- Read first: Nets and Events of gos_netlist; Rules. An input event comes in at Input cells, and an output event goes
-- out at registers, so a netlist's outputs in a cycle don't depend on the inputs of that cycle.
use Rattle.std.specs.Prelude.{◌≡◌, ◌≢◌, ℕ, zero, suc, ◌<◌, Bool, true, false, if◌then◌else◌, ◌⊎◌, List, [], ◌∷◌, ◌++◌, length, take, Option, Some, None, slice_get, Contains}
use Rattle.std.specs.List.{flat_map}
use Rattle.gos_types.specs.Types.{Type', IsGround, IsDone}
use Rattle.gos_netlist.specs.Nets.{Function, Input, Reg, Cell, Side, Give, Take, NetPort}
use Rattle.gos_netlist.specs.Events.{is_input}
use Rattle.gos_types.specs.Events.{Direction, Event, Is, events}
use Rattle.gos_netcheck.specs.declared.ports.Place.{Place}
use Rattle.gos_netcheck.specs.Rules.{KeptBefore, Kept, IsFirstToBreak}

-- a net of a port: whether it is an input, and its bits
abbrev pub place : Side → Direction → ℕ → Place
place side way w = record { input = is_input side way; width = w }

-- the nets of an event: its pulse, and its number behind it, where it has one
abbrev pub event_places : Side → Event → List Place
event_places side (Is way None) = place side way 1 ∷ []
event_places side (Is way (Some w)) = place side way 1 ∷ place side way w ∷ []

-- the nets of a port of this type, in the order of its events
abbrev pub places : Side → Type' → List Place
places side t = flat_map (event_places side) (events t)

-- an input is an Input cell, and an output is a register
abbrev pub IsEnd : Bool → Function → Type 0
IsEnd true g = g ≡ Input
IsEnd false g = (a : ℕ) × (g ≡ Reg a)

-- the net fits the place
abbrev pub Fits : List Cell → Place → ℕ → Type 0
Fits cells p n = (c : Cell) × (slice_get cells n ≡ Some c) × (c.width ≡ p.width) × IsEnd p.input c.gate

abbrev pub FitsAt : List Cell → Option Place → ℕ → Type 0
FitsAt cells None n = ⊥
FitsAt cells (Some p) n = Fits cells p n

-- there are as many nets as places, and each fits its place
abbrev pub AllFit : List Cell → List Place → List ℕ → Type 0
AllFit cells ps ns = (length ns ≡ length ps) × Kept (λ i n. FitsAt cells (slice_get ps i) n) ns

-- the nets that stand where inputs do
abbrev pub inputs_among : List Place → List ℕ → List ℕ
inputs_among [] ns = []
inputs_among (p ∷ ps) [] = []
inputs_among (p ∷ ps) (n ∷ ns) = (if p.input then n ∷ [] else []) ++ inputs_among ps ns

-- the inputs of a port, and of ports
abbrev pub inputs_of : NetPort → List ℕ
inputs_of p = inputs_among (places p.side p.ty) p.nets

abbrev pub all_inputs : List NetPort → List ℕ
all_inputs = flat_map inputs_of

-- none of these nets is among those before, and none stands twice
abbrev pub AreNew : List ℕ → List ℕ → Type 0
AreNew before ns = Kept (λ i n. Contains (before ++ take i ns) n → ⊥) ns

-- the first port gives a command or an expression, and each other one is taken
abbrev pub HasSide : ℕ → Side → Type' → Type 0
HasSide zero side ty = (side ≡ Give) × IsDone ty
HasSide (suc k) side ty = (side ≡ Take) × IsGround ty

-- What the port at place k keeps. No port before it has its name or an Input cell of its.
pub record IsRightPort (cells : List Cell) (ports : List NetPort) (k : ℕ) (p : NetPort) : Type 0 where
  pub side : HasSide k p.side p.ty
  pub name : KeptBefore (λ _ q. q.name ≢ p.name) ports k
  pub nets : AllFit cells (places p.side p.ty) p.nets
  pub inputs : AreNew (all_inputs (take k ports)) (inputs_of p)

-- an Input cell that stands in none of these nets
abbrev pub IsLoose : List Cell → List ℕ → ℕ → Type 0
IsLoose cells nets n = (c : Cell) × (slice_get cells n ≡ Some c) × (c.gate ≡ Input) × (Contains nets n → ⊥)

-- there is a port, each port is right, and each Input cell stands in one
pub record PortsFit (cells : List Cell) (ports : List NetPort) : Type 0 where
  pub some : 0 < length ports
  pub each : Kept (IsRightPort cells ports) ports
  pub inputs : (n : ℕ) → IsLoose cells (all_inputs ports) n → ⊥

-- all ports are right, but there is none, or some Input cell stands in none
pub record LacksPort (cells : List Cell) (ports : List NetPort) : Type 0 where
  pub each : Kept (IsRightPort cells ports) ports
  pub lacks : (length ports ≡ 0) ⊎ ((n : ℕ) × IsLoose cells (all_inputs ports) n)

-- the first port that is wrong, or their number where one is lacking
abbrev pub IsFirstWrongPort : List Cell → List NetPort → ℕ → Type 0
IsFirstWrongPort cells ports k = IsFirstToBreak (IsRightPort cells ports) ports k ⊎ ((k ≡ length ports) × LacksPort cells ports)
