-- Paths through the gates of a part that meet no register.
--
-- Read first: Gates, Fit; Cycles and Renamed of gos_netlist. Along such a path what comes in at one handshake goes out at another in
-- the same cycle. The law of gates says when a part does so by its rows; this says which nets could do it.
use Rattle.std.specs.Prelude.{◌≡◌, ◌≢◌, ℕ, ◌+◌, ◌<◌, ◌≤◌, ◌⊎◌, Bool, true, false, List, [], ◌∷◌, length, map, nat_eq, ◌&&◌, Option, None, Some, slice_get, Contains}
use Rattle.std.specs.List.{list_any}
use Rattle.gos_netlist.specs.Nets.{Cell, pins}
pub use Rattle.gos_netlist.specs.Renamed.{renamed, with_renamed}
use Rattle.gos_netlist.specs.Cycles.{IsRegister}
use Rattle.gos_plan.specs.Kinds.{Part, Contact, part_contacts}
use Rattle.gos_plan.specs.Firing.{State, Slot, Row, firing}
use Rattle.gos_plan.specs.Firings.{due}
use Rattle.gos_plan.specs.Tokens.{shake_of}
use Rattle.gos_macro.specs.Gates.{Incoming, Outgoing, Bare, Bearing, incoming_bits, is_among}

-- net m is a pin of the part's cell that drives net n, and this cell is no register
abbrev pub Drives : ℕ → List Cell → ℕ → ℕ → Type 0
Drives b cells m n = (k : ℕ) × (c : Cell) × (n ≡ b + k) × (slice_get cells k ≡ Some c) × (IsRegister c.gate → ⊥) × Contains (pins c.gate) m

-- a path leads from net m by these nets to net z, and no cell on it is a register
abbrev pub Path : ℕ → List Cell → ℕ → List ℕ → ℕ → Type 0
Path b cells m [] z = Drives b cells m z
Path b cells m (n ∷ ns) z = Drives b cells m n × Path b cells n ns z

-- the net comes in at a handshake, as its pulse or as its value
abbrev pub IsIn : List Contact → Incoming → ℕ → ℕ → Type 0
IsIn contacts i h net = (net ≡ i.pulse h) ⊎ ((0 < incoming_bits contacts h) × (net ≡ i.value h))

-- the net goes out, as a pulse or as a value
abbrev pub IsOut : Option Outgoing → ℕ → Type 0
IsOut None net = ⊥
IsOut (Some (Bare p)) net = net ≡ p
IsOut (Some (Bearing p a)) net = (net ≡ p) ⊎ (net ≡ a)

-- the net is the pulse that goes out
abbrev pub IsPulseOut : Option Outgoing → ℕ → Type 0
IsPulseOut None net = ⊥
IsPulseOut (Some (Bare p)) net = net ≡ p
IsPulseOut (Some (Bearing p a)) net = net ≡ p

-- The nets that come in are all different, and lie outside a region of so many cells that begins at b.
pub record AreApart (contacts : List Contact) (b size : ℕ) (i : Incoming) : Type 0 where
  pub shakes : (h j net : ℕ) → h < length contacts → j < length contacts → IsIn contacts i h net → IsIn contacts i j net → h ≡ j
  pub sorts : (h : ℕ) → h < length contacts → 0 < incoming_bits contacts h → i.pulse h ≢ i.value h
  pub outside : (h net : ℕ) → h < length contacts → IsIn contacts i h net → (net < b) ⊎ (b + size ≤ net)

-- a path leads from a net that comes in at one handshake to one that goes out at another
abbrev pub LeadsOn : List Contact → ℕ → Incoming → List Cell → List Outgoing → ℕ → ℕ → Type 0
LeadsOn contacts b i cells outs from to =
    (m : ℕ) × (z : ℕ) × (ns : List ℕ) × IsIn contacts i from m × IsOut (slice_get outs to) z × Path b cells m ns z

-- a path leads from the pulse that comes in to the pulse that goes out
abbrev pub PulseLeadsOn : ℕ → Incoming → List Cell → List Outgoing → ℕ → ℕ → Type 0
PulseLeadsOn b i cells outs from to = (z : ℕ) × (ns : List ℕ) × IsPulseOut (slice_get outs to) z × Path b cells (i.pulse from) ns z

-- Whether such a path leads from one handshake to another, wherever the cells begin and whichever nets come in, where these
-- are all different.
abbrev pub TellsIfItPasses : Part → (ℕ → Incoming → List Cell) → (ℕ → List Outgoing) → ℕ → ℕ → Bool → Type 0
TellsIfItPasses k cells outs from to answer =
    (b : ℕ) (i : Incoming) → AreApart (part_contacts k) b (length (cells b i)) i
    → (answer ≡ true → LeadsOn (part_contacts k) b i (cells b i) (outs b) from to)
    × (LeadsOn (part_contacts k) b i (cells b i) (outs b) from to → answer ≡ true)

-- A renaming of nets takes those of a region of so many cells to their places in another region, and those that come in to
-- others that come in.
pub record Renames (contacts : List Contact) (size : ℕ) (f : ℕ → ℕ) (b d : ℕ) (i j : Incoming) : Type 0 where
  pub own : (n : ℕ) → n < size → f (b + n) ≡ d + n
  pub pulse : (h : ℕ) → h < length contacts → f (i.pulse h) ≡ j.pulse h
  pub value : (h : ℕ) → h < length contacts → 0 < incoming_bits contacts h → f (i.value h) ≡ j.value h

-- whether these two stand among pairs
abbrev pub is_pair : List (ℕ × ℕ) → ℕ → ℕ → Bool
is_pair pairs from to = list_any (λ x. nat_eq x.0 from && nat_eq x.1 to) pairs

-- What a part puts by a token that isn't late, it puts where a path leads.
abbrev pub PutsPass : Part → List ℕ → (ℕ → ℕ → Bool) → Type 0
PutsPass k late passing =
    (q : State) (s : Slot) (w : Row) (x j : ℕ) → firing k q s ≡ Some w → shake_of s < length (part_contacts k)
    → is_among late (shake_of s) ≡ false → j < length (part_contacts k) → 0 < due j (w.puts x) → passing (shake_of s) j ≡ true

-- What the gates of a part keep as to paths. A path leads from one handshake to another exactly where `passing` says so, and
-- then one leads from pulse to pulse. What comes in late goes out nowhere in the same cycle. What the part puts by a token
-- that isn't late, it puts where a path leads. And the gates depend on their place and on the nets that come in by name alone.
pub record KeepPaths (k : Part) (cells : ℕ → Incoming → List Cell) (outs : ℕ → List Outgoing) (late : List ℕ)
    (passing : ℕ → ℕ → Bool) : Type 0 where
  pub exact :
      (from to : ℕ) → from < length (part_contacts k) → to < length (part_contacts k) → TellsIfItPasses k cells outs from to (passing from to)
  pub pulses :
      (b : ℕ) (i : Incoming) (from to : ℕ) → AreApart (part_contacts k) b (length (cells b i)) i
      → from < length (part_contacts k) → to < length (part_contacts k) → passing from to ≡ true
      → PulseLeadsOn b i (cells b i) (outs b) from to
  pub waits :
      (from to : ℕ) → from < length (part_contacts k) → to < length (part_contacts k) → is_among late from ≡ true → passing from to ≡ false
  pub puts : PutsPass k late passing
  pub named :
      (f : ℕ → ℕ) (b d : ℕ) (i j : Incoming) → Renames (part_contacts k) (length (cells b i)) f b d i j
      → cells d j ≡ map (with_renamed f) (cells b i)
