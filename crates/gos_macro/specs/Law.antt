-- The law of the gates of one part: in each cycle they do what the part does by its rows.
--
-- Read first: Firing, Gates. It speaks of one part alone, whatever netlist stands round it: of the nets that come in it
-- asks no more than that a pulse is 0 or 1, that a value has its bits, and that the part can fire by them. There are two
-- laws. The law asked of all gates (`LawInOrder`) is for firings in one order, and shows a token where at most one is due. The
-- stronger one (`GatesLaw`) is for firings in any order, and shows at all handshakes that at most one is due; from it the
-- other follows.
use Rattle.std.specs.Prelude.{◌≡◌, ℕ, zero, suc, ◌^◌, ◌<◌, ◌≤◌, Bool, not, ◌&&◌, List, [], ◌∷◌, ◌++◌, length, nat_eq, if◌then◌else◌}
use Rattle.gos_netlist.specs.Nets.{Cell}
use Rattle.gos_netlist.specs.Settling.{Numbers, at}
use Rattle.gos_plan.specs.Kinds.{Part, Contact, part_contacts}
use Rattle.gos_plan.specs.Firing.{Rest, State, Slot, Token, same_slot, at as at_phase}
use Rattle.gos_plan.specs.Tokens.{shake_of}
use Rattle.gos_macro.specs.Gates.{Incoming, Outgoing, Bare, Bearing, incoming_bits, Settled, pulse_in, value_in, slots_of, is_among, Shows, ShowOne, SameTokens}
use Rattle.gos_plan.specs.Firings.{Asked, Fires, times}

-- the pulse of a slot among these
abbrev pub pulse_at : (ℕ → ℕ) → Slot → List Slot → ℕ
pulse_at p s [] = 0
pulse_at p s (t ∷ ts) = if same_slot t s then p (shake_of t) else pulse_at p s ts

-- the list has exactly those of these slots that have a pulse, each once, in some order
abbrev pub Exactly : (ℕ → ℕ) → List Slot → List Slot → Type 0
Exactly p slots fs = (s : Slot) → times s fs ≡ pulse_at p s slots

-- those of these slots that have a pulse, in this order
abbrev pub pulsed : (ℕ → ℕ) → List Slot → List Slot
pulsed p [] = []
pulsed p (s ∷ ss) = if nat_eq (p (shake_of s)) 1 then s ∷ pulsed p ss else pulsed p ss

-- what comes in late, that is at these handshakes, in their order; and what doesn't
abbrev pub late_slots : Part → List ℕ → List Slot
late_slots k late = slots_of (is_among late) 0 (part_contacts k)

abbrev pub early_slots : Part → List ℕ → List Slot
early_slots k late = slots_of (λ h. not (is_among late h)) 0 (part_contacts k)

-- The firings of a cycle: those by the pulses that are not late, in some order, from q to a state between, put ts; and then
-- those by the late pulses, by the numbers of their handshakes, from there to s, put us.
pub record Fired (k : Part) (late : List ℕ) (v : Numbers) (i : Incoming) (q s : State) (ts us : List Token) : Type 0 where
  pub before : Asked
  pub between : Asked
  pub behind : Asked
  pub state : State
  pub list : List Slot
  pub exactly : Exactly (pulse_in v i) (early_slots k late) list
  pub sooner : Fires k (value_in k v i) before q list between state ts
  pub later : Fires k (value_in k v i) between state (pulsed (pulse_in v i) (late_slots k late)) behind s us

-- the order of a part's handshakes: their ranks, which in a netlist are those of the part's ends
abbrev pub Order : Type 0
Order = ℕ → ℕ

-- what comes in at those of these handshakes whose ranks are below r, by their ranks, and where two are equal by their numbers
abbrev pub in_order : Order → ℕ → (ℕ → Bool) → List Contact → List Slot
in_order rank zero these cs = []
in_order rank (suc r) these cs = in_order rank r these cs ++ slots_of (λ h. these h && nat_eq (rank h) r) 0 cs

-- a number above the ranks of all handshakes of the part
abbrev pub IsAbove : Part → Order → ℕ → Type 0
IsAbove k rank top = (h : ℕ) → h < length (part_contacts k) → rank h < top

-- what doesn't come in late, in this order
abbrev pub early_in_order : Part → List ℕ → Order → ℕ → List Slot
early_in_order k late rank top = in_order rank top (λ h. not (is_among late h)) (part_contacts k)

-- The firings of a cycle in an order: those by the pulses that are not late, in this order, from q to a state between, put ts;
-- and then those by the late pulses, by the numbers of their handshakes, from there to s, put us.
pub record FiredInOrder (k : Part) (late : List ℕ) (rank : Order) (v : Numbers) (i : Incoming) (q s : State) (ts us : List Token) : Type 0 where
  pub before : Asked
  pub between : Asked
  pub behind : Asked
  pub state : State
  pub top : ℕ
  pub above : IsAbove k rank top
  pub sooner : Fires k (value_in k v i) before q (pulsed (pulse_in v i) (early_in_order k late rank top)) between state ts
  pub later : Fires k (value_in k v i) between state (pulsed (pulse_in v i) (late_slots k late)) behind s us

-- what comes in at each handshake of the part is a pulse or none
abbrev pub PulsesComeIn : Part → Numbers → Incoming → Type 0
PulsesComeIn k v i = (h : ℕ) → h < length (part_contacts k) → pulse_in v i h ≤ 1

-- The law for firings in any order. `cells` are the gates that begin at net b, joined to these nets; `outs` the nets that go out; `late` the
-- handshakes at which what comes in is late; `pending` the tokens that registers hold, to be put out in this cycle; and
-- `stands` says which state registers stand for. Then, where the registers stand for a state from which the part fires so:
-- the nets that go out show what was pending and what the early firings put; what is pending next is what the late ones
-- put; and the next registers stand for the state that is reached.
abbrev pub GatesLaw : Part → (ℕ → Incoming → List Cell) → (ℕ → List Outgoing) → List ℕ → (ℕ → Numbers → List Token) → (ℕ → Numbers → State → Type 0) → Type 0
GatesLaw k cells outs late pending stands =
    (b : ℕ) (i : Incoming) (v regs after : Numbers) (q s : State) (ts us : List Token)
    → Settled v regs after b 0 (cells b i)
    → PulsesComeIn k v i
    → ((h : ℕ) → value_in k v i h < 2 ^ incoming_bits (part_contacts k) h)
    → stands b regs q
    → Fired k late v i q s ts us
    → Shows v 0 (outs b) (pending b regs ++ ts) × SameTokens (pending b after) us × stands b after s

-- The law for firings in one order. It differs from the other in this order, and in what the nets show: nothing is said of a
-- handshake at which two tokens are due. All else is: what goes out at the other handshakes, what is pending next, and for
-- which state the next registers stand.
abbrev pub LawInOrder : Part → (ℕ → Incoming → List Cell) → (ℕ → List Outgoing) → List ℕ → (ℕ → Numbers → List Token)
    → (ℕ → Numbers → State → Type 0) → Order → Type 0
LawInOrder k cells outs late pending stands rank =
    (b : ℕ) (i : Incoming) (v regs after : Numbers) (q s : State) (ts us : List Token)
    → Settled v regs after b 0 (cells b i)
    → PulsesComeIn k v i
    → ((h : ℕ) → value_in k v i h < 2 ^ incoming_bits (part_contacts k) h)
    → stands b regs q
    → FiredInOrder k late rank v i q s ts us
    → ShowOne v (outs b) (pending b regs ++ ts) × SameTokens (pending b after) us × stands b after s

-- registers that are all 0 stand for a part at rest, and nothing is pending
abbrev pub RestsAtZero : (ℕ → Numbers → List Token) → (ℕ → Numbers → State → Type 0) → Type 0
RestsAtZero pending stands = (b : ℕ) (regs : Numbers) → ((n : ℕ) → at regs n ≡ 0) → stands b regs (at_phase Rest 0) × (pending b regs ≡ [])

-- each number that goes out is 0 where its pulse is
abbrev pub AreSilent : Numbers → List Outgoing → Type 0
AreSilent v [] = Unit {0}
AreSilent v (Bare p ∷ os) = AreSilent v os
AreSilent v (Bearing p a ∷ os) = (at v p ≡ 0 → at v a ≡ 0) × AreSilent v os

-- No number goes out without its pulse, whatever numbers come in, whatever the registers are, and whether or not the part
-- fires by its rows.
abbrev pub StaySilent : Part → (ℕ → Incoming → List Cell) → (ℕ → List Outgoing) → Type 0
StaySilent k cells outs =
    (b : ℕ) (i : Incoming) (v regs after : Numbers)
    → Settled v regs after b 0 (cells b i) → PulsesComeIn k v i → AreSilent v (outs b)
