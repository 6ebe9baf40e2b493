-- Causality: what the gates of a part show at a handshake is fixed by what comes in at those that pass on to it.
--
-- Read first: Law, Paths and Kept. Within one cycle a part may put a token by which, through other parts, it
-- fires once more. The law of gates speaks of all its firings in the cycle at once. These laws speak of some of them: what
-- these put at a handshake stands already, whatever the part fires by later in the cycle.
use Rattle.std.specs.Prelude.{◌≡◌, ℕ, ◌^◌, ◌<◌, ◌≤◌, Bool, true, false, List, ◌++◌, length, if◌then◌else◌}
use Rattle.gos_netlist.specs.Nets.{Cell}
use Rattle.gos_netlist.specs.Settling.{Numbers}
use Rattle.gos_plan.specs.Kinds.{Part, part_contacts}
use Rattle.gos_plan.specs.Firing.{State, Token}
use Rattle.gos_macro.specs.Gates.{Incoming, Outgoing, incoming_bits, Settled, pulse_in, value_in, is_among, ShowOneAt, ShowOne}
use Rattle.gos_plan.specs.Firings.{Asked, Fires}
use Rattle.gos_macro.specs.Law.{pulsed, Order, IsAbove, early_in_order, FiredInOrder, PulsesComeIn}
use Rattle.gos_macro.specs.Fit.{GatesFit}
use Rattle.gos_macro.specs.Paths.{KeepPaths}

-- a set of handshakes
abbrev pub Set : Type 0
Set = ℕ → Bool

-- the pulses that come in at handshakes of a set
abbrev pub pulses_of : Set → (ℕ → ℕ) → ℕ → ℕ
pulses_of inside p h = if inside h then p h else 0

-- Some firings of a cycle: those by the pulses that come in at handshakes of a set and are not late, in this order, from q
-- to s. They put ts.
pub record PartlyFired (k : Part) (late : List ℕ) (rank : Order) (v : Numbers) (i : Incoming) (inside : Set) (q s : State) (ts : List Token) : Type 0 where
  pub before : Asked
  pub behind : Asked
  pub top : ℕ
  pub above : IsAbove k rank top
  pub fires : Fires k (value_in k v i) before q (pulsed (pulses_of inside (pulse_in v i)) (early_in_order k late rank top)) behind s ts

-- a set of all handshakes
abbrev pub all : Set
all h = true

-- what is asked of a set of handshakes, and of another handshake
abbrev pub Demand : Type 1
Demand = Part → (ℕ → ℕ → Bool) → Set → ℕ → Type 0

-- Each handshake that passes on to this one is in the set. One at which nothing comes in can be counted among them, since
-- the firings by the set stay the same.
abbrev pub HearsAll : Demand
HearsAll k passing inside to = (from : ℕ) → from < length (part_contacts k) → passing from to ≡ true → inside from ≡ true

-- What comes in at the handshakes of a set that are not late is in range. Nothing is asked of the others: along a chain of
-- firings in one cycle it isn't known yet what comes in there.
abbrev pub ComeInRange : Part → List ℕ → Numbers → Incoming → Set → Type 0
ComeInRange k late v i inside =
    (h : ℕ) → h < length (part_contacts k) → inside h ≡ true → is_among late h ≡ false
    → (pulse_in v i h ≤ 1) × (value_in k v i h < 2 ^ incoming_bits (part_contacts k) h)

-- The gates follow the rows of the part from these registers on, which stand for q: whatever comes in in this cycle, they
-- show what was pending and what the early firings put in this order. By the law of gates they do so where the registers stand
-- for q.
abbrev pub FollowRows : Part → (ℕ → Incoming → List Cell) → (ℕ → List Outgoing) → List ℕ → Order → ℕ → Numbers → State → List Token
    → Type 0
FollowRows k cells outs late rank b regs q pending =
    (i : Incoming) (v after : Numbers) (s : State) (ts us : List Token)
    → Settled v regs after b 0 (cells b i)
    → PulsesComeIn k v i
    → ((h : ℕ) → value_in k v i h < 2 ^ incoming_bits (part_contacts k) h)
    → FiredInOrder k late rank v i q s ts us
    → ShowOne v (outs b) (pending ++ ts)

-- The gates show at a handshake what was pending and what the firings by the pulses of a set put, if the demand is met.
abbrev pub ShowPartly : Demand → Part → (ℕ → Incoming → List Cell) → (ℕ → List Outgoing) → List ℕ → Order → (ℕ → ℕ → Bool) → ℕ → Numbers
    → State → List Token → Type 0
ShowPartly demand k cells outs late rank passing b regs q pending =
    (i : Incoming) (v after : Numbers) (inside : Set) (s : State) (ts : List Token)
    → Settled v regs after b 0 (cells b i)
    → ComeInRange k late v i inside
    → PartlyFired k late rank v i inside q s ts
    → (to : ℕ) → demand k passing inside to
    → ShowOneAt v (outs b) (pending ++ ts) to

abbrev pub CausalUnder : Demand → Type 0
CausalUnder demand =
    (k : Part) (cells : ℕ → Incoming → List Cell) (outs : ℕ → List Outgoing) (late : List ℕ) (rank : Order) (passing : ℕ → ℕ → Bool)
    → GatesFit k cells outs → KeepPaths k cells outs late passing
    → (b : ℕ) (regs : Numbers) (q : State) (pending : List Token)
    → FollowRows k cells outs late rank b regs q pending
    → ShowPartly demand k cells outs late rank passing b regs q pending

-- The law: gates that follow the rows of their part show at a handshake what some firings put there, where it hears all that
-- passes on to it by these firings, and where at most one token is due there. The premise is on the gates in one cycle, since a
-- clause can't range over all relations between registers and states; gates that keep the law of gates meet it.
abbrev pub CausalLaw : Type 0
CausalLaw = CausalUnder HearsAll

-- The gates show at all handshakes what was pending and what the early firings of the cycle put, whatever comes in late, and
-- whether or not the part can fire by it.
abbrev pub ShowEarly : Part → (ℕ → Incoming → List Cell) → (ℕ → List Outgoing) → List ℕ → Order → ℕ → Numbers → State → List Token → Type 0
ShowEarly k cells outs late rank b regs q pending =
    (i : Incoming) (v after : Numbers) (s : State) (ts : List Token)
    → Settled v regs after b 0 (cells b i)
    → ComeInRange k late v i all
    → PartlyFired k late rank v i all q s ts
    → ShowOne v (outs b) (pending ++ ts)

-- So what comes in late is seen at no handshake in this cycle.
abbrev pub LateIsUnseen : Type 0
LateIsUnseen =
    (k : Part) (cells : ℕ → Incoming → List Cell) (outs : ℕ → List Outgoing) (late : List ℕ) (rank : Order) (passing : ℕ → ℕ → Bool)
    → GatesFit k cells outs → KeepPaths k cells outs late passing
    → (b : ℕ) (regs : Numbers) (q : State) (pending : List Token)
    → FollowRows k cells outs late rank b regs q pending
    → ShowEarly k cells outs late rank b regs q pending

-- Gates are causal in an order wherever their registers stand for a state. Those that keep the laws in this order are.
pub record AreCausal (k : Part) (cells : ℕ → Incoming → List Cell) (outs : ℕ → List Outgoing) (late : List ℕ)
    (pending : ℕ → Numbers → List Token) (stands : ℕ → Numbers → State → Type 0) (rank : Order) (passing : ℕ → ℕ → Bool) : Type 0 where
  pub partly :
      (b : ℕ) (regs : Numbers) (q : State) → stands b regs q
      → ShowPartly HearsAll k cells outs late rank passing b regs q (pending b regs)
  pub early : (b : ℕ) (regs : Numbers) (q : State) → stands b regs q → ShowEarly k cells outs late rank b regs q (pending b regs)
