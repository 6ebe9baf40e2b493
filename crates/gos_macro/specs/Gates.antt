-- The gates of one part: its cells, by their place in a region, and the nets by which they are joined to others.
--
-- Read first: Firing; Settling of gos_netlist. At each handshake of a part something comes in, which is the request where
-- the part serves and the answer where it asks, and something goes out. Either is a pulse, and a value where it has bits.
use Rattle.std.specs.Prelude.{◌≡◌, ℕ, zero, suc, ◌+◌, ◌≤◌, Bool, List, [], ◌∷◌, nat_eq, if◌then◌else◌, Some, slice_get}
use Rattle.std.specs.List.{list_any}
use Rattle.gos_types.specs.declared.shakes.Role.{Role}
use Rattle.gos_types.specs.declared.shakes.Role.TheVariants.{Serve, Ask}
use Rattle.gos_netlist.specs.Nets.{Cell}
use Rattle.gos_netlist.specs.Settling.{Numbers, at, shown, next_of}
use Rattle.gos_plan.specs.Kinds.{Part, Contact, part_contacts}
use Rattle.gos_plan.specs.Firing.{Slot, Req, Ans, Token, put}
use Rattle.gos_plan.specs.Firings.{due, value_due}

-- the nets of the pulse and the value that come in at each handshake
pub record Incoming : Type 0 where
  pub pulse : ℕ → ℕ
  pub value : ℕ → ℕ

-- the nets of what goes out at a handshake: of a pulse alone, or of a pulse and a value
pub data Outgoing : Type 0 where
  Bare : (pulse : ℕ) → Outgoing
  Bearing : (pulse value : ℕ) → Outgoing

-- the bits of what comes in at a handshake, and of what goes out
abbrev pub bits_in : Role → Contact → ℕ
bits_in Serve c = c.ask_bits
bits_in Ask c = c.answer_bits

abbrev pub bits_out : Role → Contact → ℕ
bits_out Serve c = c.answer_bits
bits_out Ask c = c.ask_bits

abbrev pub incoming_bits : List Contact → ℕ → ℕ
incoming_bits [] h = 0
incoming_bits (c ∷ cs) zero = bits_in c.role c
incoming_bits (c ∷ cs) (suc h) = incoming_bits cs h

-- what comes in at a handshake: the request or the answer
abbrev pub slot_in : Role → ℕ → Slot
slot_in Serve h = Req h
slot_in Ask h = Ans h

-- From cell n of a region on, which begins at net b: v meets the equation of each cell, where `regs` are the registers of
-- this cycle, and `after` are those of the next one.
abbrev pub Settled : Numbers → Numbers → Numbers → ℕ → ℕ → List Cell → Type 0
Settled v regs after b n [] = Unit {0}
Settled v regs after b n (c ∷ cs) =
    (at v (b + n) ≡ shown c.width c.gate (at regs (b + n)) 0 (at v))
    × (at after (b + n) ≡ next_of c.gate v)
    × Settled v regs after b (suc n) cs

-- the pulse and the value that come in at a handshake; without bits the value is 0
abbrev pub pulse_in : Numbers → Incoming → ℕ → ℕ
pulse_in v i h = at v (i.pulse h)

abbrev pub value_in : Part → Numbers → Incoming → ℕ → ℕ
value_in k v i h = if nat_eq (incoming_bits (part_contacts k) h) 0 then 0 else at v (i.value h)

-- what comes in at each of these handshakes, from handshake h on
abbrev pub slots_of : (ℕ → Bool) → ℕ → List Contact → List Slot
slots_of these h [] = []
slots_of these h (c ∷ cs) = if these h then slot_in c.role h ∷ slots_of these (suc h) cs else slots_of these (suc h) cs

-- whether a number is one of these
abbrev pub is_among : List ℕ → ℕ → Bool
is_among numbers h = list_any (nat_eq h) numbers

-- the nets show so many pulses, and this value
abbrev pub NetsShow : Numbers → Outgoing → ℕ → ℕ → Type 0
NetsShow v (Bare p) n x = at v p ≡ n
NetsShow v (Bearing p a) n x = (at v p ≡ n) × (at v a ≡ x)

-- from handshake j on, the nets show these tokens: at most one each, and else 0
abbrev pub Shows : Numbers → ℕ → List Outgoing → List Token → Type 0
Shows v j [] ts = Unit {0}
Shows v j (o ∷ os) ts = (due j ts ≤ 1) × NetsShow v o (due j ts) (value_due j ts) × Shows v (suc j) os ts

-- at a handshake the nets show these tokens, if at most one is due there; where more are due, nothing is said
abbrev pub ShowOneAt : Numbers → List Outgoing → List Token → ℕ → Type 0
ShowOneAt v outs ts j = (o : Outgoing) → slice_get outs j ≡ Some o → due j ts ≤ 1 → NetsShow v o (due j ts) (value_due j ts)

-- at each handshake at which at most one of these tokens is due, the nets show it, and else 0
abbrev pub ShowOne : Numbers → List Outgoing → List Token → Type 0
ShowOne v outs ts = (j : ℕ) → ShowOneAt v outs ts j

-- as many tokens go out at each handshake, with the same value
abbrev pub SameTokens : List Token → List Token → Type 0
SameTokens ts us = (j : ℕ) → (due j ts ≡ due j us) × (value_due j ts ≡ value_due j us)

-- the token that a register of one bit holds: the request or answer at a handshake, without a value
abbrev pub held : Slot → ℕ → List Token
held s m = if nat_eq m 1 then put s 0 ∷ [] else []

-- nothing is held
abbrev pub nothing_pending : ℕ → Numbers → List Token
nothing_pending b regs = []
