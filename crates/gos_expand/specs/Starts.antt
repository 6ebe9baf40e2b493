-- Where the blocks of a plan's netlist begin.
--
-- Read first: Plans of gos_plan; Blocks, Gates. There is a block for each port, each joint, each end that stands in
-- no joint, and each part, in this order.
use Rattle.std.specs.Prelude.{ℕ, suc, ◌+◌, Bool, true, List, [], ◌∷◌, ◌++◌, Option, Some, None, take, filter, get_or, if◌then◌else◌}
use Rattle.gos_netlist.specs.Nets.{Side, Give, Take}
use Rattle.gos_types.specs.Events.{Direction, Request, Answer}
use Rattle.gos_plan.specs.Kinds.{Part, Contact, contacts_of, part_contacts}
use Rattle.gos_model.specs.Typing.{Imported}
use Rattle.gos_plan.specs.Plans.{End, PartEnd, ImportEnd, ResultEnd, Joint, Plan, contact_at, same_end, is_free}
use Rattle.gos_plan.specs.Tokens.{bits_of, way_taken}
use Rattle.gos_expand.specs.Blocks.{token_size, total}
use Rattle.gos_expand.specs.Gates.{Making, ForEach, part_size}

-- whether joint x has registers in a direction
abbrev pub Keep : Type 0
Keep = ℕ → Direction → Bool

abbrev pub keep_all : Keep
keep_all x way = true

-- the place of a direction among all: of each joint in turn the request and then the answer
abbrev pub place_of : ℕ → Direction → ℕ
place_of x Request = x + x
place_of x Answer = suc (x + x)

-- the choice of these truth values, in this order; what has none is kept
abbrev pub chosen : List Bool → Keep
chosen keeps x way = get_or keeps (place_of x way) true

-- How a plan is laid out: which directions of joints keep their registers, and for which order the gates of each part are made.
pub record Laying : Type 0 where
  pub keep : Keep
  pub making : ℕ → Making

-- with gates that are made for no order
abbrev pub plain : Keep → Laying
plain keep = record { keep = keep; making = λ i. ForEach }

-- a port of the circuit: its handshakes, as the holder of a term of its type sees them, and the plan's ends there
pub record Outer : Type 0 where
  pub side : Side
  pub contacts : List Contact
  pub end_at : ℕ → End

abbrev pub taken_ports : ℕ → List Imported → List Outer
taken_ports n [] = []
taken_ports n (i ∷ is) = record { side = Take; contacts = contacts_of i.ty; end_at = ImportEnd n } ∷ taken_ports (suc n) is

-- the port of the result, and those of the imports
abbrev pub ports_of : Plan → List Outer
ports_of p = record { side = Give; contacts = contacts_of p.outcome; end_at = ResultEnd } ∷ taken_ports 0 p.imports

-- how many cells the request and the answer of a handshake have
abbrev pub shake_size : ℕ → Contact → ℕ
shake_size h c = token_size c.ask_bits + token_size c.answer_bits

abbrev pub port_size : ℕ → Outer → ℕ
port_size k o = total shake_size 0 o.contacts

-- the bits of what passes an end in a direction; 0 where there is no such end
abbrev pub bits_if : Option Contact → Direction → ℕ
bits_if None way = 0
bits_if (Some c) way = bits_of c way

abbrev pub kept_size : Bool → ℕ → ℕ
kept_size kept w = if kept then token_size w else 0

-- how many registers a direction of a joint has, and a joint
abbrev pub way_size : Laying → Plan → ℕ → Joint → Direction → ℕ
way_size lay p x j way = kept_size (lay.keep x way) (bits_if (contact_at p j.asking) way)

abbrev pub joint_size : Laying → Plan → ℕ → Joint → ℕ
joint_size lay p x j = way_size lay p x j Request + way_size lay p x j Answer

-- the ends of a list of handshakes
abbrev pub ends_at : (ℕ → End) → ℕ → List Contact → List End
ends_at end h [] = []
ends_at end h (c ∷ cs) = end h ∷ ends_at end (suc h) cs

abbrev pub port_ends : List Outer → List End
port_ends [] = []
port_ends (o ∷ os) = ends_at o.end_at 0 o.contacts ++ port_ends os

abbrev pub part_ends : ℕ → List Part → List End
part_ends n [] = []
part_ends n (k ∷ ks) = ends_at (PartEnd n) 0 (part_contacts k) ++ part_ends (suc n) ks

-- the ends that stand in no joint: of ports, and then of parts
abbrev pub loose_ends : Plan → List End
loose_ends p = filter (λ e. is_free e p.joints) (port_ends (ports_of p) ++ part_ends 0 p.parts)

-- the bits of what would come in at an end
abbrev pub bits_taken : Option Contact → ℕ
bits_taken None = 0
bits_taken (Some c) = bits_of c (way_taken c.role)

abbrev pub loose_size : Plan → ℕ → End → ℕ
loose_size p n e = token_size (bits_taken (contact_at p e))

-- where the block of an end begins among these, of which the first begins at net n
abbrev pub start_among : Plan → ℕ → List End → End → ℕ
start_among p n [] e = n
start_among p n (d ∷ ds) e = if same_end d e then n else start_among p (n + loose_size p 0 d) ds e

-- where the blocks begin: of the port at place k, of joint x, of an end without a joint, and of part i
abbrev pub port_start : Plan → ℕ → ℕ
port_start p k = total port_size 0 (take k (ports_of p))

abbrev pub joints_start : Plan → ℕ
joints_start p = total port_size 0 (ports_of p)

abbrev pub joint_start : Laying → Plan → ℕ → ℕ
joint_start lay p x = joints_start p + total (joint_size lay p) 0 (take x p.joints)

abbrev pub loose_ends_start : Laying → Plan → ℕ
loose_ends_start lay p = joints_start p + total (joint_size lay p) 0 p.joints

abbrev pub loose_start : Laying → Plan → End → ℕ
loose_start lay p e = start_among p (loose_ends_start lay p) (loose_ends p) e

abbrev pub parts_start : Laying → Plan → ℕ
parts_start lay p = loose_ends_start lay p + total (loose_size p) 0 (loose_ends p)

abbrev pub part_start : Laying → Plan → ℕ → ℕ
part_start lay p i = parts_start lay p + total (λ n k. part_size (lay.making n) k) 0 (take i p.parts)
