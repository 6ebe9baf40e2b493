-- The netlist of a plan.
--
-- Read first: Starts. Each part is laid out as its gates, each joint as a register in each direction that is kept,
-- and each event of a port as inputs or as registers of its own. What comes in at an end without a joint is nothing.
use Rattle.std.specs.Prelude.{ℕ, suc, ◌+◌, Bool, List, [], ◌∷◌, ◌++◌, Option, Some, None, take, slice_get, if◌then◌else◌}
use Rattle.gos_types.specs.Types.{Type'}
use Rattle.gos_netlist.specs.Nets.{Cell, Side, Give, Take, NetPort, Netlist}
use Rattle.gos_types.specs.Events.{Direction, Request, Answer}
use Rattle.gos_plan.specs.Kinds.{Part, Contact, contacts_of}
use Rattle.gos_macro.specs.Gates.{Incoming, Outgoing, Bare, Bearing}
use Rattle.gos_model.specs.Typing.{Imported}
use Rattle.gos_plan.specs.Plans.{End, PartEnd, ImportEnd, ResultEnd, Joint, Plan, contacts_of_import, contact_at, same_end}
use Rattle.gos_expand.specs.Gates.{Making, layout, outs_of}
use Rattle.gos_expand.specs.Blocks.{Nets, nets_from, token_size, inputs, registers, nothing, blocks, total, nets_on}
use Rattle.gos_expand.specs.Starts.{Keep, Laying, plain, Outer, ports_of, shake_size, bits_if, bits_taken, way_size, loose_ends, port_start, joint_start, loose_start, part_start}

-- where an end stands: the joint, the direction of what comes in there, and the other end
pub record Seat : Type 0 where
  pub joint : ℕ
  pub way : Direction
  pub other : End

abbrev pub seat_among : ℕ → List Joint → End → Option Seat
seat_among n [] e = None
seat_among n (j ∷ js) e =
    if same_end e j.asking then Some (record { joint = n; way = Answer; other = j.serving })
    else (if same_end e j.serving then Some (record { joint = n; way = Request; other = j.asking }) else seat_among (suc n) js e)

abbrev pub seat_of : Plan → End → Option Seat
seat_of p e = seat_among 0 p.joints e

-- the nets of the request and of the answer of handshake h of a port whose first cell is n
abbrev pub request_start : ℕ → List Contact → ℕ → ℕ
request_start n cs h = n + total shake_size 0 (take h cs)

abbrev pub request_nets : ℕ → List Contact → ℕ → Nets
request_nets n cs h = nets_from (bits_if (slice_get cs h) Request) (request_start n cs h)

abbrev pub answer_nets : ℕ → List Contact → ℕ → Nets
answer_nets n cs h =
    nets_from (bits_if (slice_get cs h) Answer) (request_start n cs h + token_size (bits_if (slice_get cs h) Request))

-- the nets that go out at a handshake of a part
abbrev pub nets_out : Option Outgoing → Nets
nets_out None = record { pulse = 0; number = 0 }
nets_out (Some (Bare p)) = record { pulse = p; number = 0 }
nets_out (Some (Bearing p a)) = record { pulse = p; number = a }

abbrev pub outs_if : Making → Option Part → ℕ → List Outgoing
outs_if m None b = []
outs_if m (Some k) b = outs_of m k b

-- the nets of what goes into the circuit at an end: of a part's gates, or of the inputs of a port
abbrev pub leaves : Laying → Plan → End → Nets
leaves lay p (PartEnd i h) = nets_out (slice_get (outs_if (lay.making i) (slice_get p.parts i) (part_start lay p i)) h)
leaves lay p (ImportEnd i h) = answer_nets (port_start p (suc i)) (contacts_of_import (slice_get p.imports i)) h
leaves lay p (ResultEnd h) = request_nets (port_start p 0) (contacts_of p.outcome) h

-- where the registers of a direction of a joint begin
abbrev pub way_start : Laying → Plan → ℕ → Option Joint → Direction → ℕ
way_start lay p x None way = 0
way_start lay p x (Some j) Request = joint_start lay p x
way_start lay p x (Some j) Answer = joint_start lay p x + way_size lay p x j Request

-- the nets of what comes in at an end: the registers of its joint; where they are not kept, what goes in at the other
-- end; without a joint, nothing
abbrev pub arrives_by : Laying → Plan → End → Option Seat → Nets
arrives_by lay p e None = nets_from (bits_taken (contact_at p e)) (loose_start lay p e)
arrives_by lay p e (Some s) =
    if lay.keep s.joint s.way
    then nets_from (bits_taken (contact_at p e)) (way_start lay p s.joint (slice_get p.joints s.joint) s.way)
    else leaves lay p s.other

abbrev pub arrives : Laying → Plan → End → Nets
arrives lay p e = arrives_by lay p e (seat_of p e)

-- the cells of a handshake of a port: the outside gives the request or the answer, and the circuit gives the other,
-- as it arrives
abbrev pub side_cells : Side → Contact → Nets → List Cell
side_cells Give c n = inputs c.ask_bits ++ registers c.answer_bits n
side_cells Take c n = registers c.ask_bits n ++ inputs c.answer_bits

abbrev pub shake_cells : Laying → Plan → Outer → ℕ → Contact → List Cell
shake_cells lay p o h c = side_cells o.side c (arrives lay p (o.end_at h))

abbrev pub port_cells : Laying → Plan → ℕ → Outer → List Cell
port_cells lay p k o = blocks (shake_cells lay p o) 0 o.contacts

-- the registers of a joint
abbrev pub registers_if : Bool → ℕ → Nets → List Cell
registers_if kept w n = if kept then registers w n else []

abbrev pub way_cells : Laying → Plan → ℕ → Joint → Direction → End → List Cell
way_cells lay p x j way from = registers_if (lay.keep x way) (bits_if (contact_at p j.asking) way) (leaves lay p from)

abbrev pub joint_cells : Laying → Plan → ℕ → Joint → List Cell
joint_cells lay p x j = way_cells lay p x j Request j.asking ++ way_cells lay p x j Answer j.serving

-- the constants at an end without a joint
abbrev pub loose_cells : Plan → ℕ → End → List Cell
loose_cells p n e = nothing (bits_taken (contact_at p e))

-- the nets that come in at a part, by handshake; 0 at one that it hasn't
abbrev pub known : Option Contact → ℕ → ℕ
known None net = 0
known (Some c) net = net

abbrev pub incoming : Laying → Plan → ℕ → Incoming
incoming lay p i =
    record {
      pulse = λ h. known (contact_at p (PartEnd i h)) (arrives lay p (PartEnd i h)).pulse;
      value = λ h. known (contact_at p (PartEnd i h)) (arrives lay p (PartEnd i h)).number;
    }

-- the gates of a part
abbrev pub part_cells : Laying → Plan → ℕ → Part → List Cell
part_cells lay p i k = layout (lay.making i) k (part_start lay p i) (incoming lay p i)

-- all cells: of the ports, of the joints, of the ends without a joint, and of the parts
abbrev pub circuit_cells : Laying → Plan → List Cell
circuit_cells lay p =
    blocks (port_cells lay p) 0 (ports_of p)
    ++ (blocks (joint_cells lay p) 0 p.joints ++ (blocks (loose_cells p) 0 (loose_ends p) ++ blocks (part_cells lay p) 0 p.parts))

-- the ports: their nets are the cells of their blocks
abbrev pub laid_port : Plan → ℕ → List ℕ → Side → Type' → NetPort
laid_port p k name side ty = record { name = name; side = side; ty = ty; nets = nets_on (port_start p k) (total shake_size 0 (contacts_of ty)) }

abbrev pub taken : Plan → ℕ → List Imported → List NetPort
taken p k [] = []
taken p k (i ∷ is) = laid_port p k i.name Take i.ty ∷ taken p (suc k) is

-- The netlist of a plan that is laid out in this way, whose root has this name.
abbrev pub circuit : Laying → Plan → List ℕ → Netlist
circuit lay p root = record { cells = circuit_cells lay p; ports = laid_port p 0 root Give p.outcome ∷ taken p 1 p.imports }

-- The netlist of a plan, whose root has this name, with these joint registers. Its gates are made for no order.
abbrev pub laid : Keep → Plan → List ℕ → Netlist
laid keep p root = circuit (plain keep) p root

abbrev pub laid_cells : Keep → Plan → List Cell
laid_cells keep p = circuit_cells (plain keep) p
