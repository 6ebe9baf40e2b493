-- What the cycles of a plan's netlist show, in terms of the plan's ends, and that such cycles are lists of the plan.
--
-- Read first: Starts, Kept; Cycles of gos_pace, Paths of gos_macro. A direction of a joint that keeps its registers holds what passes
-- for a cycle; the nets of one that doesn't are one and the same. Behind these facts no numbers of nets are needed any more.
use Rattle.std.specs.Prelude.{◌≡◌, ℕ, zero, suc, ◌^◌, ◌<◌, ◌≤◌, true, false, List, [], ◌∷◌, length, Option, Some, None, All, slice_get, nat_eq, if◌then◌else◌}
use Rattle.gos_netlist.specs.Nets.{Netlist}
use Rattle.gos_types.specs.Events.{Direction, Request, Answer}
use Rattle.gos_netlist.specs.Settling.{Numbers, at}
use Rattle.gos_pace.specs.Flattening.{outputs, inputs}
use Rattle.gos_plan.specs.Kinds.{Part, Contact, part_contacts}
use Rattle.gos_plan.specs.Plans.{End, PartEnd, Joint, Plan, IsRight, contact_at, same_end}
use Rattle.gos_plan.specs.Tokens.{Element, Out, In, IsPortEnd, places_of, bits_of, way_put}
use Rattle.gos_plan.specs.TokenBits.{LiteralFits}
use Rattle.gos_macro.specs.Gates.{Incoming, Settled}
use Rattle.gos_macro.specs.Law.{Order}
use Rattle.gos_macro.specs.Kept.{KeepLaws}
use Rattle.gos_macro.specs.Paths.{KeepPaths}
use Rattle.gos_pace.specs.Cycles as cycles
use Rattle.gos_pace.specs.AnyOrder.{EndsDiffer}
use Rattle.gos_expand.specs.Gates.{layout, outs_of, late_of, pending_of, stands_of, passing_of}
use Rattle.gos_expand.specs.Blocks.{Nets}
use Rattle.gos_expand.specs.Starts.{Laying, bits_if, bits_taken, ports_of, port_ends}
use Rattle.gos_expand.specs.Laid.{nets_out, known}

-- By end: the nets of what goes into the circuit, of what comes in there, and of what a port shows of it. By part:
-- where its gates begin.
pub record Places : Type 0 where
  pub leaves : End → Nets
  pub arrives : End → Nets
  pub shows : End → Nets
  pub start : ℕ → ℕ

-- the number of a token of these bits
abbrev pub number_by : Numbers → ℕ → Nets → ℕ
number_by v zero n = 0
number_by v (suc w) n = at v n.number

-- a token of these bits is held for a cycle on its way between these nets
pub record Delays (w : ℕ) (v regs after : Numbers) (from to : Nets) : Type 0 where
  pub pulse : at v to.pulse ≡ at regs to.pulse
  pub next : at after to.pulse ≡ at v from.pulse
  pub number : 0 < w → at v to.number ≡ at regs to.number
  pub next_number : 0 < w → at after to.number ≡ at v from.number

-- where the tokens of a direction of a joint are put, where they are taken, and their bits
abbrev pub source : Joint → Direction → End
source j Request = j.asking
source j Answer = j.serving

abbrev pub target : Joint → Direction → End
target j Request = j.serving
target j Answer = j.asking

abbrev pub width : Plan → Joint → Direction → ℕ
width p j way = bits_if (contact_at p j.asking) way

-- the bits of what is put at an end
abbrev pub bits_put : Option Contact → ℕ
bits_put None = 0
bits_put (Some c) = bits_of c (way_put c.role)

-- the nets that come in at a part, by handshake
abbrev pub incoming_at : Plan → Places → ℕ → Incoming
incoming_at p n i =
    record {
      pulse = λ h. known (contact_at p (PartEnd i h)) (n.arrives (PartEnd i h)).pulse;
      value = λ h. known (contact_at p (PartEnd i h)) (n.arrives (PartEnd i h)).number;
    }

-- the tokens that these nets show at these ends, as elements
abbrev pub elements : (End → ℕ → Element) → Numbers → (End → ℕ) → (End → Nets) → List End → List Element
elements make v bits nets [] = []
elements make v bits nets (e ∷ es) =
    if nat_eq (at v (nets e).pulse) 1 then make e (number_by v (bits e) (nets e)) ∷ elements make v bits nets es
    else elements make v bits nets es

abbrev pub bits_out_at : Plan → End → ℕ
bits_out_at p e = bits_taken (contact_at p e)

abbrev pub bits_in_at : Plan → End → ℕ
bits_in_at p e = bits_put (contact_at p e)

abbrev pub shown_elements : Plan → Places → Numbers → List Element
shown_elements p n v = elements Out v (bits_out_at p) n.shows (port_ends (ports_of p))

abbrev pub given_elements : Plan → Places → Numbers → List Element
given_elements p n v = elements In v (bits_in_at p) n.leaves (port_ends (ports_of p))

-- What a cycle shows, with these values of nets, registers and next registers. Each direction of a joint that keeps its
-- registers delays, and so does each output of a port; an end without a joint gets nothing; and what the outside gives is in
-- range.
pub record CycleFacts (lay : Laying) (p : Plan) (net : Netlist) (n : Places) (v regs after : Numbers) : Type 0 where
  pub outs : cycles.outs_of p (outputs net v) ≡ shown_elements p n v
  pub ins : cycles.ins_of p (inputs net v) ≡ given_elements p n v
  pub outs_apart : EndsDiffer p (outputs net v)
  pub ins_apart : EndsDiffer p (inputs net v)
  pub parts :
      (i : ℕ) (k : Part) → slice_get p.parts i ≡ Some k → Settled v regs after (n.start i) 0 (layout (lay.making i) k (n.start i) (incoming_at p n i))
  pub joints :
      (x : ℕ) (j : Joint) (way : Direction) → slice_get p.joints x ≡ Some j → lay.keep x way ≡ true
      → Delays (width p j way) v regs after (n.leaves (source j way)) (n.arrives (target j way))
  pub loose :
      (e : End) (c : Contact) → contact_at p e ≡ Some c → places_of p e ≡ None
      → (at v (n.arrives e).pulse ≡ 0) × (0 < bits_taken (Some c) → at v (n.arrives e).number ≡ 0)
  pub ports :
      (e : End) (c : Contact) → IsPortEnd e → contact_at p e ≡ Some c
      → Delays (bits_taken (Some c)) v regs after (n.arrives e) (n.shows e)
  pub given :
      (e : End) (c : Contact) → IsPortEnd e → contact_at p e ≡ Some c
      → (at v (n.leaves e).pulse ≤ 1)
      × (0 < bits_put (Some c) → at v (n.leaves e).number < 2 ^ bits_put (Some c))

-- cycles one after another, from these registers on
abbrev pub Follow : Laying → Plan → Netlist → Places → Numbers → List Numbers → Type 0
Follow lay p net n regs [] = Unit {0}
Follow lay p net n regs (v ∷ vs) = (after : Numbers) × CycleFacts lay p net n v regs after × Follow lay p net n after vs

-- how often an end stands in a list
abbrev pub occurs : End → List End → ℕ
occurs e [] = 0
occurs e (d ∷ ds) = if same_end d e then suc (occurs e ds) else occurs e ds

-- What is the same in all cycles: each end of a port is listed once, the nets that leave a part are those of its gates, and
-- what comes in by a direction without registers is what goes in at the other end.
pub record PlanFacts (lay : Laying) (p : Plan) (n : Places) : Type 0 where
  pub once : (e : End) (c : Contact) → IsPortEnd e → contact_at p e ≡ Some c → occurs e (port_ends (ports_of p)) ≡ 1
  pub listed : (e : End) → 0 < occurs e (port_ends (ports_of p)) → IsPortEnd e × ((c : Contact) × (contact_at p e ≡ Some c))
  pub leaving : (i h : ℕ) (k : Part) → slice_get p.parts i ≡ Some k → n.leaves (PartEnd i h) ≡ nets_out (slice_get (outs_of (lay.making i) k (n.start i)) h)
  pub straight :
      (x : ℕ) (j : Joint) (way : Direction) → slice_get p.joints x ≡ Some j → lay.keep x way ≡ false
      → n.arrives (target j way) ≡ n.leaves (source j way)

-- From handshake `from` of a part what comes in passes on to handshake `to`, and by a direction of a joint without registers
-- to this end, all in one cycle.
pub record PassesOn (lay : Laying) (p : Plan) (i from : ℕ) (to : End) : Type 0 where
  pub joint : ℕ
  pub passed : Joint
  pub way : Direction
  pub part : Part
  pub out : ℕ
  pub stands : slice_get p.joints joint ≡ Some passed
  pub straight : lay.keep joint way ≡ false
  pub leaves : source passed way ≡ PartEnd i out
  pub there : slice_get p.parts i ≡ Some part
  pub from_there : from < length (part_contacts part)
  pub out_there : out < length (part_contacts part)
  pub passes : passing_of (lay.making i) part from out ≡ true
  pub arrives : target passed way ≡ to

-- Ranks go up wherever what comes in at an end passes on in one cycle. So there is no ring without registers.
abbrev pub Rises : Laying → Plan → (End → ℕ) → Type 0
Rises lay p rank = (i from : ℕ) (to : End) → PassesOn lay p i from to → rank (PartEnd i from) < rank to

-- the order of a part's handshakes: the ranks of its ends
abbrev pub order_at : (End → ℕ) → ℕ → Order
order_at rank i h = rank (PartEnd i h)

-- the gates of each part keep the laws in the order of its ends, and its literal fits
pub record PartFacts (lay : Laying) (p : Plan) (rank : End → ℕ) : Type 0 where
  pub gates :
      (i : ℕ) (k : Part) → slice_get p.parts i ≡ Some k
      → KeepLaws k (layout (lay.making i) k) (outs_of (lay.making i) k) (late_of (lay.making i) k) (pending_of (lay.making i) k)
      (stands_of (lay.making i) k) (order_at rank i)
  pub paths :
      (i : ℕ) (k : Part) → slice_get p.parts i ≡ Some k
      → KeepPaths k (layout (lay.making i) k) (outs_of (lay.making i) k) (late_of (lay.making i) k) (passing_of (lay.making i) k)
  pub literals : All LiteralFits p.parts

-- Cycles of which this is so, from registers that are all 0, are lists of the plan, whichever directions keep registers, where
-- no ring is left without one.
abbrev pub FactsMakeLists : Type 0
FactsMakeLists =
    (lay : Laying) (p : Plan) (net : Netlist) (n : Places) (rank : End → ℕ) (regs : Numbers) (vs : List Numbers)
    → IsRight p → PartFacts lay p rank → PlanFacts lay p n → Rises lay p rank → ((m : ℕ) → at regs m ≡ 0) → Follow lay p net n regs vs
    → cycles.CyclesAreLists p net vs
