-- The cycles of the netlist of a plan that can be laid out are lists of the plan.
--
-- Read first: PromptLemmas, that the facts of cycles make lists; RegisterLemmas, OnceLemmas and OutlineLemmas, that
-- the netlist has these facts; WiringLemmas and EndRankLemmas, that its ends have ranks where no combinational cycle is left.
use Rattle.std.specs.Prelude.{Option}
use Rattle.std.proofs.Common.{◌≡◌, ℕ, zero, suc, ◌^◌, ◌<◌, ◌≤◌, List, [], ◌∷◌, map, Some, slice_get, length, replicate, refl, sym, ap, subst, arith}
use Rattle.gos_netlist.specs.Nets.{Cell}
use Rattle.gos_netlist.specs.Cycles.{HasCycle}
use Rattle.gos_netlist.specs.Settling.{Numbers, at, next_registers, Settling, RunFrom}
use Rattle.gos_pace.specs.RunProtocol.{IsInRange, InputsInRange}
use Rattle.gos_plan.specs.Kinds.{Part, Contact}
use Rattle.gos_model.specs.Typing.{Imported}
use Rattle.gos_plan.specs.Plans.{End, PartEnd, Plan, IsRight, contact_at}
use Rattle.gos_plan.specs.Tokens.{IsPortEnd}
use Rattle.gos_plan.specs.Seen.{SeenPlan, plan_of, part_of}
use Rattle.gos_plan.specs.Ranges as ranges
use Rattle.gos_macro.specs.Kept.{KeepLaws}
use Rattle.gos_macro.specs.Paths.{KeepPaths}
use Rattle.gos_plan.proofs.TokenBitsLemmas.{literals_fit}
use Rattle.gos_expand.specs.Gates.{layout, outs_of, late_of, pending_of, stands_of, passing_of}
use Rattle.gos_expand.specs.Kept.{IsMadeFor, AllKeepPaths}
use Rattle.gos_expand.proofs.KeptLemmas.{all_gates}
use Rattle.gos_expand.specs.Blocks.{Nets}
use Rattle.gos_expand.specs.Starts.{plain, Laying, part_start}
use Rattle.gos_expand.specs.Laid.{leaves, nets_out, outs_if, incoming, circuit_cells, circuit}
use Rattle.gos_expand.specs.Acceptance.{AreDifferent, CanBeLaid}
use Rattle.gos_expand.specs.Facts.{bits_put, CycleFacts, PlanFacts, order_at, PartFacts, Follow, Rises}
use Rattle.gos_expand.specs.Runs.{AreMadeFor, CircuitMakesLists, LaidMakesLists}
use Rattle.gos_expand.specs.Rings.{Shake, PassesBy, HasRing, RingsAreCycles}
use Rattle.gos_expand.proofs.FlowLemmas.{IsSound}
use Rattle.gos_expand.proofs.AcceptLemmas.{mapped_found, one_of_all, same_names, sound}
use Rattle.gos_expand.proofs.PromptLemmas.{facts_make_lists}
use Rattle.gos_expand.proofs.RegisterLemmas.{part_settles, joint_delays, arrives_straight, loose_silent, PortCells, port_delays, given_nets}
use Rattle.gos_expand.proofs.OnceLemmas.{each_once, all_listed}
use Rattle.gos_expand.proofs.EndRingLemmas.{cycle_is_ring, ring_is_cycle}
use Rattle.gos_expand.proofs.EndRankLemmas.{rank_of, ranks_rise}
use Rattle.gos_expand.proofs.WiringLemmas.{places_in, port_cells_at, laid_wired}
use Rattle.gos_expand.proofs.OutlineLemmas.{outs_are, ins_are, outs_are_apart, ins_are_apart}

-- what the outside gives is in range
given_at : (lay : Laying) (p : Plan) (root : List ℕ) (v regs ins : Numbers) → IsSound lay p → Settling (circuit_cells lay p) regs ins v → IsInRange (circuit lay p root) ins
    → (e : End) (c : Contact) → IsPortEnd e → contact_at p e ≡ Some c
    → (at v (leaves lay p e).pulse ≤ 1) × (0 < bits_put (Some c) → at v (leaves lay p e).number < 2 ^ bits_put (Some c))
given_at lay p root v regs ins fits settles range e c port there =
    let cells : PortCells lay p e c = port_cells_at lay p fits e c port there in
    let all : List Cell = circuit_cells lay p in
    let w : ℕ = bits_put (Some c) in
    subst (λ (n : Nets). (at v n.pulse ≤ 1) × (0 < w → at v n.number < 2 ^ w)) (sym cells.leaves_is)
    (given_nets all v regs ins w cells.in_from settles range cells.in_stands)

-- a cycle of the netlist has the facts
pub cycle_facts : (lay : Laying) (p : Plan) (root : List ℕ) (v regs ins : Numbers) → IsSound lay p → AreDifferent (root ∷ map (λ (x : Imported). x.name) p.imports)
    → Settling (circuit_cells lay p) regs ins v → IsInRange (circuit lay p root) ins
    → CycleFacts lay p (circuit lay p root) (places_in lay p) v regs (next_registers (circuit_cells lay p) v)
cycle_facts lay p root v regs ins fits differ settles range =
    record {
      outs = outs_are lay p root v fits differ;
      ins = ins_are lay p root v fits differ;
      outs_apart = outs_are_apart lay p root v fits differ;
      ins_apart = ins_are_apart lay p root v fits differ;
      parts = λ i k is. part_settles lay p v regs ins i k settles is ((fits.gates i k is).inner (part_start lay p i) (incoming lay p i));
      joints = λ x j way there kept. joint_delays lay p v regs ins x j way fits.right settles there kept;
      loose = λ e c there none. loose_silent lay p v regs ins e c settles there none;
      ports = λ e c port there. port_delays lay p v regs ins e c (port_cells_at lay p fits e c port there) settles;
      given = given_at lay p root v regs ins fits settles range;
    }

follow_run : (lay : Laying) (p : Plan) (root : List ℕ) (ins vs : List Numbers) (regs : Numbers) → IsSound lay p
    → AreDifferent (root ∷ map (λ (x : Imported). x.name) p.imports)
    → InputsInRange (circuit lay p root) ins → RunFrom (circuit_cells lay p) regs ins vs → Follow lay p (circuit lay p root) (places_in lay p) regs vs
follow_run lay p root [] vs regs fits differ range run = subst (λ (l : List Numbers). Follow lay p (circuit lay p root) (places_in lay p) regs l) (sym run) tt
follow_run lay p root (i ∷ ins) [] regs fits differ range run = absurd run
follow_run lay p root (i ∷ ins) (v ∷ vs) regs fits differ range run = (
  next_registers (circuit_cells lay p) v,
  cycle_facts lay p root v regs i fits differ run.0 range.0,
  follow_run lay p root ins vs (next_registers (circuit_cells lay p) v) fits differ range.1 run.1,
)

-- the parts of a plan that can be laid out keep what is asked of paths
pub part_paths : AllKeepPaths → (lay : Laying) (p : SeenPlan) (root : List ℕ) → CanBeLaid p root → (i : ℕ) (k : Part) → slice_get (plan_of p).parts i ≡ Some k
    → KeepPaths k (layout (lay.making i) k) (outs_of (lay.making i) k) (late_of (lay.making i) k) (passing_of (lay.making i) k)
part_paths paths lay p root can i k is =
    let m = lay.making i in
    let found = mapped_found part_of p.parts i k is in
    let keeps = paths m found.0 (one_of_all ranges.IsInRange p.parts i found.0 can.in_range.of_parts found.1) in
    subst (λ (x : Part). KeepPaths x (layout m x) (outs_of m x) (late_of m x) (passing_of m x)) found.2 keeps

-- the parts of a plan that can be laid out, whose gates are made for no order but that of the ranks
pub part_facts : AllKeepPaths → (lay : Laying) (p : SeenPlan) (root : List ℕ) → CanBeLaid p root → (rank : End → ℕ) → AreMadeFor lay (plan_of p) rank
    → PartFacts lay (plan_of p) rank
part_facts paths lay p root can rank made =
    record {
      gates = λ i k is.
          let m = lay.making i in
          let order = order_at rank i in
          let found = mapped_found part_of p.parts i k is in
          let known = subst (λ (x : Part). IsMadeFor m x order) (sym found.2) (made i k is) in
          let keeps = all_gates m found.0 order (one_of_all ranges.IsInRange p.parts i found.0 can.in_range.of_parts found.1) known in
          subst (λ (x : Part). KeepLaws x (layout m x) (outs_of m x) (late_of m x) (pending_of m x) (stands_of m x) order) found.2 keeps;
      paths = part_paths paths lay p root can;
      literals = literals_fit p.parts can.in_range.of_parts;
    }

pub plan_facts : (lay : Laying) (p : Plan) → IsRight p → PlanFacts lay p (places_in lay p)
plan_facts lay p right =
    record {
      once = each_once p;
      listed = all_listed p;
      leaving = λ i h k is. ap (λ (f : Option Part). nets_out (slice_get (outs_if (lay.making i) f (part_start lay p i)) h)) is;
      straight = λ x j way there none. arrives_straight lay p x j way right there none;
    }

pub all_zero : (m n : ℕ) → at (replicate m 0) n ≡ 0
all_zero zero n = refl
all_zero (suc m) zero = refl
all_zero (suc m) (suc n) = all_zero m n

-- so its cycles are lists, as the gates of each kind keep what is asked of paths
pub circuit_makes_lists : AllKeepPaths → CircuitMakesLists
circuit_makes_lists paths lay p root rank ins vs can rises made range run =
    let plan : Plan = plan_of p in
    let fits : IsSound lay plan = sound lay p root can in
    let differ : AreDifferent (root ∷ map (λ (x : Imported). x.name) plan.imports) =
    subst (λ (names : List (List ℕ)). AreDifferent (root ∷ names)) (same_names p.imports) can.names in
    let regs : Numbers = replicate (length (circuit_cells lay plan)) 0 in
    facts_make_lists lay plan (circuit lay plan root) (places_in lay plan) rank regs vs can.right (part_facts paths lay p root can rank made)
    (plan_facts lay plan can.right) rises (all_zero (length (circuit_cells lay plan))) (follow_run lay plan root ins vs regs fits differ range run)

-- where no combinational cycle is left, its ends have ranks that go up
pub ranks_of : Laying → Plan → End → ℕ
ranks_of lay p = rank_of (circuit_cells lay p) (places_in lay p)

pub ranks_go_up : AllKeepPaths → (lay : Laying) (p : SeenPlan) (root : List ℕ) → CanBeLaid p root → (HasCycle (circuit_cells lay (plan_of p)) → ⊥)
    → Rises lay (plan_of p) (ranks_of lay (plan_of p))
unfolding ranks_of
ranks_go_up paths lay p root can acyclic =
    let plan : Plan = plan_of p in
    ranks_rise lay plan (circuit_cells lay plan) (places_in lay plan) (laid_wired lay plan (sound lay p root can) (part_paths paths lay p root can)) acyclic

-- where ranks go up no ring closes
on_way : (lay : Laying) (p : Plan) (rank : End → ℕ) → Rises lay p rank → (a : Shake) (cs : List Shake) (b : Shake) → PassesBy lay p a cs b
    → rank (PartEnd a.part a.number) < rank (PartEnd b.part b.number)
on_way lay p rank rises a [] b on = rises a.part a.number (PartEnd b.part b.number) on
on_way lay p rank rises a (c ∷ cs) b (on, more) =
    let first = rises a.part a.number (PartEnd c.part c.number) on in
    let rest = on_way lay p rank rises c cs b more in
    omega (arith, first, rest)

pub ringless : (lay : Laying) (p : Plan) (rank : End → ℕ) → Rises lay p rank → HasRing lay p → ⊥
ringless lay p rank rises (a, cs, round) = let up = on_way lay p rank rises a cs a round in omega (arith, up)

-- gates that are made for no order suit these ranks as any others
pub laid_makes_lists : AllKeepPaths → LaidMakesLists
laid_makes_lists paths keep p root ins vs can acyclic range run =
    circuit_makes_lists paths (plain keep) p root (ranks_of (plain keep) (plan_of p)) ins vs can (ranks_go_up paths (plain keep) p root can acyclic)
    (λ i k there. tt) range run

-- and its combinational cycles are the rings of handshakes
pub rings_cycles : AllKeepPaths → RingsAreCycles
rings_cycles paths lay p root can =
    let plan : Plan = plan_of p in
    let wired = laid_wired lay plan (sound lay p root can) (part_paths paths lay p root can) in (
      cycle_is_ring lay plan (circuit_cells lay plan) (places_in lay plan) wired,
      ring_is_cycle lay plan (circuit_cells lay plan) (places_in lay plan) wired,
    )
