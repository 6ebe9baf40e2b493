use Rattle.std.proofs.Common.{◌≡◌, ◌≤◌, ◌+◌, ◌∙◌, ℕ, List, length, ap, subst, arith}
use Rattle.gos_netlist.specs.Nets.{Cell}
use Rattle.gos_plan.specs.declared.contacts.Contact as held
use Rattle.gos_plan.specs.declared.kinds.Kind.{Kind}
use Rattle.gos_plan.specs.Kinds.{part_contacts}
use Rattle.gos_macro.specs.Gates.{Incoming, Outgoing}
use Rattle.gos_plan.specs.Seen.{part_of}
use Rattle.gos_macro.specs.Wires.{HoldNets}
use Rattle.gos_expand.specs.declared.gates.Gates.{Gates}
use Rattle.gos_expand.specs.Gates.{Making, outs_of, part_size}
use Rattle.gos_expand.specs.inner.Orders.{making_of}
use Rattle.std.specs.Option.{option_copied}
use Rattle.gos_expand.specs.inner.Dispatch.{gates_for, cells_in, outs_in, IsLaidOut}
use Rattle.gos_expand.specs.inner.Departures.{nets_of_wires}
use Rattle.gos_expand.proofs.GroupLemmas.{layout_length}
use Rattle.gos_expand.proofs.NumberLemmas.{cells_for}
use Rattle.gos_expand.proofs.LeafLemmas.{outs_for, nets_go_out}
use Rattle.gos_expand.proofs.DepartureLemmas.{wires_depart}
use Rattle.gos_expand.proofs.departures.part_departures.Goals as goal

-- these gates are numbered within bounds
numbered : (g : Gates) (m : Making) (k : Kind) (b : ℕ) (i : Incoming) → g ≡ gates_for m k → b + part_size m (part_of k) ≤ 4294967295
    → b + length (cells_in g b i) ≤ 4294967295
numbered g m k b i is room =
    let cells = ap (λ (h : Gates). length (cells_in h b i)) is in
    let same = ap (λ (f : ℕ → Incoming → List Cell). length (f b i)) (cells_for m k) in
    let size = layout_length m (part_of k) b i in
    omega (arith, room, cells, same, size)

pub outs-requires-clause-numbered : goal.outs-requires-clause-numbered
outs-requires-clause-numbered c = numbered c.gates_of.result (making_of (option_copied c.args.order)) c.args.kind.now c.args.base _ c.gates_of.ensures.is c.requires.numbered

pub returns : goal.returns
returns c =
    let m : Making = making_of (option_copied c.args.order) in
    let k : Kind = c.args.kind.now in
    let b : ℕ = c.args.base in
    let nothing : Incoming = record { pulse = λ h. 0; value = λ h. 0 } in
    let laid : IsLaidOut (gates_for m k) = subst IsLaidOut c.gates_of.ensures.is c.gates_of.ensures.laid_out in
    let hold : HoldNets (outs_of m (part_of k) b) c.outs.new.wires =
    subst (λ (os : ℕ → List Outgoing). HoldNets (os b) c.outs.new.wires) (outs_for m k)
    (subst (λ (g : Gates). HoldNets (outs_in g b) c.outs.new.wires) c.gates_of.ensures.is c.outs.ensures.outs) in
    c.in_ok-nets.ensures
    ∙ (ap (λ (cs : List held.Contact). nets_of_wires cs c.outs.new.wires) (c.deref.ensures.value ∙ c.in_ok-contacts.ensures)
    ∙ wires_depart b (cells_in (gates_for m k) b nothing) (part_contacts (part_of k)) (outs_of m (part_of k) b) c.outs.new.wires (nets_go_out m k b laid nothing) hold)
