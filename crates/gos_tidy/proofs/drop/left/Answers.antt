use Rattle.std.specs.Prelude.{◌≡◌, ℕ, ◌<◌, List, length, map, get_or}
use Rattle.std.proofs.Common.{arith, sym, ap, subst}
use Rattle.std.proofs.lemmas.List.{length-map}
use Rattle.std.proofs.lemmas.Option.{slice_get-get_or}
use Rattle.gos_netlist.specs.declared.nets.Cell.{Cell}
use Rattle.gos_netlist.specs.Nets.{Netlist}
use Rattle.gos_netlist.specs.Seen.{cell_of}
use Rattle.gos_netlist.specs.Settling.{at}
use Rattle.gos_netcheck.specs.CellRules.{NetsExist}
use Rattle.gos_tidy.specs.inner.Places.{port_nets}
use Rattle.gos_tidy.proofs.LeftLemmas.{quotient_nets, ends_low, all_low, ends_are, ports_are, is_left, left_reduced, left_lead}
use Rattle.gos_tidy.proofs.PartLemmas.{left_part}
use Rattle.gos_tidy.proofs.SizeLemmas.{part_size}
use Rattle.gos_tidy.proofs.drop.left.Goals as goal

pub marked-requires-clause-nets : goal.marked-requires-clause-nets
marked-requires-clause-nets c =
    let Nets : List Cell → Type 0 = λ x. NetsExist (map cell_of x) in
    subst Nets (sym c.deref-3.ensures.value)
    (quotient_nets c.args.net.now.cells (map cell_of c.args.quotient.now.cells.items) (at c.args.quotient.now.map.items) c.args.quotient.now.roots.items
    c.requires.merged c.requires.accepted.nets)

pub marked-requires-clause-ends : goal.marked-requires-clause-ends
marked-requires-clause-ends c =
    let merged = map cell_of c.args.quotient.now.cells.items in
    let ports : c.args.net.now.ports ≡ c.net.inside.ports.items = sym (ap (λ (x : Netlist). x.ports) c.net.view_is) in
    let ends = ends_are c.in_ok-ends.ends.items c.deref-4.result.now c.args.quotient.now.map.items c.deref-2.result.now c.args.net.now.ports
    c.net.inside.ports.items c.deref.result.now c.deref-4.ensures.value c.in_ok-ends.ensures c.deref-2.ensures.value c.deref.ensures.value ports in
    let low = all_low (at c.args.quotient.now.map.items) (length merged) (port_nets c.args.net.now.ports)
    (ends_low c.args.net.now merged (at c.args.quotient.now.map.items) c.args.quotient.now.roots.items c.requires.accepted c.requires.merged) in
    let Low : List ℕ → Type 0 = λ es. (k d : ℕ) → k < length es → get_or es k d < length merged in
    λ k d l.
    let below = subst Low (sym ends) low k d l in
    omega (arith, below, length-map c.args.quotient.now.cells.items cell_of, ap length c.deref-3.ensures.value)

pub placed-requires : goal.placed-requires
placed-requires c = λ k d l.
    let places = c.in_ok-numbers.numbers.places.items in
    let inside : k < length places = subst (λ (x : List ℕ). k < length x) c.deref-8.ensures.value l in
    let low = (c.in_ok-numbers.ensures.marked k (get_or places k d) (slice_get-get_or places k d inside)).0 in
    let count = c.in_ok-marks.ensures.count in
    let read : get_or c.deref-8.result.now k d ≡ get_or places k d = ap (λ (x : List ℕ). get_or x k d) c.deref-8.ensures.value in
    omega (arith, low, count, read, ap length c.deref-5.ensures.value, length-map c.deref-3.result.now cell_of, ap length c.deref-3.ensures.value, ap length c.deref-6.ensures.value)

pub returns-clause-reduced : goal.returns-clause-reduced
returns-clause-reduced c =
    let targets = c.args.quotient.now.map.items in
    let numbers = c.in_ok-numbers.numbers.numbers.items in
    let ports : c.args.net.now.ports ≡ c.net.inside.ports.items = sym (ap (λ (x : Netlist). x.ports) c.net.view_is) in
    let ends = ends_are c.in_ok-ends.ends.items c.deref-4.result.now targets c.deref-2.result.now c.args.net.now.ports
    c.net.inside.ports.items c.deref.result.now c.deref-4.ensures.value c.in_ok-ends.ensures c.deref-2.ensures.value c.deref.ensures.value ports in
    let all = is_left c.args.quotient.now.cells.items c.deref-3.result.now c.deref-6.result.now (map (at targets) (port_nets c.args.net.now.ports)) c.deref-4.result.now
    c.in_ok-marks.marks.items c.deref-5.result.now numbers c.deref-7.result.now c.in_ok-numbers.numbers.places.items c.deref-8.result.now
    (map cell_of c.in_ok-cells.cells.items) c.deref-3.ensures.value c.deref-6.ensures.value ends c.deref-5.ensures.value c.deref-7.ensures.value
    c.deref-8.ensures.value c.in_ok-marks.ensures c.in_ok-numbers.ensures c.in_ok-cells.ensures in
    left_reduced c.args.net.now (map cell_of c.args.quotient.now.cells.items) targets c.args.quotient.now.roots.items c.in_ok-marks.marks.items numbers
    c.in_ok-numbers.numbers.places.items (map cell_of c.in_ok-cells.cells.items) c.in_ok-ports.ports.items c.requires.merged all
    (ports_are c.in_ok-ports.ports.items numbers c.deref-11.result.now targets c.deref-10.result.now c.args.net.now.ports c.net.inside.ports.items
    c.deref-9.result.now c.in_ok-ports.ensures c.deref-11.ensures.value c.deref-10.ensures.value c.deref-9.ensures.value ports)

pub returns-clause-lead : goal.returns-clause-lead
returns-clause-lead c =
    let targets = c.args.quotient.now.map.items in
    let numbers = c.in_ok-numbers.numbers.numbers.items in
    let ports : c.args.net.now.ports ≡ c.net.inside.ports.items = sym (ap (λ (x : Netlist). x.ports) c.net.view_is) in
    let ends = ends_are c.in_ok-ends.ends.items c.deref-4.result.now targets c.deref-2.result.now c.args.net.now.ports
    c.net.inside.ports.items c.deref.result.now c.deref-4.ensures.value c.in_ok-ends.ensures c.deref-2.ensures.value c.deref.ensures.value ports in
    let all = is_left c.args.quotient.now.cells.items c.deref-3.result.now c.deref-6.result.now (map (at targets) (port_nets c.args.net.now.ports)) c.deref-4.result.now
    c.in_ok-marks.marks.items c.deref-5.result.now numbers c.deref-7.result.now c.in_ok-numbers.numbers.places.items c.deref-8.result.now
    (map cell_of c.in_ok-cells.cells.items) c.deref-3.ensures.value c.deref-6.ensures.value ends c.deref-5.ensures.value c.deref-7.ensures.value
    c.deref-8.ensures.value c.in_ok-marks.ensures c.in_ok-numbers.ensures c.in_ok-cells.ensures in
    left_lead c.args.net.now (map cell_of c.args.quotient.now.cells.items) targets c.in_ok-marks.marks.items numbers
    c.in_ok-numbers.numbers.places.items (map cell_of c.in_ok-cells.cells.items) c.in_ok-ports.ports.items all
    (ports_are c.in_ok-ports.ports.items numbers c.deref-11.result.now targets c.deref-10.result.now c.args.net.now.ports c.net.inside.ports.items
    c.deref-9.result.now c.in_ok-ports.ensures c.deref-11.ensures.value c.deref-10.ensures.value c.deref-9.ensures.value ports)

pub returns-clause-size : goal.returns-clause-size
returns-clause-size c =
    let targets = c.args.quotient.now.map.items in
    let numbers = c.in_ok-numbers.numbers.numbers.items in
    let ports : c.args.net.now.ports ≡ c.net.inside.ports.items = sym (ap (λ (x : Netlist). x.ports) c.net.view_is) in
    let ends = ends_are c.in_ok-ends.ends.items c.deref-4.result.now targets c.deref-2.result.now c.args.net.now.ports
    c.net.inside.ports.items c.deref.result.now c.deref-4.ensures.value c.in_ok-ends.ensures c.deref-2.ensures.value c.deref.ensures.value ports in
    let all = is_left c.args.quotient.now.cells.items c.deref-3.result.now c.deref-6.result.now (map (at targets) (port_nets c.args.net.now.ports)) c.deref-4.result.now
    c.in_ok-marks.marks.items c.deref-5.result.now numbers c.deref-7.result.now c.in_ok-numbers.numbers.places.items c.deref-8.result.now
    (map cell_of c.in_ok-cells.cells.items) c.deref-3.ensures.value c.deref-6.ensures.value ends c.deref-5.ensures.value c.deref-7.ensures.value
    c.deref-8.ensures.value c.in_ok-marks.ensures c.in_ok-numbers.ensures c.in_ok-cells.ensures in
    part_size (map cell_of c.in_ok-cells.cells.items) (map cell_of c.args.quotient.now.cells.items) (at c.in_ok-numbers.numbers.places.items)
    (left_part (map cell_of c.args.quotient.now.cells.items) (map (at targets) (port_nets c.args.net.now.ports)) c.in_ok-marks.marks.items numbers
    c.in_ok-numbers.numbers.places.items (map cell_of c.in_ok-cells.cells.items) all)
