use Rattle.std.proofs.Common.{◌<◌, List, length, map, arith, ap, refl, ◌∙◌}
use Rattle.std.specs.Prelude.{Some}
use Rattle.std.proofs.lemmas.List.{length-map}
use Rattle.gos_netlist.specs.Nets.{Cell}
use Rattle.gos_netlist.specs.Seen.{cell_of}
use Rattle.gos_netcheck.proofs.StepLemmas.{step_goes_on, step_places_at_once, mark_read, alone, open_begun, placed_begun}
use Rattle.gos_netcheck.proofs.schedule.Search.go_on_to_new.Goals as goal

pub returns-in_ok-place-in-None-clause-stands : goal.returns-in_ok-place-in-None-clause-stands
returns-in_ok-place-in-None-clause-stands c =
    let cells : List Cell = map cell_of c.args.cells.now in
    let l : c.args.n < length cells = omega (arith, c.requires.within, length-map c.args.cells.now cell_of) in
    let read = mark_read cells c.args.self.now c.args.n c.index.result.now c.requires.stands l c.index.ensures in
    let ready = rw c.deref.ensures.value at c.in-None.ensures in
    let done = c.in_ok-place-in-None.ensures in
    (step_places_at_once cells c.args.self.now c.place.new.self (record { 0 = c.args.n }) c.requires.none c.requires.stands
    (read ∙ ap Some (c.if-not-is_new.ensures.0 refl)) ready done.marks done.path done.order).0

pub returns-in_ok-place-in-None-clause-begun : goal.returns-in_ok-place-in-None-clause-begun
returns-in_ok-place-in-None-clause-begun c =
    let cells : List Cell = map cell_of c.args.cells.now in
    let l : c.args.n < length c.args.self.now.marks.items = omega (arith, c.requires.within, length-map c.args.cells.now cell_of, c.requires.stands.count) in
    placed_begun c.args.self.now.marks.items c.place.new.self.marks.items c.args.n l c.in_ok-place-in-None.ensures.marks

pub returns-in_ok-place-in-None-clause-others : goal.returns-in_ok-place-in-None-clause-others
returns-in_ok-place-in-None-clause-others c =
    let cells : List Cell = map cell_of c.args.cells.now in
    let l : c.args.n < length cells = omega (arith, c.requires.within, length-map c.args.cells.now cell_of) in
    let read = mark_read cells c.args.self.now c.args.n c.index.result.now c.requires.stands l c.index.ensures in
    let ready = rw c.deref.ensures.value at c.in-None.ensures in
    let done = c.in_ok-place-in-None.ensures in
    (step_places_at_once cells c.args.self.now c.place.new.self (record { 0 = c.args.n }) c.requires.none c.requires.stands
    (read ∙ ap Some (c.if-not-is_new.ensures.0 refl)) ready done.marks done.path done.order).1.begun

pub returns-in_ok-go_on_to-in-Some-clause-stands : goal.returns-in_ok-go_on_to-in-Some-clause-stands
returns-in_ok-go_on_to-in-Some-clause-stands c =
    let cells : List Cell = map cell_of c.args.cells.now in
    let l : c.args.n < length cells = omega (arith, c.requires.within, length-map c.args.cells.now cell_of) in
    let read = mark_read cells c.args.self.now c.args.n c.index.result.now c.requires.stands l c.index.ensures in
    let done = c.in_ok-go_on_to-in-Some.ensures in
    (step_goes_on cells c.args.self.now c.go_on_to.new.self (record { 0 = c.args.n }) c.requires.stands (read ∙ ap Some (c.if-not-is_new.ensures.0 refl))
    (alone cells c.args.self.now c.args.n c.requires.none) done.marks done.path done.order).0

pub returns-in_ok-go_on_to-in-Some-clause-begun : goal.returns-in_ok-go_on_to-in-Some-clause-begun
returns-in_ok-go_on_to-in-Some-clause-begun c =
    let cells : List Cell = map cell_of c.args.cells.now in
    let l : c.args.n < length c.args.self.now.marks.items = omega (arith, c.requires.within, length-map c.args.cells.now cell_of, c.requires.stands.count) in
    open_begun c.args.self.now.marks.items c.go_on_to.new.self.marks.items c.args.n l c.in_ok-go_on_to-in-Some.ensures.marks

pub returns-in_ok-go_on_to-in-Some-clause-others : goal.returns-in_ok-go_on_to-in-Some-clause-others
returns-in_ok-go_on_to-in-Some-clause-others c =
    let cells : List Cell = map cell_of c.args.cells.now in
    let l : c.args.n < length cells = omega (arith, c.requires.within, length-map c.args.cells.now cell_of) in
    let read = mark_read cells c.args.self.now c.args.n c.index.result.now c.requires.stands l c.index.ensures in
    let done = c.in_ok-go_on_to-in-Some.ensures in
    (step_goes_on cells c.args.self.now c.go_on_to.new.self (record { 0 = c.args.n }) c.requires.stands (read ∙ ap Some (c.if-not-is_new.ensures.0 refl))
    (alone cells c.args.self.now c.args.n c.requires.none) done.marks done.path done.order).1.begun
