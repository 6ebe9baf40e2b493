use Rattle.std.specs.Prelude.{◌<◌, Some, length, map, get_or}
use Rattle.std.proofs.Common.{arith, sym, ap, ◌∙◌}
use Rattle.std.proofs.lemmas.List.{length-map}
use Rattle.std.proofs.lemmas.Option.{slice_get-get_or, slice_get_within}
use Rattle.gos_netlist.specs.Seen.{cell_of}
use Rattle.gos_netcheck.proofs.RuleLemmas.{get_mapped}
use Rattle.gos_tidy.proofs.MarkLemmas.{search_pins, search_done, found_low, each_below}
use Rattle.gos_tidy.proofs.marking.marked.Goals as goal

pub bounds-cells-net : goal.bounds-cells-net
bounds-cells-net c =
    let found = c.loop-next.marking.found.items in
    let low : c.loop-next.next < length found = omega (arith, c.loop-next-test.true, c.len.ensures, c.loop-next.marking.found.ok.0) in
    let is = slice_get-get_or found c.loop-next.next c.index.result.now low ∙ ap Some (sym c.index.ensures) in
    let net = found_low (map cell_of c.args.cells.now) c.args.ends.now _ found _ _ _ c.loop-next.next c.index.result.now c.loop-next.invariant.0 is in
    omega (arith, net, length-map c.args.cells.now cell_of)

pub mark_pins-requires : goal.mark_pins-requires
mark_pins-requires c =
    let cells = map cell_of c.args.cells.now in
    let found = c.loop-next.marking.found.items in
    let low : c.loop-next.next < length found = omega (arith, c.loop-next-test.true, c.len.ensures, c.loop-next.marking.found.ok.0) in
    let is = slice_get-get_or found c.loop-next.next c.index.result.now low ∙ ap Some (sym c.index.ensures) in
    let net = found_low cells c.args.ends.now _ found _ _ _ c.loop-next.next c.index.result.now c.loop-next.invariant.0 is in
    let there : c.index.result.now < length c.args.cells.now = omega (arith, net, length-map c.args.cells.now cell_of) in
    λ k d inside.
    let pin = each_below (length cells) _ (c.requires.nets c.index.result.now (cell_of (get_or c.args.cells.now c.index.result.now _))
    (get_mapped cell_of c.args.cells.now c.index.result.now _ there)) k d inside in
    let count = c.loop-next.invariant.0.count in
    omega (arith, pin, count, c.loop-next.marking.marks.ok.0)

pub loop-next-preserved : goal.loop-next-preserved
loop-next-preserved c =
    let cells = map cell_of c.args.cells.now in
    let found = c.loop-next.marking.found.items in
    let low : c.loop-next.next < length found = omega (arith, c.loop-next-test.true, c.len.ensures, c.loop-next.marking.found.ok.0) in
    let is = slice_get-get_or found c.loop-next.next c.index.result.now low ∙ ap Some (sym c.index.ensures) in
    let net = found_low cells c.args.ends.now _ found _ _ _ c.loop-next.next c.index.result.now c.loop-next.invariant.0 is in
    let there : c.index.result.now < length c.args.cells.now = omega (arith, net, length-map c.args.cells.now cell_of) in
    let front = slice_get_within c.mark_pins.new.self.found.items c.loop-next.next c.index.result.now (c.in_ok-mark_pins.ensures.front c.loop-next.next c.index.result.now is) in (
      search_pins cells c.args.ends.now _ found _ _ (length c.args.cells.now) (length c.args.ends.now) c.loop-next.next c.index.result.now
          (cell_of (get_or c.args.cells.now c.index.result.now _)) c.loop-next.invariant.0 is
          (get_mapped cell_of c.args.cells.now c.index.result.now _ there) c.in_ok-mark_pins.ensures,
      omega (arith, front),
    )

pub loop-next-smaller : goal.loop-next-smaller
loop-next-smaller c =
    let low : c.loop-next.next < length c.loop-next.marking.found.items = omega (arith, c.loop-next-test.true, c.len.ensures, c.loop-next.marking.found.ok.0) in
    let total = c.in_ok-mark_pins.ensures.total in
    let is = slice_get-get_or c.loop-next.marking.found.items c.loop-next.next c.index.result.now low ∙ ap Some (sym c.index.ensures) in
    let front = slice_get_within c.mark_pins.new.self.found.items c.loop-next.next c.index.result.now (c.in_ok-mark_pins.ensures.front c.loop-next.next c.index.result.now is) in
    omega (arith, total, low, front)

pub returns : goal.returns
returns c =
    search_done (map cell_of c.args.cells.now) c.args.ends.now _ c.loop-next.marking.found.items (length c.args.cells.now) (length c.args.ends.now) c.loop-next.next
    c.loop-next.invariant.0 (omega (arith, length-map c.args.cells.now cell_of)) (omega arith)
    (omega (arith, c.loop-next-test.false, c.len.ensures, c.loop-next.marking.found.ok.0))
