use Rattle.std.specs.Prelude.{ℕ, Bool, false, List, length, map, get_or, replicate}
use Rattle.std.proofs.Common.{arith, sym, subst}
use Rattle.std.proofs.lemmas.List.{length-map}
use Rattle.std.proofs.lemmas.Option.{slice_get-get_or}
use Rattle.gos_netlist.specs.Seen.{cell_of}
use Rattle.gos_netcheck.proofs.RuleLemmas.{get_mapped}
use Rattle.gos_tidy.specs.inner.Marks.{IsSearch}
use Rattle.gos_tidy.proofs.MarkLemmas.{search_begun, search_input, search_end, search_less}
use Rattle.gos_tidy.proofs.marking.begun.Goals as goal

pub loop-n-init : goal.loop-n-init
loop-n-init c =
    let cells = map cell_of c.args.cells.now in
    let Marks : List Bool → Type 0 = λ x. IsSearch cells c.args.ends.now x c.in_ok-marking.marking.found.items 0 0 0 in
    let Found : List ℕ → Type 0 = λ x. IsSearch cells c.args.ends.now (replicate (length c.args.cells.now) false) x 0 0 0 in
    subst Marks (sym c.in_ok-marking.ensures.marks) (subst Found (sym c.in_ok-marking.ensures.found)
    (search_begun cells c.args.ends.now (length c.args.cells.now) (sym (length-map c.args.cells.now cell_of))))

pub loop-n-preserved : goal.loop-n-preserved
loop-n-preserved c =
    search_input (map cell_of c.args.cells.now) c.args.ends.now _ _ _ _ c.loop-n.n (cell_of (get_or c.args.cells.now c.loop-n.n _)) c.loop-n.invariant
    (get_mapped cell_of c.args.cells.now c.loop-n.n _ c.loop-n-test.true) c.in_ok-mark_input.ensures

pub loop-end-init : goal.loop-end-init
loop-end-init c =
    search_less (map cell_of c.args.cells.now) c.args.ends.now _ _ c.loop-n.n (length c.args.cells.now) 0 0 0 c.loop-n.invariant c.loop-n-test.false (omega arith)

pub loop-end-preserved : goal.loop-end-preserved
loop-end-preserved c =
    search_end (map cell_of c.args.cells.now) c.args.ends.now _ _ _ _ (length c.args.cells.now) c.loop-end.end-index (get_or c.args.ends.now c.loop-end.end-index 0)
    c.loop-end.invariant (slice_get-get_or c.args.ends.now c.loop-end.end-index 0 c.loop-end-test.true) c.in_ok-mark.ensures

pub returns : goal.returns
returns c =
    search_less (map cell_of c.args.cells.now) c.args.ends.now _ _ (length c.args.cells.now) (length c.args.cells.now) c.loop-end.end-index (length c.args.ends.now) 0
    c.loop-end.invariant (omega arith) c.loop-end-test.false
