use Rattle.std.proofs.Common.{ℕ, ◌<◌, length, get_or, arith}
use Rattle.std.proofs.lemmas.Option.{slice_get-get_or}
use Rattle.gos_netlist.specs.Seen.{cell_of, number_of}
use Rattle.std.specs.Prelude.{map}
use Rattle.gos_netcheck.specs.declared.schedule.Mark.TheVariants.{New}
use Rattle.gos_netcheck.specs.inner.Search.{IsDone}
use Rattle.gos_netcheck.proofs.RuleLemmas.{get_mapped, mapped_more, mapped_all}
use Rattle.gos_netcheck.proofs.TurnLemmas.{no_net}
use Rattle.gos_netcheck.proofs.PinLemmas.{no_cell, is_done, is_undone}
use Rattle.gos_netcheck.proofs.schedule.first_undone.Goals as goal

pub returns-then-waits_for-clause-undone : goal.returns-then-waits_for-clause-undone
returns-then-waits_for-clause-undone c =
    let net : ℕ = (get_or c.args.nets.now c.loop-net.net-index no_net).0 in
    let l : net < length c.args.cells.now = c.requires.there c.loop-net.net-index no_net c.loop-net-test.true in
    is_undone c.args.cells.now c.args.marks.now net (get_or c.args.cells.now net no_cell) (get_or c.args.marks.now net New)
    (get_mapped cell_of c.args.cells.now net no_cell l) (slice_get-get_or c.args.marks.now net New (omega (arith, l, c.requires.marked)))
    c.if-waits_for.ensures.0 c.if-waits_for.ensures.1

pub loop-net-preserved : goal.loop-net-preserved
loop-net-preserved c =
    let net : ℕ = (get_or c.args.nets.now c.loop-net.net-index no_net).0 in
    let l : net < length c.args.cells.now = c.requires.there c.loop-net.net-index no_net c.loop-net-test.true in
    let Rule : ℕ → ℕ → Type 0 = λ _ a. IsDone (map cell_of c.args.cells.now) c.args.marks.now a in
    mapped_more Rule number_of c.args.nets.now c.loop-net.net-index no_net c.loop-net-test.true c.loop-net.invariant
    (is_done c.args.cells.now c.args.marks.now net (get_or c.args.cells.now net no_cell) (get_or c.args.marks.now net New)
    (get_mapped cell_of c.args.cells.now net no_cell l) (slice_get-get_or c.args.marks.now net New (omega (arith, l, c.requires.marked)))
    c.if-waits_for.ensures)

pub returns-clause-none : goal.returns-clause-none
returns-clause-none c _ =
    let Rule : ℕ → ℕ → Type 0 = λ _ a. IsDone (map cell_of c.args.cells.now) c.args.marks.now a in
    mapped_all Rule number_of c.args.nets.now c.loop-net.net-index c.loop-net-test.false c.loop-net.invariant
