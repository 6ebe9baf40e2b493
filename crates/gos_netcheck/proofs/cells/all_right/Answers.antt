use Rattle.std.proofs.Common.{ℕ, length, map}
use Rattle.std.proofs.lemmas.List.{length-map}
use Rattle.gos_netlist.specs.Nets.{Cell}
use Rattle.gos_netlist.specs.Seen.{cell_of}
use Rattle.gos_netcheck.specs.CellRules.{PinsExist, HasRightWidths, widths_of}
use Rattle.gos_netcheck.proofs.RuleLemmas.{mapped_more, mapped_all}
use Rattle.gos_netcheck.proofs.cells.all_right.Goals as goal

pub loop-cell-preserved : goal.loop-cell-preserved
loop-cell-preserved c =
    let Nets : ℕ → Cell → Type 0 = λ _ x. PinsExist (length c.args.cells.now) x in
    let Widths : ℕ → Cell → Type 0 = λ _ x. HasRightWidths (widths_of (map cell_of c.args.cells.now)) x in (
      mapped_more Nets cell_of c.args.cells.now c.loop-cell.cell-index _ c.loop-cell-test.true c.loop-cell.invariant.0 (c.is_right.ensures.nets c.if-not-is_right.false),
      mapped_more Widths cell_of c.args.cells.now c.loop-cell.cell-index _ c.loop-cell-test.true c.loop-cell.invariant.1 (c.is_right.ensures.widths c.if-not-is_right.false),
    )

pub returns-clause-nets : goal.returns-clause-nets
returns-clause-nets c _ =
    let Nets : ℕ → Cell → Type 0 = λ _ x. PinsExist (length c.args.cells.now) x in
    rw length-map (mapped_all Nets cell_of c.args.cells.now c.loop-cell.cell-index c.loop-cell-test.false c.loop-cell.invariant.0)

pub returns-clause-widths : goal.returns-clause-widths
returns-clause-widths c _ =
    let Widths : ℕ → Cell → Type 0 = λ _ x. HasRightWidths (widths_of (map cell_of c.args.cells.now)) x in
    mapped_all Widths cell_of c.args.cells.now c.loop-cell.cell-index c.loop-cell-test.false c.loop-cell.invariant.1
