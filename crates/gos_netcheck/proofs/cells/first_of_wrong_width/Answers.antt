use Rattle.std.proofs.Common.{◌≡◌, ℕ, map, false, true, sym, ◌∙◌}
use Rattle.gos_netlist.specs.Nets.{Cell}
use Rattle.gos_netlist.specs.Seen.{cell_of}
use Rattle.gos_netcheck.specs.CellRules.{HasRightWidths, widths_of}
use Rattle.gos_netcheck.proofs.RuleLemmas.{mapped_more, mapped_breaks, mapped_all}
use Rattle.gos_netcheck.proofs.cells.first_of_wrong_width.Goals as goal

pub returns-then-not-has_right_widths : goal.returns-then-not-has_right_widths
returns-then-not-has_right_widths c =
    let Rule : ℕ → Cell → Type 0 = λ _ x. HasRightWidths (widths_of (map cell_of c.args.cells.now)) x in
    mapped_breaks Rule cell_of c.args.cells.now c.loop-n.n _ c.loop-n-test.true c.loop-n.invariant
    (λ kept. let no : false ≡ true = sym c.if-not-has_right_widths.true ∙ c.has_right_widths.ensures.1 kept in cc)

pub loop-n-preserved : goal.loop-n-preserved
loop-n-preserved c =
    let Rule : ℕ → Cell → Type 0 = λ _ x. HasRightWidths (widths_of (map cell_of c.args.cells.now)) x in
    mapped_more Rule cell_of c.args.cells.now c.loop-n.n _ c.loop-n-test.true c.loop-n.invariant
    (c.has_right_widths.ensures.0 c.if-not-has_right_widths.false)

pub returns : goal.returns
returns c =
    let Rule : ℕ → Cell → Type 0 = λ _ x. HasRightWidths (widths_of (map cell_of c.args.cells.now)) x in
    mapped_all Rule cell_of c.args.cells.now c.loop-n.n c.loop-n-test.false c.loop-n.invariant
