use Rattle.std.proofs.Common.{◌≡◌, ◌-◌, ◌∷◌, ◌++◌, [], ℕ, suc, List, map, ap, subst, sym, ◌∙◌, arith}
use Rattle.std.proofs.lemmas.List.{map-append}
use Rattle.gos_netlist.specs.Nets.{Cell}
use Rattle.gos_netlist.specs.Seen.{cell_of}
use Rattle.gos_netlist.specs.NetText.{cell_text}
use Rattle.gos_netlist.specs.Writable.{IsWritableCell}
use Rattle.gos_netlist.proofs.CellLemmas.{cell_code}
use Rattle.gos_netlist.proofs.LinesLemmas.{LinesSoFar, one_line_more, no_line_more}
use Rattle.gos_netlist.proofs.sections.cell_lines.Goals as goal

pub loop-left-preserved : goal.loop-left-preserved
loop-left-preserved c =
    let left : ℕ = c.loop-left.left - 1 in
    let fewer : c.loop-left.left ≡ suc left = omega (arith, c.loop-left-test.true) in
    let known = one_line_more Cell IsWritableCell cell_text cell_code c.args.count c.args.cursor.now c.loop-left.cursor c.cell.new.cursor (map cell_of c.loop-left.cells.items) c.loop-left.left left (cell_of c.in-Ok.cell) fewer c.loop-left.invariant c.in-Ok.ensures.cell c.in-Ok.ensures.passed in
    let longer : map cell_of c.push.new.self.items ≡ map cell_of c.loop-left.cells.items ++ cell_of c.in-Ok.cell ∷ [] =
    ap (map cell_of) c.in_ok-push-in-Ok.ensures.items ∙ map-append cell_of c.loop-left.cells.items (c.in-Ok.cell ∷ []) in
    subst (λ (cells : List Cell). LinesSoFar Cell IsWritableCell cell_text c.args.count c.args.cursor.now c.cell.new.cursor cells left) (sym longer) known

pub returns-in-Err-clause-wrong : goal.returns-in-Err-clause-wrong
returns-in-Err-clause-wrong c =
    let left : ℕ = c.loop-left.left - 1 in
    let fewer : c.loop-left.left ≡ suc left = omega (arith, c.loop-left-test.true) in
    no_line_more Cell IsWritableCell cell_text c.args.count c.args.cursor.now c.loop-left.cursor (map cell_of c.loop-left.cells.items) c.loop-left.left left c.in-Err.at fewer c.loop-left.invariant c.in-Err.ensures.wrong
