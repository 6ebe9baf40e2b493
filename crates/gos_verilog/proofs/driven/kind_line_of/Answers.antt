use Rattle.std.proofs.Common.{◌≡◌, ◌++◌, [], ℕ, List, drop, sym, ◌∙◌, subst}
use Rattle.std.proofs.lemmas.Result.{err_from_is_err_and}
use Rattle.gos_lex.specs.Items.{TextAt, Misses}
use Rattle.gos_lex.specs.ItemTexts.{Passed}
use Rattle.gos_netlist.specs.Seen.{function_of}
use Rattle.gos_verilog.specs.Lines.{driver_of}
use Rattle.gos_verilog.specs.inner.CellLines.{IsKindLine}
use Rattle.gos_lex.proofs.RestLemmas.{passed_rest}
use Rattle.gos_verilog.proofs.LineLemmas.{line_reads, line_wrong}
use Rattle.gos_verilog.proofs.driven.kind_line_of.Goals as goal

pub returns-in_err-gate-clause-wrong : goal.returns-in_err-gate-clause-wrong
returns-in_err-gate-clause-wrong c =
    let old = c.new-cursor.result in
    let place = c.in_err-gate.field-0.0 in
    let Line : List ℕ → Type 0 = IsKindLine c.args.kind c.args.i c.args.width in
    let misses = subst (λ (t : List ℕ). Misses Line t 0 place) c.new-cursor.ensures.text (subst (λ (n : ℕ). Misses Line old.text n place) c.new-cursor.ensures.at c.in_err-gate.ensures.wrong) in
    let p = err_from_is_err_and c.from_residual.result c.from_residual.ensures.1 in
    rw p.1 (line_wrong c.args.kind c.args.rest.now c.args.i c.args.width place misses)

-- the text begins with what was passed from its start on
from_start : (old new : TextAt) (text bytes : List ℕ) (at : ℕ) → old.text ≡ text → old.at ≡ 0 → at ≡ new.at → Passed old new bytes → text ≡ bytes ++ drop at text
from_start old new text bytes at same start place passed =
    (λ i. drop (sym start i) (sym same i)) ∙ (passed_rest old new bytes passed ∙ (λ i. bytes ++ drop (sym place i) ((passed.text ∙ same) i)))

pub returns-clause-reads : goal.returns-clause-reads
returns-clause-reads c f name x line =
    let g = function_of c.in_ok-gate.gate in
    let rest = c.args.rest.now in
    let is = from_start c.new-cursor.result c.kind_line.new.cursor rest (driver_of c.args.i c.args.width [] g) c.at.result c.new-cursor.ensures.text c.new-cursor.ensures.at c.at.ensures.at c.in_ok-gate.ensures.passed in
    line_reads c.args.kind rest c.args.i c.args.width g f name x (drop c.at.result rest) c.requires c.in_ok-gate.ensures.kind is line

pub returns-in_err-gate-clause-misses : goal.returns-in_err-gate-clause-misses
returns-in_err-gate-clause-misses c =
    let old = c.new-cursor.result in
    let place = c.in_err-gate.field-0.0 in
    let Line : List ℕ → Type 0 = IsKindLine c.args.kind c.args.i c.args.width in
    let misses = subst (λ (t : List ℕ). Misses Line t 0 place) c.new-cursor.ensures.text (subst (λ (n : ℕ). Misses Line old.text n place) c.new-cursor.ensures.at c.in_err-gate.ensures.wrong) in
    let p = err_from_is_err_and c.from_residual.result c.from_residual.ensures.1 in
    rw (p.1, p.2) misses
