use Rattle.std.proofs.Common.{◌≡◌, ◌+◌, ◌-◌, ◌∷◌, [], ℕ, List, inr, length, take, drop, length-append, length-drop, sym, ◌∙◌, ap, subst, arith}
use Rattle.std.specs.List.{AllByRecursion}
use Rattle.gos_lex.specs.Items.{Misses}
use Rattle.gos_lex.proofs.PlaceLemmas.{rest_whole}
use Rattle.gos_verilog.specs.declared.declared.Shape.{Shape}
use Rattle.gos_verilog.specs.inner.Left.{IsShape, IsShapeLine, shape_text}
use Rattle.gos_verilog.proofs.ListLemmas.{all_snoc}
use Rattle.gos_verilog.proofs.WordLemmas.{shift_passed, shift_misses}
use Rattle.gos_verilog.proofs.LeftCellLemmas.{shapes_more}
use Rattle.gos_verilog.proofs.declared.cell_declarations.Goals as goal

pub loop-i-preserved : goal.loop-i-preserved
loop-i-preserved c =
    let text = c.args.text.now in
    let at = c.loop-i.at in
    let i = c.loop-i.i in
    let shapes = c.loop-i.shapes.items in
    let shape = c.in-Ok.shape in
    let len = c.in-Ok.len in
    let longer = c.in_ok-push-in-Ok.ensures.items in
    let rest : List ℕ = take (length text - at) (drop at text) in
    let size : length rest ≡ length text - at = ap length (rest_whole text at) ∙ length-drop at text in
    record {
      within = omega (arith, size, c.in-Ok.ensures.within, c.loop-i.invariant.within);
      widths = subst (λ (list : List Shape). AllByRecursion IsShape list) (sym longer) (all_snoc Shape IsShape shapes shape c.loop-i.invariant.widths c.in-Ok.ensures.shape);
      count = ap length longer ∙ (length-append shapes (shape ∷ []) ∙ ap (λ (n : ℕ). n + 1) c.loop-i.invariant.count);
      passed =
          shapes_more shapes c.push.new.self.items shape i (record { text = text; at = c.args.at }) (record { text = text; at = at }) (record { text = text; at = at + len }) longer c.loop-i.invariant.count c.loop-i.invariant.passed
          (shift_passed text rest at len (shape_text i shape) (rest_whole text at) (omega (arith, size, c.loop-i.invariant.within)) c.in-Ok.ensures.passed);
    }

pub returns-in-Err-clause-ends : goal.returns-in-Err-clause-ends
returns-in-Err-clause-ends c =
    let text = c.args.text.now in
    let at = c.loop-i.at in
    let i = c.loop-i.i in
    let rest : List ℕ = take (length text - at) (drop at text) in
    let size : length rest ≡ length text - at = ap length (rest_whole text at) ∙ length-drop at text in
    inr (
      omega (arith, c.loop-i.invariant.count, c.loop-i-test.true),
      subst (λ (n : ℕ). Misses (IsShapeLine n) text at (at + c.in-Err.place)) (sym c.loop-i.invariant.count)
          (shift_misses (IsShapeLine i) text rest at c.in-Err.place (rest_whole text at) (omega (arith, size, c.loop-i.invariant.within)) c.in-Err.ensures.wrong),
    )
