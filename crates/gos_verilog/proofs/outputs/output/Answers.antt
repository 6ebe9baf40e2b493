use Rattle.std.proofs.Common.{◌≡◌, ◌++◌, ◌∷◌, [], refl, ℕ, List, rules, ◌∙◌, ap, subst, get_or}
use Rattle.std.specs.Prelude.{codes}
use Rattle.gos_lex.specs.Items.{Misses}
use Rattle.gos_lex.specs.ItemTexts.{Passed}
use Rattle.gos_verilog.specs.Lines.{assignment, cell_net}
use Rattle.gos_verilog.specs.inner.Slots.{FitSlots, line_text, IsLine}
use Rattle.gos_lex.proofs.RestLemmas.{not_missed}
use Rattle.gos_verilog.proofs.LeftOutputLemmas.{IsOutput, output_misses, output_passed, output_rest}
use Rattle.gos_verilog.proofs.outputs.output.Goals as goal

pub returns-clause-wrong : goal.returns-clause-wrong
returns-clause-wrong c =
    let old = c.args.cursor.now in
    let is : c.deref.result.now ≡ (codes "  assign " ++ c.args.name.now) ++ codes " = n" = search rules in
    let misses = subst (λ (before : List ℕ). Misses (IsLine (record { before = before; low = 0; high = 4294967295; end = 59 } ∷ []) (codes "\n")) old.text old.at c.in-Err.at) is c.in-Err.ensures.wrong in
    output_misses c.args.name.now old.text old.at c.in-Err.at misses

pub returns-clause-stands : goal.returns-clause-stands
returns-clause-stands c n x is left =
    let old = c.args.cursor.now in
    absurd (not_missed (IsOutput c.args.name.now) old.text old.at c.in-Err.at (assignment c.args.name.now (cell_net n)) x (returns-clause-wrong c) (n, is, refl) left)

pub returns-in-Ok-clause-stands : goal.returns-in-Ok-clause-stands
returns-in-Ok-clause-stands c n x is left =
    let name = c.args.name.now in
    let before : c.deref.result.now ≡ (codes "  assign " ++ name) ++ codes " = n" = search rules in
    let ns = c.in-Ok.numbers.items in
    let fit = subst (λ (b : List ℕ). FitSlots (record { before = b; low = 0; high = 4294967295; end = 59 } ∷ []) ns) before c.in-Ok.ensures.fit in
    let passed = subst (λ (b : List ℕ). Passed c.args.cursor.now c.line.new.cursor (line_text (record { before = b; low = 0; high = 4294967295; end = 59 } ∷ []) (codes "\n") ns)) before c.in-Ok.ensures.passed in
    let known = output_passed name c.args.cursor.now c.line.new.cursor ns fit passed in
    let told = output_rest name c.args.cursor.now c.line.new.cursor (get_or ns 0 0) n x known.0 is known.1 left in
    (ap (λ (list : List ℕ). get_or list 0 0) c.deref-in-Ok.ensures ∙ told.0, told.1)
