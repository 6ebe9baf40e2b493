use Rattle.std.proofs.Common.{◌≡◌, ◌+◌, ◌∷◌, [], ℕ, List, get_or, sym, ◌∙◌, ap, subst}
use Rattle.std.specs.Prelude.{codes}
use Rattle.std.proofs.lemmas.Result.{err_from_is_err_and}
use Rattle.gos_lex.specs.Items.{TextAt, Misses}
use Rattle.gos_lex.specs.ItemTexts.{Passed}
use Rattle.gos_verilog.specs.declared.slots.TheConstants.{LAST_BIT}
use Rattle.gos_verilog.specs.inner.Slots.{Slot', FitSlots, line_text, IsLine}
use Rattle.gos_verilog.specs.inner.Left.{IsShapeOf, shape_text}
use Rattle.gos_verilog.proofs.PlaceLemmas.{start_at}
use Rattle.gos_verilog.proofs.LeftCellLemmas.{shape_slots, shape_misses, shape_passed}
use Rattle.gos_verilog.proofs.declared.declared_as.Goals as goal

pub returns-in_err-numbers-clause-wrong : goal.returns-in_err-numbers-clause-wrong
returns-in_err-numbers-clause-wrong c =
    let old = c.new-cursor.result in
    let i = c.args.i in
    let register = c.args.register in
    let rest = c.args.rest.now in
    let place = c.in_err-numbers.field-0.0 in
    let slots : record { before = c.shape_word.result.now; low = 0; high = LAST_BIT; end = 58 } ∷ c.exactly.result ∷ [] ≡ shape_slots register i =
    λ j. record { before = c.shape_word.ensures j; low = 0; high = LAST_BIT; end = 58 } ∷ c.exactly.ensures j ∷ [] in
    let wrong = subst (λ (list : List Slot'). Misses (IsLine list (codes "\n")) old.text old.at place) slots c.in_err-numbers.ensures.wrong in
    let known = subst (λ (t : TextAt). Misses (IsShapeOf register i) t.text t.at place) (start_at old rest c.new-cursor.ensures.text c.new-cursor.ensures.at) (shape_misses register i old.text old.at place wrong) in
    let p = err_from_is_err_and c.from_residual.result c.from_residual.ensures.1 in
    rw (p.1, p.2) known

pub returns-clause-passed : goal.returns-clause-passed
returns-clause-passed c =
    let old = c.new-cursor.result in
    let new = c.line.new.cursor in
    let i = c.args.i in
    let register = c.args.register in
    let rest = c.args.rest.now in
    let ns = c.in_ok-numbers.numbers.items in
    let slots : record { before = c.shape_word.result.now; low = 0; high = LAST_BIT; end = 58 } ∷ c.exactly.result ∷ [] ≡ shape_slots register i =
    λ j. record { before = c.shape_word.ensures j; low = 0; high = LAST_BIT; end = 58 } ∷ c.exactly.ensures j ∷ [] in
    let fit = subst (λ (list : List Slot'). FitSlots list ns) slots c.in_ok-numbers.ensures.fit in
    let passed = subst (λ (list : List Slot'). Passed old new (line_text list (codes "\n") ns)) slots c.in_ok-numbers.ensures.passed in
    let known = shape_passed register i old new ns fit passed in
    let number : get_or ns 0 0 ≡ get_or c.deref.result.now 0 0 = ap (λ (list : List ℕ). get_or list 0 0) (sym c.deref.ensures) in
    let line = subst (λ (n : ℕ). Passed old new (shape_text i (record { width = n + 1; register = register }))) number known.1 in
    let end : new ≡ record { text = rest; at = c.at.result } = λ j. record { text = (passed.text ∙ c.new-cursor.ensures.text) j; at = sym c.at.ensures.at j } in
    let word : List ℕ = shape_text i (record { width = get_or c.deref.result.now 0 0 + 1; register = register }) in
    subst (λ (t : TextAt). Passed (record { text = rest; at = 0 }) t word) end (subst (λ (t : TextAt). Passed t new word) (start_at old rest c.new-cursor.ensures.text c.new-cursor.ensures.at) line)
