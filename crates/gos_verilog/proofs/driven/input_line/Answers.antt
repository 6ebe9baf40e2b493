use Rattle.std.proofs.Common.{◌≡◌, ◌++◌, ◌∷◌, ℕ, List, [], sym, ◌∙◌, subst}
use Rattle.std.specs.Prelude.{codes}
use Rattle.std.proofs.lemmas.Result.{err_from_is_err_and}
use Rattle.gos_lex.specs.Items.{TextAt, IsJust, Misses}
use Rattle.gos_netlist.specs.Nets.{Input}
use Rattle.gos_lex.specs.ItemTexts.{Passed}
use Rattle.gos_lex.proofs.PassedLemmas.{passed_both, passed_as}
use Rattle.gos_verilog.specs.Lines.{driver_of}
use Rattle.gos_verilog.specs.inner.CellLines.{target_slot}
use Rattle.gos_verilog.specs.inner.Slots.{Slot', FitSlots, line_text, IsLine}
use Rattle.gos_verilog.proofs.WordLemmas.{first_word, second_word}
use Rattle.gos_verilog.proofs.PlaceLemmas.{start_at}
use Rattle.gos_verilog.proofs.LeftDriverLemmas.{input_front, input_text, front_misses, front_passed}
use Rattle.gos_verilog.proofs.driven.input_line.Goals as goal

-- what breaks off from the start of a text
at_start : (cursor : TextAt) (text word : List ℕ) (i w : ℕ) (name : List ℕ) (place : ℕ) → cursor.text ≡ text → cursor.at ≡ 0 → Misses (IsJust (input_front i ++ (name ++ codes ";\n"))) cursor.text cursor.at place
    → Misses (IsJust (driver_of i w name Input)) text 0 place
at_start cursor text word i w name place same at misses =
    subst (λ (bytes : List ℕ). Misses (IsJust bytes) text 0 place) (input_text i w name)
    (subst (λ (t : TextAt). Misses (IsJust (input_front i ++ (name ++ codes ";\n"))) t.text t.at place) (start_at cursor text same at) misses)

pub returns-in_err-line-clause-wrong : goal.returns-in_err-line-clause-wrong
returns-in_err-line-clause-wrong c =
    let old = c.new-cursor.result in
    let i = c.args.i in
    let name = c.args.name.now in
    let place = c.in_err-line.field-0.0 in
    let slot : c.target.result ≡ target_slot i = c.target.ensures in
    let wrong = subst (λ (s : Slot'). Misses (IsLine (s ∷ []) (codes "= ")) old.text old.at place) slot c.in_err-line.ensures.wrong in
    let known = first_word (input_front i) (name ++ codes ";\n") old.text old.at place (front_misses i old.text old.at place wrong) in
    let p = err_from_is_err_and c.from_residual.result c.from_residual.ensures.1 in
    rw (p.1, p.2) (λ w. at_start old c.args.rest.now [] i w name place c.new-cursor.ensures.text c.new-cursor.ensures.at known)

pub returns-in_err-pass-clause-wrong : goal.returns-in_err-pass-clause-wrong
returns-in_err-pass-clause-wrong c =
    let old = c.new-cursor.result in
    let mid = c.line.new.cursor in
    let i = c.args.i in
    let name = c.args.name.now in
    let place = c.in_err-pass.field-0.0 in
    let ns = c.in_ok-line.field-0.items in
    let slot : c.target.result ≡ target_slot i = c.target.ensures in
    let fit = subst (λ (s : Slot'). FitSlots (s ∷ []) ns) slot c.in_ok-line.ensures.fit in
    let passed = subst (λ (s : Slot'). Passed old mid (line_text (s ∷ []) (codes "= ") ns)) slot c.in_ok-line.ensures.passed in
    let known = second_word (input_front i) (name ++ codes ";\n") old mid place (front_passed i old mid ns fit passed) (first_word name (codes ";\n") mid.text mid.at place c.in_err-pass.ensures.wrong) in
    let p = err_from_is_err_and c.from_residual-in_err-pass.result c.from_residual-in_err-pass.ensures.1 in
    rw (p.1, p.2) (λ w. at_start old c.args.rest.now [] i w name place c.new-cursor.ensures.text c.new-cursor.ensures.at known)

pub returns-in_err-pass-2-clause-wrong : goal.returns-in_err-pass-2-clause-wrong
returns-in_err-pass-2-clause-wrong c =
    let old = c.new-cursor.result in
    let mid = c.line.new.cursor in
    let last = c.pass.new.cursor in
    let i = c.args.i in
    let name = c.args.name.now in
    let place = c.in_err-pass-2.field-0.0 in
    let ns = c.in_ok-line.field-0.items in
    let slot : c.target.result ≡ target_slot i = c.target.ensures in
    let fit = subst (λ (s : Slot'). FitSlots (s ∷ []) ns) slot c.in_ok-line.ensures.fit in
    let passed = subst (λ (s : Slot'). Passed old mid (line_text (s ∷ []) (codes "= ") ns)) slot c.in_ok-line.ensures.passed in
    let known = second_word (input_front i) (name ++ codes ";\n") old mid place (front_passed i old mid ns fit passed)
    (second_word name (codes ";\n") mid last place c.in_ok-pass.ensures.passed c.in_err-pass-2.ensures.wrong) in
    let p = err_from_is_err_and c.from_residual-in_err-pass-2.result c.from_residual-in_err-pass-2.ensures.1 in
    rw (p.1, p.2) (λ w. at_start old c.args.rest.now [] i w name place c.new-cursor.ensures.text c.new-cursor.ensures.at known)

pub returns-clause-passed : goal.returns-clause-passed
returns-clause-passed c = λ w.
    let old = c.new-cursor.result in
    let mid = c.line.new.cursor in
    let last = c.pass.new.cursor in
    let new = c.pass-2.new.cursor in
    let i = c.args.i in
    let name = c.args.name.now in
    let rest = c.args.rest.now in
    let ns = c.in_ok-line.field-0.items in
    let slot : c.target.result ≡ target_slot i = c.target.ensures in
    let fit = subst (λ (s : Slot'). FitSlots (s ∷ []) ns) slot c.in_ok-line.ensures.fit in
    let passed = subst (λ (s : Slot'). Passed old mid (line_text (s ∷ []) (codes "= ") ns)) slot c.in_ok-line.ensures.passed in
    let whole = passed_both old mid new (input_front i) (name ++ codes ";\n") (front_passed i old mid ns fit passed) (passed_both mid last new name (codes ";\n") c.in_ok-pass.ensures.passed c.in_ok-pass-2.ensures.passed) in
    let line = passed_as old new (input_front i ++ (name ++ codes ";\n")) (driver_of i w name Input) (input_text i w name) whole in
    let start = start_at old rest c.new-cursor.ensures.text c.new-cursor.ensures.at in
    let end : new ≡ record { text = rest; at = c.at.result } = λ j. record { text = (whole.text ∙ c.new-cursor.ensures.text) j; at = sym c.at.ensures.at j } in
    subst (λ (t : TextAt). Passed (record { text = rest; at = 0 }) t (driver_of i w name Input)) end (subst (λ (t : TextAt). Passed t new (driver_of i w name Input)) start line)
