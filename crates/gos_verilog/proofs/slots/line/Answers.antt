use Rattle.std.proofs.Common.{ℕ, List, subst}
use Rattle.std.proofs.lemmas.Result.{err_from_is_err_and}
use Rattle.gos_lex.specs.Items.{IsJust, Misses}
use Rattle.gos_lex.proofs.PassedLemmas.{passed_both, passed_item}
use Rattle.gos_verilog.specs.inner.Runs.{run_text}
use Rattle.gos_verilog.specs.inner.Slots.{Slot', slot_text}
use Rattle.gos_verilog.proofs.SlotLemmas.{no_line_slots, no_line_tail}
use Rattle.gos_verilog.proofs.slots.line.Goals as goal

pub returns-in_err-numbers-clause-wrong : goal.returns-in_err-numbers-clause-wrong
returns-in_err-numbers-clause-wrong c =
    let old = c.args.cursor.now in
    let known = no_line_slots c.args.slots.now c.args.tail.now old.text old.at c.in_err-numbers.field-0.0 c.in_err-numbers.ensures.wrong in
    let p = err_from_is_err_and c.from_residual.result c.from_residual.ensures.1 in
    rw (p.1, p.2) known

pub returns-in_err-word-clause-wrong : goal.returns-in_err-word-clause-wrong
returns-in_err-word-clause-wrong c =
    let old = c.args.cursor.now in
    let mid = c.slots_of.new.cursor in
    let numbers = c.in_ok-numbers.ensures in
    let missed = subst (λ (text : List ℕ). Misses (IsJust c.args.tail.now) text mid.at c.in_err-word.field-0.0) numbers.passed.text c.in_err-word.ensures.wrong in
    let known = no_line_tail c.args.slots.now c.args.tail.now c.in_ok-numbers.numbers.items old.text old.at mid.at c.in_err-word.field-0.0 c.requires.right numbers.fit numbers.passed.after numbers.passed.within numbers.passed.is missed in
    let p = err_from_is_err_and c.from_residual-in_err-word.result c.from_residual-in_err-word.ensures.1 in
    rw (p.1, p.2) known

pub returns-clause-passed : goal.returns-clause-passed
returns-clause-passed c =
    let word = c.in_ok-word.ensures in
    let mid = c.slots_of.new.cursor in
    let new = c.word.new.self in
    passed_both c.args.cursor.now mid new (run_text Slot' ℕ slot_text c.args.slots.now c.in_ok-numbers.numbers.items) c.args.tail.now c.in_ok-numbers.ensures.passed
    (passed_item (IsJust c.args.tail.now) mid new c.args.tail.now word.text word.passes.item word.passes)
