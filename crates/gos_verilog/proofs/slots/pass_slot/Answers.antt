use Rattle.std.proofs.Common.{ℕ, List, sym, subst}
use Rattle.std.specs.Fmt.{decimal}
use Rattle.std.proofs.lemmas.Result.{err_from_is_err_and}
use Rattle.gos_lex.specs.Items.{IsJust, Misses}
use Rattle.gos_lex.specs.ItemTexts.{IsTextOf, Passed, IsNumberText, ended}
use Rattle.gos_lex.proofs.PassedLemmas.{passed_both, passed_item}
use Rattle.gos_verilog.specs.inner.Slots.{Slot', IsSlot, IsRightSlot, slot_text}
use Rattle.gos_verilog.proofs.SlotLemmas.{no_slot_word, no_slot_number}
use Rattle.gos_verilog.proofs.slots.pass_slot.Goals as goal

pub returns-in_err-word-clause-wrong : goal.returns-in_err-word-clause-wrong
returns-in_err-word-clause-wrong c =
    let old = c.args.cursor.now in
    let s : Slot' = record { before = c.slot.inside.before.now; low = c.slot.inside.low; high = c.slot.inside.high; end = c.slot.inside.end } in
    let known = no_slot_word s old.text old.at c.in_err-word.field-0.0 (subst IsRightSlot (sym c.slot.view_is) c.requires) c.in_err-word.ensures.wrong in
    let here = subst (λ (t : Slot'). Misses (IsTextOf ℕ (IsSlot t) (slot_text t)) old.text old.at c.in_err-word.field-0.0) c.slot.view_is known in
    let p = err_from_is_err_and c.from_residual.result c.from_residual.ensures.1 in
    rw (p.1, p.2) here

pub returns-in_err-n-clause-wrong : goal.returns-in_err-n-clause-wrong
returns-in_err-n-clause-wrong c =
    let old = c.args.cursor.now in
    let mid = c.word.new.self in
    let s : Slot' = record { before = c.slot.inside.before.now; low = c.slot.inside.low; high = c.slot.inside.high; end = c.slot.inside.end } in
    let passes = c.in_ok-word.ensures.passes in
    let missed = subst (λ (text : List ℕ). Misses (IsNumberText s.low s.high s.end) text mid.at c.in_err-n.field-0.0) c.in_ok-word.ensures.text c.in_err-n.ensures.wrong in
    let known = no_slot_number s old.text old.at mid.at c.in_err-n.field-0.0 passes.after passes.within passes.item missed in
    let here = subst (λ (t : Slot'). Misses (IsTextOf ℕ (IsSlot t) (slot_text t)) old.text old.at c.in_err-n.field-0.0) c.slot.view_is known in
    let p = err_from_is_err_and c.from_residual-in_err-n.result c.from_residual-in_err-n.ensures.1 in
    rw (p.1, p.2) here

pub returns-clause-passed : goal.returns-clause-passed
returns-clause-passed c =
    let old = c.args.cursor.now in
    let mid = c.word.new.self in
    let new = c.ended_number.new.self in
    let s : Slot' = record { before = c.slot.inside.before.now; low = c.slot.inside.low; high = c.slot.inside.high; end = c.slot.inside.end } in
    let word = c.in_ok-word.ensures in
    let known = passed_both old mid new s.before (ended s.end (decimal c.in_ok-n.n)) (passed_item (IsJust s.before) old mid s.before word.text word.passes.item word.passes) c.in_ok-n.ensures.passed in
    subst (λ (t : Slot'). Passed old new (slot_text t c.in_ok-n.n)) c.slot.view_is known
