use Rattle.std.proofs.Common.{rules, ◌≡◌, ◌+◌, ◌∷◌, [], ℕ, List, length, drop, sym, ◌∙◌, ap, subst, arith, length-append}
use Rattle.std.proofs.Math.Seq.{drop-length}
use Rattle.std.proofs.lemmas.Result.{err_from_is_err_and}
use Rattle.gos_verilog.specs.inner.Slots.{Slot', IsSlot, IsRightSlot, slot_text}
use Rattle.gos_verilog.proofs.ListLemmas.{drop_at, all_at, all_drop}
use Rattle.gos_verilog.proofs.RunLemmas.{RunSoFar, none_yet, one_more, no_more, all_fit, all_passed}
use Rattle.gos_verilog.proofs.SlotLemmas.{slot_code, slots_some}
use Rattle.gos_verilog.proofs.slots.slots_of.Goals as goal

pub loop-slot-init : goal.loop-slot-init
loop-slot-init c =
    let old = c.args.cursor.now in
    let slots = c.args.slots.now in
    let nothing = c.new-numbers.ensures.items in
    record {
      far = subst (λ (ns : List ℕ). RunSoFar Slot' ℕ IsSlot slot_text slots old old ns slots) (sym nothing) (none_yet Slot' ℕ IsSlot slot_text slots old c.requires.within);
      room = search rules;
      count = ap length nothing;
    }

pub returns-in_err-n-clause-wrong : goal.returns-in_err-n-clause-wrong
returns-in_err-n-clause-wrong c =
    let old = c.args.cursor.now in
    let mid = c.loop-slot.cursor in
    let slots = c.args.slots.now in
    let k = c.loop-slot.slot-index in
    let s = c.slot-item.result in
    let left = drop (k + 1) slots in
    let cons = drop_at Slot' slots k s c.loop-slot-test.true c.slot-item.is in
    let far = subst (λ (l : List Slot'). RunSoFar Slot' ℕ IsSlot slot_text slots old mid c.loop-slot.numbers.items l) cons c.loop-slot.invariant.far in
    let known = no_more Slot' ℕ IsSlot slot_text slots old mid c.loop-slot.numbers.items s left c.in_err-n.field-0.0 (slots_some left (all_drop Slot' IsRightSlot slots (k + 1) c.requires.right)) far c.in_err-n.ensures.wrong in
    let p = err_from_is_err_and c.from_residual.result c.from_residual.ensures.1 in
    rw (p.1, p.2) known

pub push_reserved-requires : goal.push_reserved-requires
push_reserved-requires c =
    (omega arith, omega (arith, c.loop-slot.invariant.count, c.loop-slot.invariant.room, c.loop-slot-test.true, c.requires.few))

pub loop-slot-preserved : goal.loop-slot-preserved
loop-slot-preserved c =
    let old = c.args.cursor.now in
    let mid = c.loop-slot.cursor in
    let new = c.pass_slot.new.cursor in
    let slots = c.args.slots.now in
    let k = c.loop-slot.slot-index in
    let s = c.slot-item.result in
    let left = drop (k + 1) slots in
    let ns = c.loop-slot.numbers.items in
    let cons = drop_at Slot' slots k s c.loop-slot-test.true c.slot-item.is in
    let right = all_at Slot' IsRightSlot slots k s c.loop-slot-test.true c.slot-item.is c.requires.right in
    let far = subst (λ (l : List Slot'). RunSoFar Slot' ℕ IsSlot slot_text slots old mid ns l) cons c.loop-slot.invariant.far in
    let known = one_more Slot' ℕ IsSlot slot_text slots old mid new ns s left c.in_ok-n.n (slot_code s right) far c.in_ok-n.ensures.range c.in_ok-n.ensures.passed in
    let longer = c.push_reserved.ensures.items in
    record {
      far = subst (λ (all : List ℕ). RunSoFar Slot' ℕ IsSlot slot_text slots old new all left) (sym longer) known;
      room = search rules;
      count = ap length longer ∙ (length-append ns (c.in_ok-n.n ∷ []) ∙ ap (λ (n : ℕ). n + 1) c.loop-slot.invariant.count);
    }

pub returns-clause-fit : goal.returns-clause-fit
returns-clause-fit c =
    let slots = c.args.slots.now in
    let end : c.loop-slot.slot-index ≡ length slots = omega (arith, c.loop-slot-test.false, c.loop-slot.auto.slot-index-end) in
    let none = ap (λ (n : ℕ). drop n slots) end ∙ drop-length slots in
    all_fit Slot' ℕ IsSlot slot_text slots c.args.cursor.now c.loop-slot.cursor c.loop-slot.numbers.items
    (subst (λ (l : List Slot'). RunSoFar Slot' ℕ IsSlot slot_text slots c.args.cursor.now c.loop-slot.cursor c.loop-slot.numbers.items l) none c.loop-slot.invariant.far)

pub returns-clause-passed : goal.returns-clause-passed
returns-clause-passed c =
    let slots = c.args.slots.now in
    let end : c.loop-slot.slot-index ≡ length slots = omega (arith, c.loop-slot-test.false, c.loop-slot.auto.slot-index-end) in
    let none = ap (λ (n : ℕ). drop n slots) end ∙ drop-length slots in
    all_passed Slot' ℕ IsSlot slot_text slots c.args.cursor.now c.loop-slot.cursor c.loop-slot.numbers.items
    (subst (λ (l : List Slot'). RunSoFar Slot' ℕ IsSlot slot_text slots c.args.cursor.now c.loop-slot.cursor c.loop-slot.numbers.items l) none c.loop-slot.invariant.far)
