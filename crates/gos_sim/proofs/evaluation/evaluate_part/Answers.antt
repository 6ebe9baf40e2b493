use Rattle.std.proofs.Common.{◌∙◌, ◌+◌, ℕ, All, ap, arith, drop, length, map, refl, rules, subst, sym}
use Rattle.std.proofs.lemmas.List.{length-set, map-set}
use Rattle.std.proofs.lemmas.Option.{slice_get_read}
use Rattle.gos_netlist.specs.Settling.{Numbers}
use Rattle.gos_sim.specs.inner.Program.{IsSized, IsStepWithin}
use Rattle.gos_sim.specs.inner.Evaluation.{after, steps_from}
use Rattle.gos_sim.proofs.EvaluationLemmas.{next_after, next_step, none_left}
use Rattle.gos_sim.proofs.evaluation.evaluate_part.Goals as goal

pub value-value-requires-clause-within : goal.value-value-requires-clause-within
value-value-requires-clause-within g c =
    let is = slice_get_read c.args.operands.now (length c.args.operands.now) c.loop-operand.operand-index c.operand-item.result refl c.loop-operand-test.true c.operand-item.is in
    let next = next_step (IsStepWithin (length c.loop-operand.values)) (g.O.Operation.width c.args.operation.now) (g.O.Operation.gate c.args.operation.now) c.loop-operand.place c.args.operands.now c.loop-operand.operand-index c.operand-item.result is c.loop-operand.invariant.within in
    record { pins = next.0.reads }

pub value-value-requires-clause-sized : goal.value-value-requires-clause-sized
value-value-requires-clause-sized g c =
    let is = slice_get_read c.args.operands.now (length c.args.operands.now) c.loop-operand.operand-index c.operand-item.result refl c.loop-operand-test.true c.operand-item.is in
    (next_step (IsSized g.W.Word.bits) (g.O.Operation.width c.args.operation.now) (g.O.Operation.gate c.args.operation.now) c.loop-operand.place c.args.operands.now c.loop-operand.operand-index c.operand-item.result is c.loop-operand.invariant.sized).0

pub offset_bounds-values-place : goal.offset_bounds-values-place
offset_bounds-values-place g c =
    let is = slice_get_read c.args.operands.now (length c.args.operands.now) c.loop-operand.operand-index c.operand-item.result refl c.loop-operand-test.true c.operand-item.is in
    let next = next_step (IsStepWithin (length c.loop-operand.values)) (g.O.Operation.width c.args.operation.now) (g.O.Operation.gate c.args.operation.now) c.loop-operand.place c.args.operands.now c.loop-operand.operand-index c.operand-item.result is c.loop-operand.invariant.within in
    let below = next.0.net in
    search rules

pub bounds-values-place : goal.bounds-values-place
bounds-values-place g c =
    let is = slice_get_read c.args.operands.now (length c.args.operands.now) c.loop-operand.operand-index c.operand-item.result refl c.loop-operand-test.true c.operand-item.is in
    let next = next_step (IsStepWithin (length c.loop-operand.values)) (g.O.Operation.width c.args.operation.now) (g.O.Operation.gate c.args.operation.now) c.loop-operand.place c.args.operands.now c.loop-operand.operand-index c.operand-item.result is c.loop-operand.invariant.within in
    next.0.net

pub overflow_add-place : goal.overflow_add-place
overflow_add-place g c =
    let is = slice_get_read c.args.operands.now (length c.args.operands.now) c.loop-operand.operand-index c.operand-item.result refl c.loop-operand-test.true c.operand-item.is in
    let next = next_step (IsStepWithin (length c.loop-operand.values)) (g.O.Operation.width c.args.operation.now) (g.O.Operation.gate c.args.operation.now) c.loop-operand.place c.args.operands.now c.loop-operand.operand-index c.operand-item.result is c.loop-operand.invariant.within in
    let below = next.0.net in
    search rules

pub loop-operand-preserved : goal.loop-operand-preserved
loop-operand-preserved g c =
    let is = slice_get_read c.args.operands.now (length c.args.operands.now) c.loop-operand.operand-index c.operand-item.result refl c.loop-operand-test.true c.operand-item.is in
    let width = g.O.Operation.width c.args.operation.now in
    let gate = g.O.Operation.gate c.args.operation.now in
    let old = c.loop-operand.values in
    let number = g.W.Word.number in
    let next = next_step (IsStepWithin (length old)) width gate c.loop-operand.place c.args.operands.now c.loop-operand.operand-index c.operand-item.result is c.loop-operand.invariant.within in
    let sized = next_step (IsSized g.W.Word.bits) width gate c.loop-operand.place c.args.operands.now c.loop-operand.operand-index c.operand-item.result is c.loop-operand.invariant.sized in
    let each = length-set old c.loop-operand.place c.value-value.result in
    let left = steps_from width gate (c.loop-operand.place + 1) (drop (c.loop-operand.operand-index + 1) c.args.operands.now) in
    record {
      each = each ∙ c.loop-operand.invariant.each;
      within = subst (λ (n : ℕ). All (IsStepWithin n) left) (sym each) next.1;
      sized = sized.1;
      rest = ap (λ (v : Numbers). after left v) (map-set number old c.loop-operand.place c.value-value.result)
          ∙ (next_after width gate c.loop-operand.place c.args.operands.now c.loop-operand.operand-index c.operand-item.result (map number old) (number c.value-value.result) is c.value-value.ensures
          ∙ c.loop-operand.invariant.rest);
    }

pub returns : goal.returns
returns g c =
    sym (none_left (g.O.Operation.width c.args.operation.now) (g.O.Operation.gate c.args.operation.now) c.loop-operand.place c.args.operands.now c.loop-operand.operand-index (map g.W.Word.number c.loop-operand.values) (omega (arith, c.loop-operand-test.false)))
    ∙ c.loop-operand.invariant.rest
