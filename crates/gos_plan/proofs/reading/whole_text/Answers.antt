use Rattle.std.proofs.Common.{◌≡◌, ◌≢◌, ℕ, length, refl, sym, ◌∙◌, ap, subst}
use Rattle.std.proofs.lemmas.Result.{err_from_is_err_and}
use Rattle.gos_plan.specs.declared.fault.ObjectFault.TheVariants as faults
use Rattle.gos_plan.specs.Seen.{plan_of}
use Rattle.gos_plan.specs.ObjectFaults.{HasFault}
use Rattle.gos_plan.specs.inner.Values.{seen_values}
use Rattle.gos_plan.proofs.WholeLemmas.{from_start, fails_from_start, all_read, text_fails, fault_behind, in_range}
use Rattle.gos_plan.proofs.reading.whole_text.Goals as goal

pub returns-in_err-v-clause-wrong : goal.returns-in_err-v-clause-wrong
returns-in_err-v-clause-wrong c =
    let text = c.args.text.now in
    let fault = c.in_err-v.field-0.0 in
    let start = c.new-cursor.ensures in
    let known = text_fails text fault c.requires (fails_from_start text c.new-cursor.result fault start.text start.at c.in_err-v.ensures.wrong) in
    let p = err_from_is_err_and c.from_residual.result c.from_residual.ensures.1 in
    rw (p.1, p.2) known

pub returns-then-finished-clause-in_range : goal.returns-then-finished-clause-in_range
returns-then-finished-clause-in_range c =
    let read = c.in_ok-v.ensures.read in
    in_range c.in_ok-v.v.format (seen_values c.in_ok-v.v) read.is read.keeps c.in_ok-v.ensures.in_range

pub returns-then-finished-clause-is : goal.returns-then-finished-clause-is
returns-then-finished-clause-is c =
    let text = c.args.text.now in
    let new = c.sections.new.cursor in
    let start = c.new-cursor.ensures in
    let read = c.in_ok-v.ensures.read in
    let ended : new.at ≡ length text = c.if-finished.ensures.0 refl ∙ ap length (read.same ∙ start.text) in
    all_read text new (c.in_ok-v.v.format, plan_of (seen_values c.in_ok-v.v)) c.requires (from_start text c.new-cursor.result new (c.in_ok-v.v.format, plan_of (seen_values c.in_ok-v.v)) start.text start.at read) ended

pub returns-else-finished-clause-wrong : goal.returns-else-finished-clause-wrong
returns-else-finished-clause-wrong c =
    let text = c.args.text.now in
    let new = c.sections.new.cursor in
    let start = c.new-cursor.ensures in
    let read = c.in_ok-v.ensures.read in
    let more : new.at ≢ length text = λ same. absurd (cc (c.if-finished.ensures.1 (same ∙ sym (ap length (read.same ∙ start.text))))) in
    subst (λ (n : ℕ). HasFault text (faults.Form n)) (sym c.at.ensures.at)
    (fault_behind text new (c.in_ok-v.v.format, plan_of (seen_values c.in_ok-v.v)) c.requires (from_start text c.new-cursor.result new (c.in_ok-v.v.format, plan_of (seen_values c.in_ok-v.v)) start.text start.at read) more)
