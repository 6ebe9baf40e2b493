use Rattle.std.proofs.Common.{◌≡◌, ◌+◌, length, ap, ◌∙◌, subst, List, ℕ}
use Rattle.gos_netlist.specs.inner.Passes.{pass, after_passes}
use Rattle.gos_netlist.proofs.PassLemmas.{settled, unsettled}
use Rattle.gos_netlist.proofs.SettlingLemmas.{unsettled_has_cycle}
use Rattle.gos_netlist.proofs.passes.settle.Goals as goal

pub returns-then-eq-clause-settled : goal.returns-then-eq-clause-settled
returns-then-eq-clause-settled c =
    let seen = ap (λ n. n.cells) c.net.view_is in
    let next = rw (c.deref-2.ensures.value, c.deref-3.ensures.value) at c.in_ok-next.ensures in
    settled _ _ _ _ _ (next ∙ ap (λ cells. pass cells c.args.registers.now c.args.inputs.now c.in_ok-values.values.items) seen) c.if-eq.ensures

pub returns-else-eq-clause-unsettled : goal.returns-else-eq-clause-unsettled
returns-else-eq-clause-unsettled c _ =
    let seen = ap (λ n. n.cells) c.net.view_is in
    let next = rw (c.deref-2.ensures.value, c.deref-3.ensures.value) at c.in_ok-next.ensures in
    let values = rw c.deref.ensures.value at c.in_ok-values.ensures in
    let passes = values ∙ ap (λ cells. after_passes (length cells + 1) cells c.args.registers.now c.args.inputs.now) seen in
    let changes = unsettled _ _ _ _ _ (next ∙ ap (λ cells. pass cells c.args.registers.now c.args.inputs.now c.in_ok-values.values.items) seen) c.if-eq.ensures in
    let P : List ℕ → Type 0 = λ v. pass c.args.net.now.cells c.args.registers.now c.args.inputs.now v ≡ v → ⊥ in
    unsettled_has_cycle c.args.net.now.cells c.args.registers.now c.args.inputs.now (subst P passes changes)
