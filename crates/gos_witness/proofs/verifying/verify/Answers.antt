use Rattle.std.proofs.Common.{rules, ◌≡◌, ◌<◌, ℕ, length, subst, arith}
use Rattle.gos_witness.specs.inner.Stages.{IsPassed}
use Rattle.gos_witness.proofs.PassLemmas.{passed_left}
use Rattle.gos_witness.proofs.verifying.verify.Goals as goal

pub returns-then-stage-labels-clause-fault : goal.returns-then-stage-labels-clause-fault
returns-then-stage-labels-clause-fault c = λ not_memory.
    let p = c.args.program.now in
    let labels = c.args.labels.now in
    let lines = c.args.lines.now in
    let g = c.loop-number.stage in
    let end : c.loop-number.number ≡ length lines = grind (arith, c.loop-number-test.false, c.loop-number.auto.number-end) in
    let some : g.matched < length labels = search rules in
    passed_left p labels lines g (subst (λ (k : ℕ). IsPassed p labels lines k g) end c.loop-number.invariant) some
