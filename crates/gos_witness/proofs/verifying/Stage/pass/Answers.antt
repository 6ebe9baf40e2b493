use Rattle.std.proofs.Common.{rules, ◌≡◌, ◌<◌, ◌≤◌, ◌+◌, ℕ, suc, Bool, true, false, length, drop, sym, subst, arith, ◌∙◌}
use Rattle.std.proofs.lemmas.Bool.{eq-eqb}
use Rattle.gos_witness.specs.Lines.{IsIdle, limit}
use Rattle.gos_witness.specs.inner.Stages.{IsMade, IsPassed}
use Rattle.gos_witness.proofs.PassLemmas.{got, idle_here, not_idle_here, passed_idle, passed_wrong, passed_large, passed_one, passed_same}
use Rattle.gos_witness.proofs.verifying.Stage.pass.Goals as goal

pub returns-then-is_idle-clause-fault : goal.returns-then-is_idle-clause-fault
returns-then-is_idle-clause-fault c = λ not_memory.
    let lines = c.args.lines.now in
    let n = c.args.number in
    let line = c.line_at-line.result.now in
    let known = got lines n line c.line_at-line.ensures in
    let both = c.is_idle.ensures.0 c.if-is_idle.true in
    let last : suc n ≡ length lines = grind (arith, both.0) in
    passed_idle c.args.program.now c.args.labels.now lines n line c.args.self.now c.requires.passed known.0 known.1 (idle_here lines n line last both.1)

pub returns-then-not-branch-clause-fault : goal.returns-then-not-branch-clause-fault
returns-then-not-branch-clause-fault c = λ not_memory.
    let p = c.args.program.now in
    let labels = c.args.labels.now in
    let lines = c.args.lines.now in
    let n = c.args.number in
    let line = c.line_at-line.result.now in
    let g = c.args.self.now in
    let h = c.make.new.self in
    let known = got lines n line c.line_at-line.ensures in
    let off : c.in_ok-make.field-0 ≡ false = search rules in
    passed_wrong p labels lines n line g h c.requires.passed known.0 known.1 (subst (λ (b : Bool). IsMade p labels line g h b) off c.in_ok-make.ensures)

pub returns-then-nodes-gt-LARGEST_TERM-clause-fault : goal.returns-then-nodes-gt-LARGEST_TERM-clause-fault
returns-then-nodes-gt-LARGEST_TERM-clause-fault c = λ not_memory.
    let p = c.args.program.now in
    let labels = c.args.labels.now in
    let lines = c.args.lines.now in
    let n = c.args.number in
    let line = c.line_at-line.result.now in
    let g = c.args.self.now in
    let h = c.make.new.self in
    let known = got lines n line c.line_at-line.ensures in
    let on : c.in_ok-make.field-0 ≡ true = search rules in
    let off : c.is_idle.result ≡ false = search rules in
    let never : IsIdle line (drop (suc n) lines) → ⊥ =
    not_idle_here lines n line known.0 (λ last idle.
    let here : n + 1 ≡ length lines = omega (arith, last) in
    absurd (cc (sym off ∙ c.is_idle.ensures.1 (eq-eqb (n + 1) (length lines) here, idle)))) in
    let large : limit < c.in_ok-nodes.nodes = grind (arith, c.if-nodes-gt-LARGEST_TERM.true) in
    passed_large p labels lines n line g h c.in_ok-nodes.nodes c.requires.passed known.0 known.1
    (subst (λ (b : Bool). IsMade p labels line g h b) on c.in_ok-make.ensures) c.in_ok-nodes.ensures large never

pub returns-clause-passed : goal.returns-clause-passed
returns-clause-passed c =
    let p = c.args.program.now in
    let labels = c.args.labels.now in
    let lines = c.args.lines.now in
    let n = c.args.number in
    let line = c.line_at-line.result.now in
    let g = c.args.self.now in
    let h = c.make.new.self in
    let known = got lines n line c.line_at-line.ensures in
    let on : c.in_ok-make.field-0 ≡ true = search rules in
    let off : c.is_idle.result ≡ false = search rules in
    let never : IsIdle line (drop (suc n) lines) → ⊥ =
    not_idle_here lines n line known.0 (λ last idle.
    let here : n + 1 ≡ length lines = omega (arith, last) in
    absurd (cc (sym off ∙ c.is_idle.ensures.1 (eq-eqb (n + 1) (length lines) here, idle)))) in
    let few : c.in_ok-nodes.nodes ≤ limit = grind (arith, c.if-nodes-gt-LARGEST_TERM.false) in
    let passed : IsPassed p labels lines (suc n) h =
    passed_one p labels lines n line g h c.requires.passed known.0 known.1 (subst (λ (b : Bool). IsMade p labels line g h b) on c.in_ok-make.ensures)
    (subst (λ (k : ℕ). k ≤ limit) c.in_ok-nodes.ensures few) never in
    let e = c.in_ok-compact.ensures in
    passed_same p labels lines (suc n) h c.compact.new.self passed e.keeps e.running e.config e.store e.matched

pub compact-requires-clause-keeps : goal.compact-requires-clause-keeps
compact-requires-clause-keeps c =
    let p = c.args.program.now in
    let labels = c.args.labels.now in
    let on : c.in_ok-make.field-0 ≡ true = search rules in
    (subst (λ (b : Bool). IsMade p labels c.line_at-line.result.now c.args.self.now c.make.new.self b) on c.in_ok-make.ensures).0.program
