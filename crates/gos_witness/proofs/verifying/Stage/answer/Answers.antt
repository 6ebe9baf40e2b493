use Rattle.std.proofs.Common.{rules, ◌≡◌, ◌+◌, suc, None, refl, sym, arith, ◌∙◌}
use Rattle.gos_witness.specs.declared.verifying.Stage.{Stage}
use Rattle.gos_witness.proofs.KeepLemmas.{keeps_same}
use Rattle.gos_witness.proofs.StageLemmas.{root_none, value_none, value_wrong, value_made}
use Rattle.gos_witness.proofs.verifying.Stage.answer.Goals as goal

pub returns-in_default : goal.returns-in_default
returns-in_default c =
    let g = c.args.self.now in
    root_none c.args.program.now c.args.labels.now g g (sym c.requires.label ∙ c.in_default.is)

pub returns-in_default-value_of : goal.returns-in_default-value_of
returns-in_default-value_of c =
    let g = c.args.self.now in
    let o = c.in-Some.label in
    value_none c.args.program.now c.args.labels.now g g c.args.root o c.requires.running (sym c.requires.label ∙ c.in-Some.is) c.in_default-value_of.ensures

pub returns-then-not-is_given : goal.returns-then-not-is_given
returns-then-not-is_given c =
    let g = c.args.self.now in
    let o = c.in-Some.label in
    let k = c.in-Some-value_of.value in
    let never : (o.port ≡ 0) × (o.place ≡ 1) × (o.value ≡ k) → ⊥ = search rules in
    value_wrong c.args.program.now c.args.labels.now g g c.args.root o k c.requires.running (sym c.requires.label ∙ c.in-Some.is) c.in-Some-value_of.ensures never

pub returns : goal.returns
returns c =
    let g = c.args.self.now in
    let o = c.in-Some.label in
    let k = c.in-Some-value_of.value in
    let h : Stage = record { list = g.list; running = None; store = g.store; matched = g.matched + 1; limit = g.limit } in
    let is : (o.port ≡ 0) × (o.place ≡ 1) × (o.value ≡ k) = search rules in
    let next : g.matched + 1 ≡ suc g.matched = omega arith in
    value_made c.args.program.now c.args.labels.now g h c.args.root o k c.requires.stage c.requires.running (sym c.requires.label ∙ c.in-Some.is) c.in-Some-value_of.ensures is
    (keeps_same g.list) refl c.requires.stage.narrow next
