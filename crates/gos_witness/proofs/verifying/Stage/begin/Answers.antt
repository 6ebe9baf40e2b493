use Rattle.std.proofs.Common.{rules, ◌≡◌, ◌<◌, ◌+◌, ℕ, suc, true, false, Some, None, length, sym, ap, subst, arith, ◌∙◌}
use Rattle.std.specs.Prelude.{slice_get}
use Rattle.gos_witness.specs.declared.moves.Line.{Line}
use Rattle.gos_witness.specs.declared.verifying.Stage.{Stage}
use Rattle.gos_witness.specs.inner.Stages.{IsMade}
use Rattle.gos_witness.proofs.KeepLemmas.{keeps_same}
use Rattle.gos_witness.proofs.StageLemmas.{root_none, begin_wrong, begin_made}
use Rattle.gos_witness.proofs.verifying.Stage.begin.Goals as goal

pub returns-in_default-label : goal.returns-in_default-label
returns-in_default-label c =
    let p = c.args.program.now in
    let labels = c.args.labels.now in
    let g = c.args.self.now in
    let none : slice_get labels g.matched ≡ None = sym c.requires.label ∙ c.in_default-label.is in
    subst (λ (x : Line). IsMade p labels x g g false) (sym c.in-Root.is) (root_none p labels g g none)

pub returns-then-not-is_given : goal.returns-then-not-is_given
returns-then-not-is_given c =
    let p = c.args.program.now in
    let labels = c.args.labels.now in
    let g = c.args.self.now in
    let o = c.in-Some.label in
    let at : slice_get labels g.matched ≡ Some o = sym c.requires.label ∙ c.in-Some.is in
    let never : (o.port ≡ 0) × (o.place ≡ 0) × (o.value ≡ 0) → ⊥ = search rules in
    subst (λ (x : Line). IsMade p labels x g g false) (sym c.in-Root.is) (begin_wrong p labels g g o c.requires.idle at never)

pub returns : goal.returns
returns c =
    let p = c.args.program.now in
    let labels = c.args.labels.now in
    let g = c.args.self.now in
    let o = c.in-Some.label in
    let h : Stage = record { list = g.list; running = Some c.root.result; store = c.clear.new.self; matched = g.matched + 1; limit = g.limit } in
    let at : slice_get labels g.matched ≡ Some o = sym c.requires.label ∙ c.in-Some.is in
    let is : (o.port ≡ 0) × (o.place ≡ 0) × (o.value ≡ 0) = search rules in
    let there : p.root < length p.list.nodes = subst (λ (i : ℕ). i < length p.list.nodes) c.root.ensures.root c.root.ensures.there in
    let next : g.matched + 1 ≡ suc g.matched = omega arith in
    subst (λ (x : Line). IsMade p labels x g h true) (sym c.in-Root.is)
    (begin_made p labels g h o c.requires.stage there c.requires.idle at is.0 is.1 is.2 (keeps_same g.list) (ap (λ (i : ℕ). Some i) c.root.ensures.root)
    c.clear.ensures.items next)
