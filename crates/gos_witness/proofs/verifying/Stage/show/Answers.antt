use Rattle.std.proofs.Common.{◌≡◌, ◌<◌, ◌+◌, ℕ, suc, List, Option, Some, None, length, refl, sym, subst, arith, ◌∙◌}
use Rattle.gos_witness.specs.declared.program.ProgramPort.{ProgramPort}
use Rattle.gos_witness.specs.declared.verifying.Stage.{Stage}
use Rattle.gos_witness.specs.NodeLists.{seen}
use Rattle.gos_witness.specs.Ports.{imports_of, label_of}
use Rattle.gos_witness.specs.inner.Changes.{ShowsAt}
use Rattle.gos_witness.proofs.StageLemmas.{of_port, show_none, show_wrong, show_made}
use Rattle.gos_witness.proofs.verifying.Stage.show.Goals as goal

pub returns-in_default : goal.returns-in_default
returns-in_default c =
    let g = c.args.self.now in
    show_none c.args.program.now c.args.labels.now g g c.args.root c.args.path.now c.requires.running (sym c.requires.label ∙ c.in_default.is)

pub show_at-requires-clause-port : goal.show_at-requires-clause-port
show_at-requires-clause-port c =
    let o = c.in-Some.label in
    subst (λ (ports : List ProgramPort). o.port < length ports) (sym c.ports-ports.ensures.value)
    (of_port c.args.program.now.ports c.args.labels.now c.args.self.now.matched o c.requires.labels (sym c.requires.label ∙ c.in-Some.is))

pub returns-in_default-2 : goal.returns-in_default-2
returns-in_default-2 c =
    let g = c.args.self.now in
    let o = c.in-Some.label in
    let l = c.show_at.new.list in
    let m = seen g.list c.args.root in
    let path = c.args.path.now in
    let here = c.ports-ports.result.now in
    let none = subst (λ (q : Option ℕ). ShowsAt l (imports_of here) (label_of here o) path m q) c.in_default-2.is c.in_ok-next.ensures.outcome in
    show_wrong c.args.program.now c.args.labels.now g g l c.args.root path o c.requires.running (sym c.requires.label ∙ c.in-Some.is)
    (subst (λ (ports : List ProgramPort). ShowsAt l (imports_of ports) (label_of ports o) path m None) c.ports-ports.ensures.value none)

pub returns : goal.returns
returns c =
    let g = c.args.self.now in
    let o = c.in-Some.label in
    let l = c.show_at.new.list in
    let m = seen g.list c.args.root in
    let path = c.args.path.now in
    let here = c.ports-ports.result.now in
    let h : Stage = record { list = l; running = Some c.in-Some-2.next; store = g.store; matched = g.matched + 1; limit = g.limit } in
    let some = subst (λ (q : Option ℕ). ShowsAt l (imports_of here) (label_of here o) path m q) c.in-Some-2.is c.in_ok-next.ensures.outcome in
    let next : g.matched + 1 ≡ suc g.matched = omega arith in
    show_made c.args.program.now c.args.labels.now g h c.args.root c.in-Some-2.next path o c.requires.stage c.requires.running (sym c.requires.label ∙ c.in-Some.is)
    (subst (λ (ports : List ProgramPort). ShowsAt l (imports_of ports) (label_of ports o) path m (Some c.in-Some-2.next)) c.ports-ports.ensures.value some)
    c.show_at.ensures.keeps refl refl next
