use Rattle.std.proofs.Common.{◌≡◌, ◌<◌, true, false, length, refl, sym, ◌∙◌, ap, arith, get_or}
use Rattle.std.proofs.lemmas.Option.{slice_get_read, slice_get_within}
use Rattle.std.proofs.lemmas.Slice.Eq.{bytes_eq-Decides}
use Rattle.gos_witness.specs.declared.program.ProgramPort.{ProgramPort}
use Rattle.gos_witness.proofs.MaskLemmas.{none_with_next}
use Rattle.gos_witness.proofs.masks.port_of.Goals as goal

pub returns-then-eq : goal.returns-then-eq
returns-then-eq c =
    let ports = c.args.ports.now in
    let p = c.index-ports-number.result in
    let read : ProgramPort = get_or ports c.in-Some.number p in
    let same : p.name ≡ c.args.name.now =
    ap (λ (q : ProgramPort). q.name) c.index-ports-number.is ∙ (bytes_eq-Decides read.name c.args.name.now).0 (sym c.eq.ensures ∙ c.if-eq.true) in
    let less : c.in-Some.number < length ports = grind (arith, c.if-number-ports.true) in
    (grind (arith, c.if-number-gt0.true), p, slice_get_read ports (length ports) c.in-Some.number p refl less c.index-ports-number.is, same)

pub returns-then-eq-2 : goal.returns-then-eq-2
returns-then-eq-2 c =
    let ports = c.args.ports.now in
    let p = c.index-ports-number-in-loop-number.result in
    let read : ProgramPort = get_or ports c.loop-number.number p in
    let same : p.name ≡ c.args.name.now =
    ap (λ (q : ProgramPort). q.name) c.index-ports-number-in-loop-number.is
    ∙ (bytes_eq-Decides read.name c.args.name.now).0 (sym c.eq-in-loop-number.ensures ∙ c.if-eq-2.true) in
    let less : c.loop-number.number < length ports = grind (arith, c.loop-number-test.true) in
    (grind (arith, c.loop-number.auto.number), p, slice_get_read ports (length ports) c.loop-number.number p refl less c.index-ports-number-in-loop-number.is, same)

pub loop-number-preserved : goal.loop-number-preserved
loop-number-preserved c =
    let ports = c.args.ports.now in
    let p = c.index-ports-number-in-loop-number.result in
    let less : c.loop-number.number < length ports = grind (arith, c.loop-number-test.true) in
    let read : ProgramPort = get_or ports c.loop-number.number p in
    let other : p.name ≡ c.args.name.now → ⊥ = λ e.
    let named : read.name ≡ c.args.name.now = ap (λ (q : ProgramPort). q.name) (sym c.index-ports-number-in-loop-number.is) ∙ e in
    let both : false ≡ true = sym c.if-eq-2.false ∙ (c.eq-in-loop-number.ensures ∙ (bytes_eq-Decides read.name c.args.name.now).1 named) in
    cc both in
    none_with_next ports c.args.name.now c.loop-number.number p c.loop-number.invariant
    (slice_get_read ports (length ports) c.loop-number.number p refl less c.index-ports-number-in-loop-number.is) other

pub returns : goal.returns
returns c = λ k p some at e.
    let within = slice_get_within c.args.ports.now k p at in
    c.loop-number.invariant k p some (grind (arith, within, c.loop-number-test.false)) at e
