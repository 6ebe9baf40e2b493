use Rattle.std.proofs.Common.{◌≡◌, ◌∙◌, ℕ, List, get_or, refl, subst, arith}
use Rattle.gos_lex.specs.Items.{IsJust, Misses}
use Rattle.gos_verilog.specs.declared.port_net.Role.TheVariants.{Run}
use Rattle.gos_verilog.specs.inner.Breaks.{AllMiss, PassedIn}
use Rattle.gos_verilog.specs.inner.Faces.{port_text}
use Rattle.gos_verilog.proofs.AmongLemmas.{one_more_misses}
use Rattle.gos_verilog.proofs.FaceLemmas.{KindAt, kinds, kind_first, kinds_miss}
use Rattle.gos_verilog.proofs.faces.first_port.Goals as goal

pub loop-kind-preserved : goal.loop-kind-preserved
loop-kind-preserved c =
    let rest = c.args.rest.now in
    let name = c.args.name.now in
    let n = c.loop-kind.kind-index in
    let text : c.deref.result.now ≡ port_text (get_or kinds n Run, name) = c.deref.ensures.value ∙ c.in_ok-text.ensures in
    one_more_misses (KindAt name) rest 0 n c.loop-kind.furthest c.in-Err.at c.further-furthest.result c.loop-kind.invariant
    (subst (λ (b : List ℕ). Misses (IsJust b) rest 0 c.in-Err.at) text c.in-Err.ensures.wrong)
    c.further-furthest.ensures.at_least.0 c.further-furthest.ensures.at_least.1 c.further-furthest.ensures.one

pub returns-in-Ok-clause-face : goal.returns-in-Ok-clause-face
returns-in-Ok-clause-face c = (kind_first c.loop-kind.kind-index c.loop-kind-test.true, refl)

pub returns-in-Ok-clause-passed : goal.returns-in-Ok-clause-passed
returns-in-Ok-clause-passed c =
    let text : c.deref.result.now ≡ port_text (get_or kinds c.loop-kind.kind-index Run, c.args.name.now) = c.deref.ensures.value ∙ c.in_ok-text.ensures in
    subst (λ (b : List ℕ). PassedIn c.args.rest.now 0 c.in-Ok.end b) text c.in-Ok.ensures.passed

pub returns-clause-wrong : goal.returns-clause-wrong
returns-clause-wrong c =
    let all : c.loop-kind.kind-index ≡ 3 = omega (arith, c.loop-kind-test.false, c.loop-kind.auto.kind-index-end) in
    kinds_miss c.args.name.now c.args.rest.now c.loop-kind.furthest
    (subst (λ (n : ℕ). AllMiss (KindAt c.args.name.now) c.args.rest.now 0 n c.loop-kind.furthest) all c.loop-kind.invariant)
