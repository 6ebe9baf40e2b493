use Rattle.std.proofs.Common.{◌≡◌, ℕ, inl, inr, get_or, arith, subst}
use Rattle.std.proofs.lemmas.Bool.{cases_lt}
use Rattle.gos_verilog.specs.declared.cell_line.Kind.TheVariants as kinds
use Rattle.gos_verilog.specs.inner.Noted.{IsNoLine}
use Rattle.gos_verilog.specs.inner.Breaks.{AllMiss}
use Rattle.gos_verilog.proofs.AmongLemmas.{one_more_misses}
use Rattle.gos_verilog.proofs.LeftDriverLemmas.{KindAt, wires_miss}
use Rattle.gos_verilog.proofs.LineLemmas.{none_fits, tried}
use Rattle.gos_verilog.proofs.driven.any_line.Goals as goal

pub returns-clause-wrong : goal.returns-clause-wrong
returns-clause-wrong c f name x wire other line =
    none_fits c.likely.result c.args.i c.args.width c.args.rest.now (λ k inside. c.loop-kind.invariant.none k (omega (arith, inside, c.loop-kind-test.false))) f name x wire other line

pub loop-kind-preserved : goal.loop-kind-preserved
loop-kind-preserved c =
    let kinds_tried = tried c.likely.result in
    let i = c.args.i in
    let w = c.args.width in
    let rest = c.args.rest.now in
    let n = c.loop-kind.kind-index in
    record {
      none = λ k inside. elim (cases_lt k n) [
        | inl before ↦ c.loop-kind.invariant.none k before
        | inr over ↦ let e : n ≡ k = omega (arith, inside, over) in subst (λ (m : ℕ). IsNoLine (get_or kinds_tried m kinds.Const) i w rest) e c.in-Err.ensures.wrong
      ];
      far = one_more_misses (KindAt kinds_tried i w) rest 0 n c.loop-kind.furthest c.in-Err.at c.further-furthest.result c.loop-kind.invariant.far c.in-Err.ensures.misses
          c.further-furthest.ensures.at_least.0 c.further-furthest.ensures.at_least.1 c.further-furthest.ensures.one;
    }

pub returns-clause-misses : goal.returns-clause-misses
returns-clause-misses c =
    let all : c.loop-kind.kind-index ≡ 12 = omega (arith, c.loop-kind-test.false, c.loop-kind.auto.kind-index-end) in
    wires_miss c.likely.result c.args.i c.args.width c.args.rest.now c.loop-kind.furthest c.likely.ensures
    (subst (λ (n : ℕ). AllMiss (KindAt (tried c.likely.result) c.args.i c.args.width) c.args.rest.now 0 n c.loop-kind.furthest) all c.loop-kind.invariant.far)
