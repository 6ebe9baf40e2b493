use Rattle.std.proofs.Common.{◌≡◌, ◌+◌, ◌-◌, ℕ, take, sym, subst, arith}
use Rattle.gos_lex.specs.Items.{Begins, StopsAt}
use Rattle.gos_verilog.specs.inner.Faces.{IsFirstName}
use Rattle.gos_verilog.proofs.FreeLemmas.{begins_size, contrary, nothing_begins, reached, take_size}
use Rattle.gos_verilog.proofs.faces.reach.Goals as goal

pub loop-n-init : goal.loop-n-init
loop-n-init c =
    record {
      within = c.most-n.ensures.within;
      none = λ inside begins.
          let rest = c.args.rest.now in
          let size = begins_size c.args.places.now _ begins in
          let n = c.most-n.ensures.all inside in
          omega (arith, size, n, take_size (c.most-n.result + 1) rest (omega (arith, inside)));
    }

pub returns-then-branch : goal.returns-then-branch
returns-then-branch c = reached c.args.places.now c.args.rest.now c.loop-n.n c.loop-n.invariant.within (c.in_ok-may_begin.ensures.0 c.if-branch.true) c.loop-n.invariant.none

pub loop-n-preserved : goal.loop-n-preserved
loop-n-preserved c =
    let places = c.args.places.now in
    let rest = c.args.rest.now in
    let n = c.loop-n.n in
    let e : n - 1 + 1 ≡ n = omega (arith, c.loop-n-test.true) in
    record {
      within = omega (arith, c.loop-n.invariant.within);
      none = λ inside begins. contrary (c.in_ok-may_begin.ensures.1 (subst (λ (m : ℕ). Begins (IsFirstName places) (take m rest)) e begins)) c.if-branch.false;
    }

pub returns : goal.returns
returns c =
    let places = c.args.places.now in
    let rest = c.args.rest.now in
    let e : c.loop-n.n ≡ 0 = omega (arith, c.loop-n-test.false) in
    subst (λ (m : ℕ). StopsAt (IsFirstName places) rest 0 m) e
    (reached places rest c.loop-n.n c.loop-n.invariant.within (subst (λ (m : ℕ). Begins (IsFirstName places) (take m rest)) (sym e) (nothing_begins places c.args.faces.now c.requires.known c.requires.few)) c.loop-n.invariant.none)
