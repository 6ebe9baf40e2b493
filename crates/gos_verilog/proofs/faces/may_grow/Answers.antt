use Rattle.std.proofs.Common.{◌≡◌, length, refl, subst}
use Rattle.std.proofs.lemmas.Option.{slice_get_read}
use Rattle.gos_netcheck.proofs.RuleLemmas.{kept_more, kept_all}
use Rattle.gos_verilog.specs.inner.Faces.{Face'}
use Rattle.gos_verilog.proofs.FreeLemmas.{contrary, IsShorter, none_begins, one_begins, other_begins, no_free}
use Rattle.gos_verilog.proofs.faces.may_grow.Goals as goal

pub returns-then-is_free : goal.returns-then-is_free
returns-then-is_free c = ((λ _. none_begins c.args.places.now c.args.bytes.now (c.is_free.ensures.0 c.if-is_free.true)), (λ _. refl))

pub returns-then-branch : goal.returns-then-branch
returns-then-branch c = ((λ _. one_begins c.args.places.now c.args.bytes.now (c.in_ok-grows.ensures.0 c.if-branch.true)), (λ _. refl))

pub returns-then-branch-2 : goal.returns-then-branch-2
returns-then-branch-2 c = (
  (λ _.
      let found = c.in_ok-grows_behind.ensures.is c.if-branch-2.true in
      other_begins c.args.places.now c.args.bytes.now c.face.inside.name.now found.0 found.1 found.2),
  (λ _. refl),
)

pub loop-face-preserved : goal.loop-face-preserved
loop-face-preserved c =
    let faces = c.args.faces.now in
    let k = c.loop-face.face-index in
    let v = c.face-item.result in
    let at = slice_get_read faces (length faces) k v refl c.loop-face-test.true c.face-item.is in
    let same : (c.face.inside.first, c.face.inside.name.now) ≡ v = c.face.view_is in
    kept_more (IsShorter c.args.places.now c.args.bytes.now) faces k v at c.loop-face.invariant
    (subst (λ (u : Face'). IsShorter c.args.places.now c.args.bytes.now k u) same (c.in_ok-grows_behind.ensures.none c.if-branch-2.false))

pub returns : goal.returns
returns c = (
  (λ yes. absurd (contrary yes refl)),
  (λ begins.
      absurd
      (no_free c.args.places.now c.args.faces.now c.args.bytes.now c.requires (λ free. contrary (c.is_free.ensures.1 free) c.if-is_free.false) (λ grows. contrary (c.in_ok-grows.ensures.1 grows) c.if-branch.false)
      (kept_all (IsShorter c.args.places.now c.args.bytes.now) c.args.faces.now c.loop-face.face-index c.loop-face-test.false c.loop-face.invariant) begins)),
)
