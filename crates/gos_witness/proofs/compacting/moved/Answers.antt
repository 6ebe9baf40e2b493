use Rattle.std.proofs.Common.{rules, ◌≡◌, ℕ, Option, Some, sym, subst, refl}
use Rattle.std.specs.Prelude.{IfSome}
use Rattle.gos_witness.specs.declared.nodes.Form.{Form}
use Rattle.gos_witness.specs.declared.nodes.Form.TheVariants as forms
use Rattle.gos_witness.specs.inner.Compaction.{IsCopy, IsMoved}
use Rattle.gos_witness.proofs.compacting.moved.Goals as goal

pub returns-in_ok-c-in-If : goal.returns-in_ok-c-in-If
returns-in_ok-c-in-If c = λ old new begins places.
    let p = c.in_ok-a-in-If.a in
    let q = c.in_ok-b-in-If.b in
    let r = c.in_ok-c-in-If.c in
    let at : c.place_of-in-If.result ≡ Some p = search rules in
    let bt : c.place_of-in-If-2.result ≡ Some q = search rules in
    let ct : c.place_of-in-If-3.result ≡ Some r = search rules in
    subst (λ (f : Form). IsMoved old new f (forms.If p q r)) (sym c.in-If.is) (
      p,
      q,
      r,
      refl,
      subst (λ (o : Option ℕ). IfSome o (IsCopy old new c.in-If.a)) at (c.place_of-in-If.ensures old new begins places),
      subst (λ (o : Option ℕ). IfSome o (IsCopy old new c.in-If.b)) bt (c.place_of-in-If-2.ensures old new begins places),
      subst (λ (o : Option ℕ). IfSome o (IsCopy old new c.in-If.c)) ct (c.place_of-in-If-3.ensures old new begins places),
    )
