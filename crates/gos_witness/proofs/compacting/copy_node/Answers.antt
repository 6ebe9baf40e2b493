use Rattle.std.proofs.Common.{rules, ◌≡◌, Option, Some, sym, subst, ◌∙◌}
use Rattle.std.specs.Prelude.{IfSome}
use Rattle.gos_witness.specs.declared.nodes.Form.{Form}
use Rattle.gos_witness.specs.inner.Compaction.{IsMoved}
use Rattle.gos_witness.proofs.CompactLemmas.{moved_fits, moved_shape}
use Rattle.gos_witness.proofs.compacting.copy_node.Goals as goal

pub push-requires : goal.push-requires
push-requires c =
    let l = c.args.list.now in
    let k = c.args.kept.now in
    let f = c.form-known.result in
    let found : c.moved.result ≡ Some c.in-Some.form = search rules in
    let is : IsMoved l k f c.in-Some.form =
    subst (λ (o : Option Form). IfSome o (IsMoved l k f)) found (c.moved.ensures l k c.requires.begins c.requires.places) in
    moved_fits l k c.args.number f c.in-Some.form c.requires.begins.tables c.form-known.ensures.fits is

pub returns-clause-place : goal.returns-clause-place
returns-clause-place c =
    let l = c.args.list.now in
    let k = c.args.kept.now in
    let f = c.form-known.result in
    let found : c.moved.result ≡ Some c.in-Some.form = search rules in
    let is : IsMoved l k f c.in-Some.form =
    subst (λ (o : Option Form). IfSome o (IsMoved l k f)) found (c.moved.ensures l k c.requires.begins c.requires.places) in (
      c.in_ok-place.ensures.there,
      c.in_ok-place.ensures.term ∙ moved_shape l k c.args.number f c.in-Some.form c.requires.begins.tables c.form-known.ensures.fits is
          ∙ sym c.form-known.ensures.term,
    )
