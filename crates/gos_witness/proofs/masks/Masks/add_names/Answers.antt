use Rattle.std.proofs.Common.{◌≡◌, ◌<◌, length, get_or, refl, sym, ◌∙◌, ap, subst, arith}
use Rattle.std.proofs.lemmas.Option.{slice_get_read}
use Rattle.gos_model.specs.Terms.{Name}
use Rattle.gos_witness.specs.NodeLists.{name_at, name_or_none}
use Rattle.gos_witness.specs.inner.PortMasks.{IsNumberOf}
use Rattle.gos_witness.proofs.KeepLemmas.{one_longer}
use Rattle.gos_witness.proofs.MaskLemmas.{one_name}
use Rattle.gos_witness.proofs.masks.Masks.add_names.Goals as goal

pub loop-number-preserved : goal.loop-number-preserved
loop-number-preserved c =
    let ports = c.args.ports.now in
    let l = c.args.list.now in
    let k = c.loop-number.number in
    let here = c.loop-number.invariant.1 in
    let end = ap length c.names-number-end.ensures in
    let less : k < length l.tables.names = grind (arith, c.loop-number-test.true, end) in
    let name : Name = c.index-names-number.result in
    let named : name ≡ name_at l.tables (length c.loop-number.self.ports.items) =
    sym (ap name_or_none
    (slice_get_read l.tables.names (length l.tables.names) k name refl less (c.index-names-number.is ∙ (λ i. get_or (c.names.ensures i) k name))))
    ∙ ap (name_at l.tables) (sym here) in
    let longer = ap length c.in_ok-push.ensures.items in
    let one = one_longer c.loop-number.self.ports.items c.port_of-found.result in (
      one_name ports l c.loop-number.self _ c.port_of-found.result c.loop-number.invariant.0 (omega (arith, less, here))
          (subst (λ (x : Name). IsNumberOf ports x c.port_of-found.result) named c.port_of-found.ensures) c.in_ok-push.ensures.items refl refl,
      omega (arith, longer, one, here),
      c.loop-number.invariant.2,
    )
