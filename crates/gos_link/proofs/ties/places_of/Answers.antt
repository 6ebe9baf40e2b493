use Rattle.std.proofs.Common.{◌≡◌, ◌∙◌, ◌+◌, ap, arith}
use Rattle.gos_ties.specs.declared.points.Place.{Place}
use Rattle.gos_link.specs.inner.Wired.{place_bound, place_of_import}
use Rattle.gos_link.proofs.TieLemmas.{places_more, rank_more, grown}
use Rattle.gos_link.proofs.ties.places_of.Goals as goal

pub loop-number-preserved : goal.loop-number-preserved
loop-number-preserved c =
    let (are, size, stay, few) = c.loop-number.invariant in
    let q : Place = c.place_of_import.result in
    let is : q ≡ place_of_import c.args.services.now c.args.plan c.args.from c.loop-number.number =
    c.place_of_import.ensures ∙ (λ t. place_bound (c.number_bound-bound.ensures.number t) (stay t)) in
    let small = c.stays-stay.ensures.small in (
      places_more c.args.services.now c.args.plan c.loop-number.number c.args.from c.loop-number.each.items c.push.new.self.items q are size is c.in_ok-push.ensures.items,
      grown c.loop-number.each.items c.push.new.self.items q c.loop-number.number size c.in_ok-push.ensures.items,
      rank_more c.args.services.now c.args.plan c.loop-number.number c.args.from c.loop-number.stay (c.loop-number.stay + c.stays-stay.result)
          c.number_bound-bound.result stay c.number_bound-bound.ensures.number (ap (λ n. c.loop-number.stay + n) c.stays-stay.ensures.value),
      omega (arith, few, small),
    )
