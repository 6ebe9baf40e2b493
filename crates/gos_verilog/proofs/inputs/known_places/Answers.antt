use Rattle.std.proofs.Common.{◌+◌, length, refl, sym, ◌∙◌, ap, subst}
use Rattle.std.proofs.lemmas.Option.{slice_get_read}
use Rattle.gos_verilog.specs.PortNets.{PortNet}
use Rattle.gos_verilog.specs.inner.Noted.{HasPlaces}
use Rattle.gos_verilog.proofs.PlacedLemmas.{place_passes, place_more}
use Rattle.gos_verilog.proofs.inputs.known_places.Goals as goal
use Rattle.gos_verilog.proofs.inputs.known_places.Goals.{then-net+in_ok-to_vec+in_ok-add, else-net}

pub loop-k-preserved : goal.loop-k-preserved
loop-k-preserved c = λ own.
    let nets = c.args.nets.now in
    let k = c.loop-k.k in
    let net = c.index-nets-k.result in
    let at = slice_get_read nets (length nets) k net refl c.loop-k-test.true c.index-nets-k.is in
    elim c.if-net.branch [
      | then-net+in_ok-to_vec+in_ok-add w ↦
          subst (HasPlaces nets (k + 1)) (sym w.places-is)
          (place_more nets c.loop-k.places w.add.new.self k net w.in_ok-to_vec.field-0.items at (w.in_ok-to_vec.ensures.items_if_clones_equal (λ x y e. e) ∙ (w.deref.ensures.value ∙ ap (λ (n : PortNet). n.name) c.net.view_is)) own w.in_ok-add.ensures (c.loop-k.invariant own))
      | else-net w ↦
          subst (HasPlaces nets (k + 1)) (sym w.places-is)
          (place_passes nets c.loop-k.places k net at (ap (λ (n : PortNet). n.input) (sym c.net.view_is) ∙ w.if-net.false) (c.loop-k.invariant own))
    ]
