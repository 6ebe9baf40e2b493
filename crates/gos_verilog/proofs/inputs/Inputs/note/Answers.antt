use Rattle.std.proofs.Common.{◌≡◌, ℕ, List, length, Some, true, false, refl, sym, ◌∙◌, ap, slice_get}
use Rattle.std.proofs.lemmas.Option.{slice_get_read}
use Rattle.std.proofs.lemmas.Slice.Eq.{bytes_eq-Decides}
use Rattle.gos_verilog.specs.PortNets.{PortNet}
use Rattle.gos_verilog.proofs.inputs.Inputs.note.Goals as goal
use Rattle.gos_verilog.proofs.inputs.Inputs.note.Goals.{else-net-via-then-net+then-net-width+else-eq, else-net-via-then-net+else-net-width, else-net-via-else-net}

pub returns-then-eq-clause-source : goal.returns-then-eq-clause-source
returns-then-eq-clause-source c = λ _.
    let nets = c.args.nets.now in
    let k = c.in-Some.k in
    let net = c.index-nets-k.result in
    let name : List ℕ = c.as_slice.result.now in
    let same : name ≡ c.args.name.now = (bytes_eq-Decides name c.args.name.now).0 (sym c.eq.ensures ∙ c.if-eq.true) in (
      k,
      net,
      slice_get_read nets (length nets) k net refl c.if-k-nets.false c.index-nets-k.is,
      ap (λ (n : PortNet). n.input) (sym c.net.view_is) ∙ c.if-net.true,
      ap (λ (n : PortNet). n.width) (sym c.net.view_is) ∙ c.if-net-width.true,
      sym same ∙ (c.as_slice.ensures.value ∙ ap (λ (n : PortNet). n.name) c.net.view_is),
    )

pub returns-else-net-clause-noted : goal.returns-else-net-clause-noted
returns-else-net-clause-noted c k net place at width input name inside =
    let nets = c.args.nets.now in
    let known : Some c.in-Some.k ≡ Some k = sym c.in-Some.is ∙ (c.get.ensures ∙ place) in
    let here : c.in-Some.k ≡ k = cc known in
    let found : Some c.index-nets-k.result ≡ Some net =
    sym (slice_get_read nets (length nets) c.in-Some.k c.index-nets-k.result refl c.if-k-nets.false c.index-nets-k.is) ∙ (ap (slice_get nets) here ∙ at) in
    let same : c.index-nets-k.result ≡ net = cc found in
    let input_is : c.net.inside.input ≡ true = ap (λ (n : PortNet). n.input) (c.net.view_is ∙ same) ∙ input in
    let width_is : c.net.inside.width ≡ c.args.width = ap (λ (n : PortNet). n.width) (c.net.view_is ∙ same) ∙ width in
    elim c.else-net.branch [
      | else-net-via-then-net+then-net-width+else-eq w ↦
          let equal : w.as_slice.result.now ≡ c.args.name.now = w.as_slice.ensures.value ∙ (ap (λ (n : PortNet). n.name) (c.net.view_is ∙ same) ∙ sym name) in
          let both : false ≡ true = sym w.if-eq.false ∙ (w.eq.ensures ∙ (bytes_eq-Decides w.as_slice.result.now c.args.name.now).1 equal) in
          absurd (cc both)
      | else-net-via-then-net+else-net-width w ↦ absurd (w.if-net-width.false width_is)
      | else-net-via-else-net w ↦ let both : false ≡ true = sym w.if-net.false ∙ input_is in absurd (cc both)
    ]
