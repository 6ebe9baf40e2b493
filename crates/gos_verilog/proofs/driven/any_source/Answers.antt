use Rattle.std.proofs.Common.{◌≡◌, ◌+◌, ◌<◌, ℕ, List, length, false, true, refl, sym, ◌∙◌, ap, subst, arith}
use Rattle.std.proofs.lemmas.Option.{slice_get_read}
use Rattle.gos_lex.specs.Items.{IsJust, Misses}
use Rattle.gos_netlist.specs.Nets.{Input}
use Rattle.gos_lex.specs.ItemTexts.{Passed}
use Rattle.gos_verilog.specs.PortNets.{PortNet}
use Rattle.gos_verilog.specs.Lines.{driver_of}
use Rattle.gos_verilog.specs.inner.Breaks.{AllMiss}
use Rattle.gos_verilog.proofs.AmongLemmas.{one_more_misses, one_more_never}
use Rattle.gos_verilog.proofs.LeftDriverLemmas.{SourceAt, first_source, source_at, no_source_at, sources_miss}
use Rattle.gos_verilog.proofs.driven.any_source.Goals as goal
use Rattle.gos_verilog.proofs.driven.any_source.Goals.{then-net+then-net-width+in-Err, else-net, else-net-via-then-net+else-net-width, else-net-via-else-net}

pub loop-k-init : goal.loop-k-init
loop-k-init c = first_source c.args.nets.now c.args.i c.args.width c.args.rest.now c.args.place c.requires

pub returns-in-Ok-clause-driven : goal.returns-in-Ok-clause-driven
returns-in-Ok-clause-driven c =
    let nets = c.args.nets.now in
    let k = c.loop-k.k in
    let net = c.index-nets-k.result in
    let rest = c.args.rest.now in
    let name : c.deref.result.now ≡ net.name = c.deref.ensures.value ∙ ap (λ (n : PortNet). n.name) c.net.view_is in (
      net.name,
      (
        k,
        net,
        slice_get_read nets (length nets) k net refl c.loop-k-test.true c.index-nets-k.is,
        ap (λ (n : PortNet). n.input) (sym c.net.view_is) ∙ c.if-net.true,
        ap (λ (n : PortNet). n.width) (sym c.net.view_is) ∙ c.if-net-width.true,
        refl,
      ),
      subst (λ (s : List ℕ). Passed (record { text = rest; at = 0 }) (record { text = rest; at = c.in-Ok.len }) (driver_of c.args.i c.args.width s Input)) name (c.in-Ok.ensures.passed c.args.width),
    )

pub loop-k-preserved : goal.loop-k-preserved
loop-k-preserved c =
    let nets = c.args.nets.now in
    let i = c.args.i in
    let w = c.args.width in
    let rest = c.args.rest.now in
    let k = c.loop-k.k in
    let net = c.index-nets-k.result in
    let at = slice_get_read nets (length nets) k net refl c.loop-k-test.true c.index-nets-k.is in
    let P = SourceAt nets i w in
    let some : 0 < k + 1 = omega arith in
    elim c.if-net.branch [
      | then-net+then-net-width+in-Err b ↦
          let name : b.deref.result.now ≡ net.name = b.deref.ensures.value ∙ ap (λ (n : PortNet). n.name) c.net.view_is in
          let place = b.in-Err.at in
          let misses = subst (λ (s : List ℕ). Misses (IsJust (driver_of i w s Input)) rest 0 place) name (b.in-Err.ensures.wrong w) in
          let here = source_at nets i w k net rest place at (ap (λ (n : PortNet). n.input) (sym c.net.view_is) ∙ b.if-net.true) (ap (λ (n : PortNet). n.width) (sym c.net.view_is) ∙ b.if-net-width.true) misses in
          subst (λ (r : ℕ). AllMiss P rest 0 (k + 1 + 1) r) (sym b.furthest-is)
          (one_more_misses P rest 0 (k + 1) c.loop-k.furthest place b.further-furthest.result c.loop-k.invariant here b.further-furthest.ensures.at_least.0 b.further-furthest.ensures.at_least.1 b.further-furthest.ensures.one)
      | else-net b ↦
          let never : net.input ≡ true → net.width ≡ w → ⊥ = elim b.else-net.branch [
            | else-net-via-then-net+else-net-width d ↦ λ input width. d.if-net-width.false (ap (λ (n : PortNet). n.width) c.net.view_is ∙ width)
            | else-net-via-else-net d ↦ λ input width. let both : false ≡ true = sym d.if-net.false ∙ (ap (λ (n : PortNet). n.input) c.net.view_is ∙ input) in cc both
          ] in
          subst (λ (r : ℕ). AllMiss P rest 0 (k + 1 + 1) r) (sym b.furthest-is)
          (one_more_never P rest 0 (k + 1) c.loop-k.furthest some c.loop-k.invariant (λ bytes. no_source_at nets i w k net bytes at never))
    ]

pub returns-clause-wrong : goal.returns-clause-wrong
returns-clause-wrong c = sources_miss c.args.nets.now c.args.i c.args.width c.args.rest.now c.loop-k.k c.loop-k.furthest c.loop-k-test.false c.loop-k.invariant
