use Rattle.std.proofs.Common.{◌≡◌, ◌∙◌, map, refl, ap, arith}
use Rattle.gos_netlist.specs.Seen.{number_of}
use Rattle.gos_expand.specs.Blocks.{nets_on}
use Rattle.gos_expand.proofs.PortLemmas.{nets_added}
use Rattle.gos_expand.proofs.outside.port.Goals as goal

pub loop-place-preserved : goal.loop-place-preserved
loop-place-preserved c =
    ap (map number_of) c.in_ok-push.ensures.items ∙ nets_added c.args.start c.loop-place.place c.loop-place.nets.items _ c.loop-place.invariant refl

pub returns : goal.returns
returns c =
    let over = c.loop-place-test.false in
    let within = c.loop-place.auto.place-end in
    let end : c.loop-place.place ≡ c.port_cells-place-end.result = omega (arith, over, within) in
    let nets = c.loop-place.invariant ∙ ap (nets_on c.args.start) (end ∙ c.port_cells-place-end.ensures.is) in
    rw (nets, c.in_ok-copied.ensures, c.ground_of.ensures) refl
