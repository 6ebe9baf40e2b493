use Rattle.std.proofs.Common.{◌∙◌, map, ap, arith}
use Rattle.gos_expand.specs.inner.Tokens.{held_nets}
use Rattle.gos_expand.proofs.DepartureLemmas.{wires_added}
use Rattle.gos_expand.proofs.departures.nets_of_wires.Goals as goal

pub loop-shake-preserved : goal.loop-shake-preserved
loop-shake-preserved c =
    let within = c.loop-shake-test.true in
    let enough = c.requires in
    ap (map held_nets) c.in_ok-push.ensures.items
    ∙ wires_added c.loop-shake.shake c.args.contacts.now c.args.wires.now _ _ c.loop-shake.nets.items c.nets_of_wire.result within (omega (arith, within, enough)) c.loop-shake.invariant c.nets_of_wire.ensures
