use Rattle.std.proofs.Common.{◌<◌, length, sym, subst, get_or, arith}
use Rattle.std.proofs.lemmas.List.{get_or_default}
use Rattle.std.proofs.lemmas.List.Edits.{map_over_more}
use Rattle.gos_netlist.specs.declared.nets.NetId.{NetId}
use Rattle.gos_netlist.specs.Seen.{number_of}
use Rattle.gos_expand.specs.inner.Raised.{raised_net}
use Rattle.gos_expand.proofs.IntoLemmas.{untouched}
use Rattle.gos_expand.proofs.into.raise_nets.Goals as goal

pub raised_net-requires-clause-net : goal.raised_net-requires-clause-net
raised_net-requires-clause-net c =
    let within : c.loop-net.net-index < length c.args.nets.now = c.loop-net-test.true in
    subst (λ (net : NetId). number_of net < 5000000)
    (sym (untouched (raised_net c.args.by) c.args.nets.now c.loop-net.nets c.loop-net.net-index (record { 0 = 0 }) within c.loop-net.invariant))
    (c.requires.nets c.loop-net.net-index (record { 0 = 0 }) within)

pub loop-net-preserved : goal.loop-net-preserved
loop-net-preserved c =
    let within : c.loop-net.net-index < length c.args.nets.now = c.loop-net-test.true in
    let here : c.loop-net.net-index < length c.loop-net.nets = omega (arith, within, c.loop-net.auto.nets) in
    let net : NetId = get_or c.loop-net.nets c.loop-net.net-index (record { 0 = 0 }) in
    rw c.raised_net.ensures
    (map_over_more (raised_net c.args.by) c.args.nets.now c.loop-net.nets c.loop-net.net-index net within c.loop-net.invariant
    (get_or_default c.loop-net.nets c.loop-net.net-index _ net here))
