use Rattle.std.proofs.Common.{◌<◌, ℕ, length, get_or, arith, ◌∙◌}
use Rattle.std.proofs.lemmas.List.{length-set}
use Rattle.gos_netcheck.proofs.TurnLemmas.{no_net}
use Rattle.gos_netcheck.proofs.PortLemmas.{one_taken, taken_before, all_taken}
use Rattle.gos_netcheck.proofs.ports.take_all.Goals as goal

pub returns-then-taken-place : goal.returns-then-taken-place
returns-then-taken-place c =
    let net : ℕ = (get_or c.args.nets.now c.loop-net.net-index no_net).0 in
    let within : net < length c.loop-net.taken = omega (arith, c.requires c.loop-net.net-index no_net c.loop-net-test.true, c.loop-net.invariant.0) in
    record { right = λ before start. taken_before before c.loop-net.taken c.args.nets.now c.loop-net.net-index c.loop-net-test.true within c.if-taken-place.true (c.loop-net.invariant.1 before start).1 }

pub loop-net-preserved : goal.loop-net-preserved
loop-net-preserved c =
    let net : ℕ = (get_or c.args.nets.now c.loop-net.net-index no_net).0 in
    let within : net < length c.loop-net.taken = omega (arith, c.requires c.loop-net.net-index no_net c.loop-net-test.true, c.loop-net.invariant.0) in (
      length-set c.loop-net.taken net _ ∙ c.loop-net.invariant.0,
      λ before start. one_taken before c.loop-net.taken c.args.nets.now c.loop-net.net-index c.loop-net-test.true within c.if-taken-place.false (c.loop-net.invariant.1 before start),
    )

pub returns : goal.returns
returns c =
    record { right = λ before start. all_taken before c.loop-net.taken c.args.nets.now c.loop-net.net-index c.loop-net-test.false (c.loop-net.invariant.1 before start) }
