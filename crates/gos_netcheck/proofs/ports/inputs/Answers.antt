use Rattle.std.proofs.Common.{◌++◌, ◌+◌, ◌∙◌, ◌<◌, ap, length, List, ℕ, map, drop, arith}
use Rattle.gos_netlist.specs.declared.nets.NetId.{NetId}
use Rattle.gos_netlist.specs.Seen.{number_of}
use Rattle.gos_netcheck.specs.PortRules.{inputs_among}
use Rattle.gos_netcheck.proofs.PortLemmas.{input_taken, output_passed}
use Rattle.gos_netcheck.proofs.ports.inputs.Goals as goal
use Rattle.gos_netcheck.proofs.ports.inputs.Goals.{then-places-i+in_ok-push, else-places-i}

pub loop-i-preserved : goal.loop-i-preserved
loop-i-preserved c =
    let all : List ℕ = inputs_among c.args.places.now (map number_of c.args.nets.now) in
    let low : c.loop-i.i < length c.args.places.now = omega (arith, c.loop-i-test.true, c.requires) in
    let rest : List ℕ = inputs_among (drop (c.loop-i.i + 1) c.args.places.now) (map number_of (drop (c.loop-i.i + 1) c.args.nets.now)) in
    elim c.if-places-i.branch [
      | then-places-i+in_ok-push w ↦
          ap (λ v. map number_of v.items ++ rest) w.inputs-is ∙ ap (λ (xs : List NetId). map number_of xs ++ rest) w.in_ok-push.ensures.items
          ∙ input_taken c.args.places.now c.args.nets.now c.loop-i.inputs.items c.loop-i.i all low c.loop-i-test.true c.loop-i.invariant w.if-places-i.true
      | else-places-i w ↦
          ap (λ v. map number_of v.items ++ rest) w.inputs-is
          ∙ output_passed c.args.places.now c.args.nets.now c.loop-i.inputs.items c.loop-i.i all low c.loop-i-test.true c.loop-i.invariant w.if-places-i.false
    ]
