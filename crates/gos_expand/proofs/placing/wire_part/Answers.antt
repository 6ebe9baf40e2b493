use Rattle.std.proofs.Common.{◌∙◌, map, arith}
use Rattle.std.proofs.lemmas.List.{length-map}
use Rattle.gos_plan.specs.Seen.{plan_of, part_of}
use Rattle.gos_expand.proofs.LeafLemmas.{some_there, there_within}
use Rattle.gos_expand.proofs.WireLemmas.{wires_hold}
use Rattle.gos_expand.specs.Starts.{Laying}
use Rattle.gos_expand.specs.inner.Numbering.{laying_in}
use Rattle.gos_expand.proofs.placing.wire_part.Goals as goal

pub returns-clause-nets : goal.returns-clause-nets
returns-clause-nets c =
    let lay : Laying = laying_in c.args.numbering.now in
    let counts = length-map c.args.plan.now.parts part_of in
    let part = c.requires.part in
    let found = some_there (map part_of c.args.plan.now.parts) c.args.part (omega (arith, counts, part)) in
    let same = c.loop-shake.invariant.0 in
    let over = c.loop-shake-test.false in
    wires_hold lay (plan_of c.args.plan.now) c.args.part found.0 c.loop-shake.wires found.1 (same ∙ c.requires.there found.0 found.1)
    (λ h w at. let within = there_within c.loop-shake.wires h w at in c.loop-shake.invariant.1 h w (omega (arith, same, over, within)) at)
