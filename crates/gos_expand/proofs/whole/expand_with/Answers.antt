use Rattle.std.proofs.Common.{◌≤◌, length, subst, sym}
use Rattle.gos_netlist.specs.Nets.{Netlist}
use Rattle.gos_netlist.specs.Cycles.{HasCycle}
use Rattle.gos_netcheck.specs.Accepted.{IsAccepted}
use Rattle.gos_plan.specs.Seen.{plan_of}
use Rattle.gos_plan.specs.Size.{plan_size}
use Rattle.gos_expand.specs.Starts.{Keep, chosen}
use Rattle.gos_expand.proofs.AcceptLemmas.{laid_accepted}
use Rattle.gos_expand.proofs.FewLemmas.{laid_small}
use Rattle.gos_expand.proofs.WholeLemmas.{both_then}
use Rattle.gos_expand.proofs.whole.expand_with.Goals as goal

pub returns-clause-accepted : goal.returns-clause-accepted
returns-clause-accepted c =
    let keep : Keep = chosen c.args.keep.now in
    both_then c.lay_out_plain.result c.lay_out_plain.ensures.laid c.lay_out_plain.ensures.can
    (λ net is can.
    subst (λ (n : Netlist). (HasCycle n.cells → ⊥) → IsAccepted n) (sym is) (laid_accepted keep c.args.plan.now c.args.root.now can))

pub returns-clause-few : goal.returns-clause-few
returns-clause-few c =
    let keep : Keep = chosen c.args.keep.now in
    both_then c.lay_out_plain.result c.lay_out_plain.ensures.laid c.lay_out_plain.ensures.can
    (λ net is can.
    subst (λ (n : Netlist). length n.cells ≤ plan_size (plan_of c.args.plan.now)) (sym is) (laid_small keep c.args.plan.now c.args.root.now can))
