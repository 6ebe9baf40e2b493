use Rattle.std.proofs.Common.{◌≤◌, length, subst, sym}
use Rattle.gos_netlist.specs.Nets.{Netlist}
use Rattle.gos_netcheck.specs.Accepted.{IsAccepted}
use Rattle.gos_plan.specs.Plans.{Plan}
use Rattle.gos_plan.specs.Seen.{plan_of}
use Rattle.gos_plan.specs.Size.{plan_size}
use Rattle.gos_expand.specs.Starts.{chosen}
use Rattle.gos_expand.specs.Choices.{IsLaidBy}
use Rattle.gos_expand.specs.inner.Choosing.{IsChoiceOf}
use Rattle.gos_expand.proofs.FewLemmas.{laid_small}
use Rattle.gos_expand.proofs.WholeLemmas.{both_then}
use Rattle.gos_expand.proofs.PolicyLemmas.{laid_by, accepted_by}
use Rattle.gos_expand.proofs.whole.expand.Goals as goal

pub returns-clause-laid : goal.returns-clause-laid
returns-clause-laid c =
    let p : Plan = plan_of c.args.plan.now in
    let is : IsChoiceOf c.args.policy p c.deref.result.now =
    subst (IsChoiceOf c.args.policy p) (sym c.deref.ensures.value) c.in_ok-keep.ensures in
    both_then c.lay_out_plain.result c.lay_out_plain.ensures.laid c.lay_out_plain.ensures.can
    (λ net made can. subst (IsLaidBy c.args.policy p c.args.root.now) (sym made) (laid_by c.args.policy c.args.plan.now c.args.root.now can c.deref.result.now is))

pub returns-clause-accepted : goal.returns-clause-accepted
returns-clause-accepted c =
    let p : Plan = plan_of c.args.plan.now in
    let is : IsChoiceOf c.args.policy p c.deref.result.now =
    subst (IsChoiceOf c.args.policy p) (sym c.deref.ensures.value) c.in_ok-keep.ensures in
    both_then c.lay_out_plain.result c.lay_out_plain.ensures.laid c.lay_out_plain.ensures.can
    (λ net made can. subst IsAccepted (sym made) (accepted_by c.args.policy c.args.plan.now c.args.root.now can c.deref.result.now is))

pub returns-clause-few : goal.returns-clause-few
returns-clause-few c =
    both_then c.lay_out_plain.result c.lay_out_plain.ensures.laid c.lay_out_plain.ensures.can
    (λ net made can.
    subst (λ (n : Netlist). length n.cells ≤ plan_size (plan_of c.args.plan.now)) (sym made)
    (laid_small (chosen c.deref.result.now) c.args.plan.now c.args.root.now can))
