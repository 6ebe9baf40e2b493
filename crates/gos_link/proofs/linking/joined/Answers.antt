use Rattle.std.proofs.Common.{◌≤◌, ℕ, refl, subst, sym}
use Rattle.std.proofs.lemmas.Result.{err_from_is_err_and}
use Rattle.gos_plan.specs.Seen.{plan_of}
use Rattle.gos_plan.specs.Joining.{all_weight}
use Rattle.gos_link.specs.declared.fault.LinkFault.{LinkFault}
use Rattle.gos_link.specs.Linked.{IsWrongWhole, plans_of}
use Rattle.gos_link.proofs.linking.joined.Goals as goal

pub weight_of-requires : goal.weight_of-requires
weight_of-requires c = c.requires.counted.weight

pub returns-in_err-check_size-clause-fault : goal.returns-in_err-check_size-clause-fault
returns-in_err-check_size-clause-fault c =
    let weight : all_weight (plans_of c.args.plans.now) ≤ 32768 = subst (λ (n : ℕ). n ≤ 32768) c.weight_of.ensures c.in_ok-check_weight.ensures.light in
    let joining = rw (c.served.ensures, c.root.ensures) at c.in_ok-plan.ensures.joining in
    let p = err_from_is_err_and c.from_residual-in_err-check_size.result c.from_residual-in_err-check_size.ensures.1 in
    rw (p.1, p.2)
    (λ real b links.
    let (told, large) = c.in_err-check_size.ensures.fault real in
    subst (λ (f : LinkFault). IsWrongWhole b c.args.plans.now c.args.links.now.services f) (sym told) (
      c.args.links.now.root,
      plan_of c.in_ok-plan.plan,
      record { grounded = links.grounded; weight = weight },
      joining,
      refl,
      refl,
      large,
    ))
