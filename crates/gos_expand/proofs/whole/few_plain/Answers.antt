use Rattle.std.proofs.Common.{ℕ, sym, subst}
use Rattle.gos_plan.specs.Seen.{plan_of}
use Rattle.gos_expand.specs.Gates.{Making}
use Rattle.gos_expand.specs.inner.Orders.{IsOrderOf}
use Rattle.gos_expand.specs.inner.Choosing.{KeepsFewRings, AllPassAcross}
use Rattle.gos_expand.proofs.AcrossLemmas.{all_across}
use Rattle.gos_expand.proofs.whole.few_plain.Goals as goal

pub few-requires-clause-orders : goal.few-requires-clause-orders
few-requires-clause-orders c i k there = subst (λ (making : ℕ → Making). IsOrderOf (making i) k) (sym c.none-orders.ensures) tt

pub few-requires-clause-passing : goal.few-requires-clause-passing
few-requires-clause-passing c =
    subst (λ (making : ℕ → Making). AllPassAcross making (plan_of c.args.plan.now).parts) (sym c.none-orders.ensures) (all_across (plan_of c.args.plan.now).parts)

pub returns : goal.returns
returns c =
    subst (λ (making : ℕ → Making). KeepsFewRings making (plan_of c.args.plan.now) c.in_ok-keeps.keeps.items) c.none-orders.ensures
    c.in_ok-keeps.ensures.few
