use Rattle.std.proofs.Common.{◌≡◌, ℕ, Bool, List, subst, sym}
use Rattle.gos_netlist.specs.Nets.{Netlist}
use Rattle.gos_order.specs.Depths.{AreDepths}
use Rattle.gos_plan.specs.Plans.{Plan}
use Rattle.gos_plan.specs.Seen.{plan_of}
use Rattle.gos_expand.specs.Gates.{Making}
use Rattle.gos_expand.specs.Starts.{chosen}
use Rattle.gos_expand.specs.Laid.{circuit}
use Rattle.gos_expand.specs.Acceptance.{CanBeLaid}
use Rattle.gos_expand.specs.Fast.{IsFast, IsFastOf}
use Rattle.gos_expand.specs.inner.Choosing.{AllPassAcross}
use Rattle.gos_expand.specs.inner.Numbering.{laying}
use Rattle.gos_expand.specs.inner.Orders.{making_in, AreOrdersOf}
use Rattle.gos_expand.proofs.OrderLemmas.{orders_by_number, across_by_numbers}
use Rattle.gos_expand.proofs.WholeLemmas.{both_then}
use Rattle.gos_expand.proofs.PartRankLemmas.{laid_fast}
use Rattle.gos_expand.proofs.FastLemmas.{fast_accepted, fast_small}
use Rattle.gos_expand.proofs.whole.expand_fast.Goals as goal

pub few-requires-clause-orders : goal.few-requires-clause-orders
few-requires-clause-orders c =
    let p : Plan = plan_of c.args.plan.now in
    subst (λ (making : ℕ → Making). AreOrdersOf making p.parts) (sym c.in_ok-numbers.ensures) (orders_by_number p.parts)

pub few-requires-clause-passing : goal.few-requires-clause-passing
few-requires-clause-passing c =
    let p : Plan = plan_of c.args.plan.now in
    subst (λ (making : ℕ → Making). AllPassAcross making p.parts) (sym c.in_ok-numbers.ensures) (across_by_numbers p.parts)

pub returns : goal.returns
returns c =
    let p : Plan = plan_of c.args.plan.now in
    let making : ℕ → Making = making_in c.in_ok-orders.orders in
    let depths : List ℕ = c.deref.result.now in
    let fast : (net : Netlist) → net ≡ circuit (laying (chosen c.deref-2.result.now) making) p c.args.root.now → CanBeLaid c.args.plan.now c.args.root.now
    → IsFastOf p c.args.root.now net =
    λ net made can. (
      laying (chosen c.deref-2.result.now) making,
      subst (λ (keeps : List Bool). IsFast p (laying (chosen keeps) making)) (sym c.deref-2.ensures.value)
          (laid_fast c.args.plan.now c.args.root.now can (making_in c.in_ok-numbers.numbers) making c.in_ok-keep.keep.items c.in_ok-keep.graph depths
          c.in_ok-numbers.ensures c.in_ok-keep.ensures.few c.in_ok-keep.ensures.graph
          (subst (λ (ds : List ℕ). AreDepths c.in_ok-keep.graph ds) (sym c.deref.ensures.value) c.in_ok-depths.ensures) c.in_ok-keep.ensures.right
          (c.in_ok-orders.ensures.follow (chosen c.in_ok-keep.keep.items))),
      made,
    ) in
    record {
      fast = both_then c.lay_out.result c.lay_out.ensures.laid c.lay_out.ensures.can fast;
      accepted =
          both_then c.lay_out.result c.lay_out.ensures.laid c.lay_out.ensures.can
          (λ net made can. fast_accepted c.args.plan.now c.args.root.now net can (fast net made can));
      few =
          both_then c.lay_out.result c.lay_out.ensures.laid c.lay_out.ensures.can
          (λ net made can. fast_small c.args.plan.now c.args.root.now net can (fast net made can));
    }
