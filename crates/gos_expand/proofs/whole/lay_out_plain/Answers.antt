use Rattle.std.proofs.Common.{◌≡◌, ℕ, sym, subst}
use Rattle.gos_netlist.specs.Nets.{Netlist}
use Rattle.std.specs.Prelude.{IfOk}
use Rattle.gos_plan.specs.Seen.{plan_of}
use Rattle.gos_expand.specs.Gates.{Making}
use Rattle.gos_expand.specs.Starts.{chosen}
use Rattle.gos_expand.specs.Laid.{circuit}
use Rattle.gos_expand.specs.inner.Numbering.{laying}
use Rattle.gos_expand.specs.inner.Orders.{IsOrderOf}
use Rattle.gos_expand.proofs.whole.lay_out_plain.Goals as goal

pub lay_out-requires-clause-orders : goal.lay_out-requires-clause-orders
lay_out-requires-clause-orders c i k there = subst (λ (making : ℕ → Making). IsOrderOf (making i) k) (sym c.none-orders.ensures) tt

pub returns-clause-laid : goal.returns-clause-laid
returns-clause-laid c =
    subst
    (λ (making : ℕ → Making).
    IfOk c.lay_out.result (λ (net : Netlist). net ≡ circuit (laying (chosen c.args.keep.now) making) (plan_of c.args.plan.now) c.args.root.now))
    c.none-orders.ensures c.lay_out.ensures.laid
