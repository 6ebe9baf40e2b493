use Rattle.std.proofs.Common.{rules, ◌≡◌, ◌<◌, ◌≤◌, ◌^◌, [], ap, sym, subst, arith, length, ℕ, List, replicate}
use Rattle.gos_order.specs.Rings.{Graph, Edge, HasRing}
use Rattle.gos_order.specs.inner.NodeLists.{at}
use Rattle.gos_order.specs.inner.Levels.{AreRising}
use Rattle.gos_order.proofs.LevelLemmas.{rising_empty, ringless_empty, low_zero}
use Rattle.gos_order.proofs.order.Order.new.Goals as goal

pub invariant_of-result : goal.invariant_of-result
invariant_of-result c =
    let none : c.in_ok-links.links.edges ≡ [] = ap (λ (g : Graph). g.edges) c.in_ok-links.ensures in
    let levels = c.in_ok-levels.levels.items in
    let zeros : levels ≡ replicate c.args.nodes 0 = search rules in
    record {
      levels = search rules;
      before = search rules;
      behind = search rules;
      rising = subst (λ (edges : List Edge). AreRising edges levels) (sym none) (rising_empty levels);
      low = λ node. subst (λ (xs : List ℕ). at xs node ≤ length c.in_ok-links.links.edges) (sym zeros) (low_zero c.args.nodes node (length c.in_ok-links.links.edges));
      small = subst (λ (edges : List Edge). length edges < 2 ^ 63) (sym none) (omega arith);
      ringless = subst (λ (edges : List Edge). HasRing edges → ⊥) (sym none) ringless_empty;
    }
