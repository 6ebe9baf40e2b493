use Rattle.std.proofs.Common.{ℕ, List, subst, ◌≡◌, rules, length}
use Rattle.std.proofs.lemmas.Fn.{always_returns_same}
use Rattle.std.proofs.lemmas.List.Sorted.{IsNonDecreasingBy-from_sort_by_key, ties_still_rise}
use Rattle.std.specs.List.Sorted.{IsStableByKey}
use Rattle.std.specs.Ordering.{nat_cmp}
use Rattle.gos_netlist.specs.Settling.{at}
use Rattle.gos_gates.specs.inner.Orders.{numbers_from}
use Rattle.gos_gates.proofs.OrderLemmas.{numbers_sorted}
use Rattle.gos_gates.proofs.order.by_level.Goals as goal

pub returns-clause-ordered : goal.returns-clause-ordered
returns-clause-ordered c =
    record {
      rising = λ i j le low. IsNonDecreasingBy-from_sort_by_key (at c.args.levels.now) _ c.in_ok-sort_by_key.ensures.sorted (λ a r q k. search rules) i j 0 le low;
      numbers = λ k low same.
          ties_still_rise (λ x. x) (at c.args.levels.now) (numbers_from 0 (length c.args.levels.now)) c.sort_by_key.new.self.items (numbers_sorted 0 (length c.args.levels.now))
          (let P : List ℕ → Type 0 = λ xs. IsStableByKey (at c.args.levels.now) nat_cmp xs c.sort_by_key.new.self.items in
          subst P c.in_ok-order.ensures (c.in_ok-sort_by_key.ensures.stable (at c.args.levels.now) (always_returns_same _ (λ a r. r ≡ at c.args.levels.now a.0.now) _ (λ a r q k. search rules))))
          k 0 low same;
    }
