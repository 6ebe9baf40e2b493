use Rattle.std.proofs.Common.{◌∷◌, [], ◌++◌, ℕ, List, ap, ◌∙◌}
use Rattle.gos_expand.proofs.OrderLemmas.{numbers_next}
use Rattle.gos_expand.proofs.orders.numbers.Goals as goal

pub loop-number-preserved : goal.loop-number-preserved
loop-number-preserved c =
    c.in_ok-push.ensures.items
    ∙ (ap (λ (ns : List ℕ). ns ++ c.loop-number.number ∷ []) c.loop-number.invariant ∙ numbers_next c.loop-number.number)
