use Rattle.gos_check.proofs.TypeLemmas.{demanded_same, demanded_other}
use Rattle.gos_check.proofs.demands.demanded.Goals as goal

pub returns-then-same-clause-ok : goal.returns-then-same-clause-ok
returns-then-same-clause-ok c = demanded_same _ _ _ (c.same.ensures.0 c.if-same.true)

pub returns-else-same-clause-err : goal.returns-else-same-clause-err
returns-else-same-clause-err c = demanded_other _ _ _ (λ e. let h = c.same.ensures.1 e in cc)
