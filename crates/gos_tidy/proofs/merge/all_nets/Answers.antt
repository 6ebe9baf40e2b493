use Rattle.std.specs.Prelude.{List, ℕ}
use Rattle.std.proofs.Common.{sym, subst, ◌+◌}
use Rattle.gos_tidy.specs.inner.Roots.{AreAll}
use Rattle.gos_tidy.proofs.WholeLemmas.{all_more}
use Rattle.gos_tidy.proofs.merge.all_nets.Goals as goal

pub loop-n-preserved : goal.loop-n-preserved
loop-n-preserved c =
    let All : List ℕ → Type 0 = λ nets. AreAll (c.loop-n.n + 1) nets in
    subst All (sym c.in_ok-push.ensures.items) (all_more c.loop-n.n c.loop-n.nets.items c.loop-n.invariant)
