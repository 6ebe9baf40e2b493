use Rattle.std.specs.Prelude.{[], ◌∷◌}
use Rattle.gos_tidy.proofs.MarkLemmas.{grows_on}
use Rattle.gos_tidy.proofs.marking.Marking.mark_two.Goals as goal

pub returns : goal.returns
returns c = grows_on (c.args.a.0 ∷ []) (c.args.b.0 ∷ []) _ _ _ _ _ _ c.in_ok-mark.ensures c.in_ok-mark-2.ensures
