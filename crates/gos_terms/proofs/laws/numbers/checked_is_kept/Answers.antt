use Rattle.gos_terms.proofs.numbers.RootLemmas.{checked_is_kept}
use Rattle.gos_terms.proofs.laws.numbers.checked_is_kept.Goals as goal

pub returns : goal.returns
returns c = checked_is_kept c.typed_terms.ensures.checked
