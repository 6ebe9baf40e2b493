use Rattle.gos_expand.proofs.OneLayoutLemmas.{laid_by_is_one}
use Rattle.gos_expand.proofs.laws.one_layout.Goals as goal

pub returns : goal.returns
returns c = laid_by_is_one
