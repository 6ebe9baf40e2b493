use Rattle.gos_check.proofs.TermLemmas.{term_is_one}
use Rattle.gos_check.proofs.laws.one_term.Goals as goal

pub returns : goal.returns
returns c = term_is_one
