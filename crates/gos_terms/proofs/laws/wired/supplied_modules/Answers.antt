use Rattle.gos_terms.proofs.wired.ModuleLemmas.{supplied_is_wired}
use Rattle.gos_terms.proofs.laws.wired.supplied_modules.Goals as goal

pub returns : goal.returns
returns c = supplied_is_wired
