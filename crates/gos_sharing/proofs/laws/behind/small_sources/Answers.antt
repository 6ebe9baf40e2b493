use Rattle.gos_sharing.proofs.behind.SmallSourceLemmas.{whole_has_imports, argument_has_not}
use Rattle.gos_sharing.proofs.laws.behind.small_sources.Goals as goal

pub returns-clause-whole : goal.returns-clause-whole
returns-clause-whole c = whole_has_imports

pub returns-clause-argument : goal.returns-clause-argument
returns-clause-argument c = argument_has_not
