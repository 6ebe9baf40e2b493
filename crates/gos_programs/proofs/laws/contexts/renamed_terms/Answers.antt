use Rattle.gos_programs.proofs.contexts.RenamedLemmas.{sources_renamed, value_renamed, unfoldings_renamed}
use Rattle.gos_programs.proofs.contexts.RenamedBackLemmas.{unfoldings_back}
use Rattle.gos_programs.proofs.contexts.BesideLemmas.{acts_renamed}
use Rattle.gos_programs.proofs.laws.contexts.renamed_terms.Goals as goal

pub returns-clause-sources : goal.returns-clause-sources
returns-clause-sources c = sources_renamed

pub returns-clause-unfoldings : goal.returns-clause-unfoldings
returns-clause-unfoldings c = unfoldings_renamed

pub returns-clause-unfoldings_back : goal.returns-clause-unfoldings_back
returns-clause-unfoldings_back c = unfoldings_back

pub returns-clause-acts : goal.returns-clause-acts
returns-clause-acts c = acts_renamed

pub returns-clause-values : goal.returns-clause-values
returns-clause-values c = value_renamed
