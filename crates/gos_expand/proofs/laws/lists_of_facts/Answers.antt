use Rattle.gos_expand.proofs.PromptLemmas.{facts_make_lists}
use Rattle.gos_expand.proofs.laws.lists_of_facts.Goals as goal

pub returns : goal.returns
returns c = facts_make_lists
