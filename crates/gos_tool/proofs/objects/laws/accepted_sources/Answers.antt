use Rattle.gos_tool.proofs.lemmas.objects.CompleteLemmas.{accepted_is_not_rejected, says_one_program, says_one_term}
use Rattle.gos_tool.proofs.objects.laws.accepted_sources.Goals as goal

pub returns-clause-rejected : goal.returns-clause-rejected
returns-clause-rejected c =
    accepted_is_not_rejected c.one_reading.ensures.reading c.one_reading.ensures.refusal c.one_answer.ensures.refusal c.one_answer.ensures.tree
    c.found_exactly.ensures

pub returns-clause-program : goal.returns-clause-program
returns-clause-program c = says_one_program c.one_reading.ensures.reading c.one_answer.ensures.tree

pub returns-clause-term : goal.returns-clause-term
returns-clause-term c = says_one_term c.one_reading.ensures.reading c.one_answer.ensures.tree c.one_term.ensures
