use Rattle.gos_chain.proofs.PacedLemmas.{written_keeps_pace, tidied_keeps_pace}
use Rattle.gos_chain.proofs.kept_pace.Goals as goal

pub returns-clause-written : goal.returns-clause-written
returns-clause-written c = written_keeps_pace c.one_answer.ensures.netlist c.meaning.ensures.texts

pub returns-clause-tidied : goal.returns-clause-tidied
returns-clause-tidied c = tidied_keeps_pace c.one_answer.ensures.netlist c.meaning.ensures.texts
