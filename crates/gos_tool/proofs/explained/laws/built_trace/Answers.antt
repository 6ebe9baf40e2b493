use Rattle.gos_tool.proofs.lemmas.explained.RunLemmas.{verifies_the_run}
use Rattle.gos_tool.proofs.lemmas.explained.TraceLemmas.{built_trace_is_read}
use Rattle.gos_tool.proofs.explained.laws.built_trace.Goals as goal

pub returns-clause-read : goal.returns-clause-read
returns-clause-read c = built_trace_is_read

pub returns-clause-verified : goal.returns-clause-verified
returns-clause-verified c =
    verifies_the_run c.one_build.ensures.build c.accepted_sources.ensures.program c.one_answer.ensures.labels built_trace_is_read
