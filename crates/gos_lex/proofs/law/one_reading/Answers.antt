use Rattle.gos_lex.proofs.OneReadingLemmas.{reads_in_one_way, faults_exclude_tokens, has_one_fault}
use Rattle.gos_lex.proofs.law.one_reading.Goals as goal

pub returns-clause-reading : goal.returns-clause-reading
returns-clause-reading c = reads_in_one_way

pub returns-clause-refusal : goal.returns-clause-refusal
returns-clause-refusal c = faults_exclude_tokens

pub returns-clause-fault : goal.returns-clause-fault
returns-clause-fault c = has_one_fault
