use Rattle.gos_syntax.proofs.PrintedLemmas.{module_reads}
use Rattle.gos_syntax.proofs.TextLemmas.{module_prints}
use Rattle.gos_syntax.proofs.law.printed_module.Goals as goal

pub returns-clause-tokens : goal.returns-clause-tokens
returns-clause-tokens c = module_reads

pub returns-clause-text : goal.returns-clause-text
returns-clause-text c = module_prints
