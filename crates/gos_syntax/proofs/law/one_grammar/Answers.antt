use Rattle.gos_syntax.proofs.SpellingLemmas.{module_spelled}
use Rattle.gos_syntax.proofs.MeaningLemmas.{module_derived}
use Rattle.gos_syntax.proofs.law.one_grammar.Goals as goal

pub returns-clause-spelled : goal.returns-clause-spelled
returns-clause-spelled c = module_spelled

pub returns-clause-derived : goal.returns-clause-derived
returns-clause-derived c = module_derived
