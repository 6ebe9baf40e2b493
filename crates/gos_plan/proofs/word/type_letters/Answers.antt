use Rattle.std.proofs.Common.{refl}
use Rattle.gos_plan.specs.declared.word.TypeWord.{TypeWord}
use Rattle.gos_plan.specs.ObjectItems.{letters}
use Rattle.gos_plan.proofs.TableLemmas.{words_fail}
use Rattle.gos_plan.proofs.WordLemmas.{type_table}
use Rattle.gos_plan.proofs.word.type_letters.Goals as goal

pub returns-in-Err-clause-wrong : goal.returns-in-Err-clause-wrong
returns-in-Err-clause-wrong c =
    words_fail TypeWord letters type_table _ refl c.args.cursor.now.text c.args.cursor.now.at c.in-Err.at c.in-Err.ensures.wrong
