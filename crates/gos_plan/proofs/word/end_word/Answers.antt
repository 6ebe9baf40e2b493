use Rattle.std.proofs.Common.{refl}
use Rattle.gos_plan.specs.declared.word.EndWord.{EndWord}
use Rattle.gos_plan.specs.ObjectItems.{end_word_text}
use Rattle.gos_plan.proofs.TableLemmas.{words_fail}
use Rattle.gos_plan.proofs.WordLemmas.{end_table}
use Rattle.gos_plan.proofs.word.end_word.Goals as goal

pub returns-in-Err-clause-wrong : goal.returns-in-Err-clause-wrong
returns-in-Err-clause-wrong c =
    words_fail EndWord end_word_text end_table _ refl c.args.cursor.now.text c.args.cursor.now.at c.in-Err.at c.in-Err.ensures.wrong
