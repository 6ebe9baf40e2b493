use Rattle.std.proofs.Common.{refl}
use Rattle.gos_plan.specs.declared.word.LengthWord.{LengthWord}
use Rattle.gos_plan.specs.ObjectItems.{length_text}
use Rattle.gos_plan.proofs.TableLemmas.{words_fail}
use Rattle.gos_plan.proofs.WordLemmas.{length_table}
use Rattle.gos_plan.proofs.word.length_word.Goals as goal

pub returns-in-Err-clause-wrong : goal.returns-in-Err-clause-wrong
returns-in-Err-clause-wrong c =
    words_fail LengthWord length_text length_table _ refl c.args.cursor.now.text c.args.cursor.now.at c.in-Err.at c.in-Err.ensures.wrong
