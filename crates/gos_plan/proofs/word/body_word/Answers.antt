use Rattle.std.proofs.Common.{refl}
use Rattle.gos_plan.specs.declared.word.BodyWord.{BodyWord}
use Rattle.gos_plan.specs.ObjectItems.{body_word_text}
use Rattle.gos_plan.proofs.TableLemmas.{words_fail}
use Rattle.gos_plan.proofs.WordLemmas.{body_table}
use Rattle.gos_plan.proofs.word.body_word.Goals as goal

pub returns-in-Err-clause-wrong : goal.returns-in-Err-clause-wrong
returns-in-Err-clause-wrong c =
    words_fail BodyWord body_word_text body_table _ refl c.args.cursor.now.text c.args.cursor.now.at c.in-Err.at c.in-Err.ensures.wrong
