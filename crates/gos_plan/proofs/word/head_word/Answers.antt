use Rattle.std.proofs.Common.{refl}
use Rattle.gos_plan.specs.declared.format.Format.{Format}
use Rattle.gos_plan.specs.Formats.{head_text}
use Rattle.gos_plan.proofs.TableLemmas.{words_fail}
use Rattle.gos_plan.proofs.WordLemmas.{head_table}
use Rattle.gos_plan.proofs.word.head_word.Goals as goal

pub returns-in-Err-clause-wrong : goal.returns-in-Err-clause-wrong
returns-in-Err-clause-wrong c =
    words_fail Format head_text head_table _ refl c.args.cursor.now.text c.args.cursor.now.at c.in-Err.at c.in-Err.ensures.wrong
