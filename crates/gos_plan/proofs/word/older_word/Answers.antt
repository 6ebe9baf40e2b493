use Rattle.std.proofs.Common.{refl}
use Rattle.gos_plan.specs.declared.format.Format.TheVariants.{One}
use Rattle.gos_plan.specs.declared.word.PartWord.{PartWord}
use Rattle.gos_plan.specs.ObjectText.{word_text}
use Rattle.gos_plan.specs.ObjectItems.{IsWordIn}
use Rattle.gos_plan.proofs.TableLemmas.{table_fails}
use Rattle.gos_plan.proofs.WordLemmas.{part_table}
use Rattle.gos_plan.proofs.word.older_word.Goals as goal

pub returns-in-Err-clause-wrong : goal.returns-in-Err-clause-wrong
returns-in-Err-clause-wrong c =
    table_fails PartWord (IsWordIn One) word_text (part_table One) _ refl c.args.cursor.now.text c.args.cursor.now.at c.in-Err.at c.in-Err.ensures.wrong
