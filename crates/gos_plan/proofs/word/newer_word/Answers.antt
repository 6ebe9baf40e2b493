use Rattle.std.proofs.Common.{refl}
use Rattle.gos_plan.specs.declared.format.Format.TheVariants.{Two}
use Rattle.gos_plan.specs.declared.word.PartWord.{PartWord}
use Rattle.gos_plan.specs.ObjectText.{word_text}
use Rattle.gos_plan.specs.ObjectItems.{IsWordIn}
use Rattle.gos_plan.proofs.TableLemmas.{table_fails}
use Rattle.gos_plan.proofs.WordLemmas.{part_table}
use Rattle.gos_plan.proofs.word.newer_word.Goals as goal

pub returns-in-Err-clause-wrong : goal.returns-in-Err-clause-wrong
returns-in-Err-clause-wrong c =
    table_fails PartWord (IsWordIn Two) word_text (part_table Two) _ refl c.args.cursor.now.text c.args.cursor.now.at c.in-Err.at c.in-Err.ensures.wrong
