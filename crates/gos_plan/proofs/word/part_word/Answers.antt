use Rattle.std.specs.Prelude.{IfErr}
use Rattle.std.proofs.Common.{sym, subst}
use Rattle.gos_plan.specs.declared.format.Format.{Format}
use Rattle.gos_plan.specs.TextItems.{Fails}
use Rattle.gos_plan.specs.ObjectItems.{part_words}
use Rattle.gos_plan.proofs.word.part_word.Goals as goal

pub returns-in-One-clause-wrong : goal.returns-in-One-clause-wrong
returns-in-One-clause-wrong c =
    let old = c.args.cursor.now in
    subst (λ (format : Format). IfErr c.older_word.result (Fails (part_words format) old.text old.at)) (sym c.in-One.is) c.older_word.ensures.wrong

pub returns-in-Two-clause-wrong : goal.returns-in-Two-clause-wrong
returns-in-Two-clause-wrong c =
    let old = c.args.cursor.now in
    subst (λ (format : Format). IfErr c.newer_word.result (Fails (part_words format) old.text old.at)) (sym c.in-Two.is) c.newer_word.ensures.wrong
