use Rattle.std.proofs.Common.{[], None, get_or, sym, ◌∙◌, refl, arith}
use Rattle.gos_lex.proofs.PlaceLemmas.{slice_nothing}
use Rattle.gos_lex.proofs.ItemLemmas.{part_more}
use Rattle.gos_lex.proofs.DecimalLemmas.{first_digit}
use Rattle.gos_lex.proofs.decimal.first_digit.Goals as goal

pub returns-clause-value : goal.returns-clause-value
returns-clause-value c =
    part_more c.args.text.now c.args.at c.args.at [] (omega arith) (omega arith) (slice_nothing c.args.text.now c.args.at)
    ∙ first_digit None (get_or c.args.text.now c.args.at 0) c.from.result refl (sym c.is_ascii_digit.ensures.value ∙ c.if-not-is_ascii_digit.false) c.from.ensures
