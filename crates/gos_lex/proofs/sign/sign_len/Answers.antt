use Rattle.gos_lex.proofs.SignLemmas.{sign_is_short, none_of_one_less}
use Rattle.gos_lex.proofs.sign.sign_len.Goals as goal

pub returns-then-begins-clause-longest : goal.returns-then-begins-clause-longest
returns-then-begins-clause-longest c = sign_is_short c.args.text.now

pub returns-then-begins-2-clause-longest : goal.returns-then-begins-2-clause-longest
returns-then-begins-2-clause-longest c =
    none_of_one_less c.args.text.now 1 c.begins.result c.if-begins.false c.begins.ensures.none (sign_is_short c.args.text.now)

pub returns-else-begins-2-clause-longest : goal.returns-else-begins-2-clause-longest
returns-else-begins-2-clause-longest c =
    none_of_one_less c.args.text.now 0 c.begins-else-begins.result c.if-begins-2.false c.begins-else-begins.ensures.none
    (none_of_one_less c.args.text.now 1 c.begins.result c.if-begins.false c.begins.ensures.none (sign_is_short c.args.text.now))
