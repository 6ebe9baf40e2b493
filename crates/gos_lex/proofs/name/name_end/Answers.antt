use Rattle.std.proofs.Common.{arith}
use Rattle.gos_lex.proofs.NameLemmas.{name_misses, name_too_long, long_name}
use Rattle.gos_lex.proofs.name.name_end.Goals as goal

pub returns-then-len-eq0-clause-wrong : goal.returns-then-len-eq0-clause-wrong
returns-then-len-eq0-clause-wrong c = name_misses c.args.text.now c.args.at c.name_len-len.result c.requires (omega arith) c.name_len-len.ensures.longest

pub returns-else-len-le-MAX_NAME-clause-wrong : goal.returns-else-len-le-MAX_NAME-clause-wrong
returns-else-len-le-MAX_NAME-clause-wrong c =
    name_too_long c.args.text.now c.args.at c.name_len-len.result c.requires (omega arith) c.name_len-len.ensures.within (c.name_len-len.ensures.name (omega arith))

pub returns-else-len-le-MAX_NAME-clause-none : goal.returns-else-len-le-MAX_NAME-clause-none
returns-else-len-le-MAX_NAME-clause-none c =
    long_name c.args.text.now c.args.at c.name_len-len.result c.requires (omega arith) c.name_len-len.ensures.within (c.name_len-len.ensures.name (omega arith))
