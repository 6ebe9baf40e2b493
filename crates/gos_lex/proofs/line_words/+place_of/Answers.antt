use Rattle.gos_lex.proofs.LineWordLemmas.{none_of_all, first_is}
use Rattle.gos_lex.proofs.line_words.+place_of.Goals as goal

pub returns-in-None : goal.returns-in-None
returns-in-None t c = none_of_all c.args.word.now c.args.words.now c.in-len1-up.len_at_least (first_is c.args.word.now c.args.words.now c.if-eq.ensures) c.in-None.ensures
